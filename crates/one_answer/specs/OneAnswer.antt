-- One answer (SPECIFICATION 14): for each input, refused ones too, a contract admits one answer and one content of
-- lent memory.
use Rattle.std.specs.Prelude.{◌≡◌}

-- `Post` is what a function's contract asks of its result r and of its parameters at exit s, by its arguments a. `left` is the answer
-- with all memory that was lent to be written. Two runs that meet the contract with the same arguments answer and leave the same.
abbrev pub OneAnswer : {K A R S L : Type 0} → (K → A → R → S → Type 0) → (R → S → L) → Type 0
OneAnswer {K} {A} {R} {S} {L} Post left =
    (κs : K) (a : A) (r q : R) (s t : S) → Post κs a r s → Post κs a q t → left r s ≡ left q t

-- an answer, and what is left beside it
pub record Pair (A B : Type 0) : Type 0 where
  pub answer : A
  pub lent : B

abbrev pub pair_of : {A B : Type 0} → A → B → Pair A B
pair_of a b = record { answer = a; lent = b }
