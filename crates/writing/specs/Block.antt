-- Writing into a lent block: what is answered, and what the block then holds (SPECIFICATION 16.4).
use Rattle.std.specs.Prelude.{ℕ, cond, List, [], ◌∷◌, ◌++◌, leb, length, Err, Ok, Result}
use Rattle.std.proofs.lemmas.List.Edits.{sets}
use Rattle.refusal.specs.declared.Refusal.{Refusal}
use Rattle.refusal.specs.declared.Refusal.TheVariants as R
use Rattle.refusal.specs.Numbers.{fault_of}
use Rattle.numbers.specs.declared.Value.{Value}
use Rattle.roles.specs.Roles.{Comment}
use Rattle.writing.specs.Written.{written_cards}
use Rattle.writing.specs.Rules.{is_name, is_writable}
use Rattle.refusal.specs.declared.Fault.{Fault}

-- the bytes of cards, one after another
unfoldable pub flat : List (List ℕ) → List ℕ
flat [] = []
flat (c ∷ cs) = c ++ flat cs

-- an answer, and the lent block after it
pub record WriteOutcome : Type 0 where
  pub answer : Result ℕ Fault
  pub block : List ℕ

-- the cards at the front of the block; what follows them stays
abbrev pub wrote_cards : List (List ℕ) → List ℕ → WriteOutcome
wrote_cards cs block = record { answer = Ok (length cs); block = sets block 0 (flat cs) }

-- a refusal leaves the block untouched
abbrev pub not_written : Refusal → List ℕ → WriteOutcome
not_written why block = record { answer = Err (fault_of why); block = block }

-- cards in a block: 21 where it is shorter than they are
unfoldable pub put_cards : List (List ℕ) → List ℕ → WriteOutcome
put_cards cs block = cond (leb (length (flat cs)) (length block)) (wrote_cards cs block) (not_written R.BlockShort block)

-- writing a name with its value: 19, then 20, then 21
unfoldable pub write_of : List ℕ → Value → List ℕ → Comment → List ℕ → WriteOutcome
write_of name v text c block =
    cond (is_name name)
    (cond (is_writable v text c) (put_cards (written_cards v name text c) block) (not_written R.UnwritableValue block))
    (not_written R.UnwritableName block)
