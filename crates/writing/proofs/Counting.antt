-- The pieces of a string, one after another: each but the last is open, and each fits a card.
use Rattle.std.specs.Prelude.{None}
use Prim.Native.Char.{code}
use Prim.Native.Nat.{ℕ, zero, suc, ◌+◌, ◌-◌, ◌<◌, ◌≤◌}
use native.Mathlib.Omega.{arith}
use mathlib.Core.Path.{◌≡◌, refl, sym, ap, ◌∙◌}
use mathlib.Core.Bool.{Bool, true, false, cond, true≢false}
use mathlib.Core.List.{List, [], ◌∷◌, ◌++◌, append_assoc}
use borrow.Author.Tests.{le-leb, lt-leb, ltb-true, ltb-false}
use lib.Dec.{ltb}
use lib.ListN.{length, take, drop, length-append, length-drop}
use Rattle.std.proofs.lemmas.List.{take_rest}
use Rattle.text.specs.Bytes.{ascii}
use Rattle.roles.specs.Roles.{Comment}
use Rattle.writing.specs.Pieces.{doubled, tail_of, fitting, leftover, Piece, piece_text, open_room}
use Rattle.writing.specs.Pieces.{fits, last_piece, open_piece, pieces_from, pieces_of}
use Rattle.writing.specs.Passes.{in_quotes, closed_by}
use Rattle.writing.proofs.Cutting.{doubled_next, fitting-bytes, fitting_within, fitting-some, drop-fitting, leftover_less}

-- ---- a piece as it is put

-- the last piece
pub last-text : (s : List ℕ) (c : Comment) → piece_text (last_piece s c) ≡ closed_by (ascii "'") s c
last-text s c = ap (λ (l : List ℕ). code "'" ∷ l) (append_assoc (doubled s) (ascii "'") (tail_of c))

pub last-length : (s : List ℕ) (c : Comment) → length (piece_text (last_piece s c)) ≡ 2 + length (doubled s) + length (tail_of c)
last-length s c =
    ap length (last-text s c) ∙ (let l = length-append (doubled s) (code "'" ∷ tail_of c) in omega (arith, l))

-- the & is no quote
doubled_open : (s : List ℕ) → doubled (s ++ ascii "&") ≡ doubled s ++ ascii "&"
unfolding doubled
doubled_open [] = refl
doubled_open (b ∷ s) =
    doubled_next b (s ++ ascii "&")
    ∙ ap (λ (l : List ℕ). in_quotes b ++ l) (doubled_open s)
    ∙ sym (append_assoc (in_quotes b) (doubled s) (ascii "&"))
    ∙ sym (ap (λ (l : List ℕ). l ++ ascii "&") (doubled_next b s))

-- an open piece
pub open_text : (s : List ℕ) → piece_text (open_piece s) ≡ closed_by (ascii "&'") (fitting open_room s) None
open_text s =
    let t = fitting open_room s in
    last-text (t ++ ascii "&") None
    ∙ ap (λ (l : List ℕ). code "'" ∷ (l ++ ascii "'")) (doubled_open t)
    ∙ ap (λ (l : List ℕ). code "'" ∷ l) (append_assoc (doubled t) (ascii "&") (ascii "'"))

pub open_fits : (s : List ℕ) → length (piece_text (open_piece s)) ≤ 70
open_fits s =
    let t = fitting open_room s in
    omega (arith, ap length (open_text s), length-append (doubled t) (ascii "&'"), fitting-bytes open_room s)

-- ---- the pieces

-- the open piece of a text: it takes a character, and the others stand behind it
pub record Opened (c : Comment) (s : List ℕ) : Type 0 where
  pub some : 1 ≤ length (fitting open_room s)
  pub within : length (fitting open_room s) ≤ length s
  pub pieces : pieces_of s c ≡ open_piece s ∷ pieces_of (drop (length (fitting open_room s)) s) c

-- n cards up to the one that begins with the rest of a text
pub record Counted (c : Comment) (s rest : List ℕ) (n : ℕ) : Type 0 where
  pub few : n + length rest ≤ 1 + length s
  pub count : n + length (pieces_of rest c) ≡ 1 + length (pieces_of s c)

module _ (c : Comment) (short : length (tail_of c) ≤ 67) where
  -- the rest fits where it has room
  pub rest-fits : (s : List ℕ) → length (doubled s) ≤ 68 - length (tail_of c) → fits (last_piece s c) ≡ true
  rest-fits s h = le-leb (length (piece_text (last_piece s c))) 70 (omega (arith, last-length s c))

  pub rest_over : (s : List ℕ) → 68 - length (tail_of c) < length (doubled s) → fits (last_piece s c) ≡ false
  rest_over s h = lt-leb (length (piece_text (last_piece s c))) 70 (omega (arith, last-length s c))

  pub none-fits : (s : List ℕ) → length s ≤ 0 → fits (last_piece s c) ≡ true
  unfolding doubled
  none-fits [] h = rest-fits [] (omega arith)
  none-fits (b ∷ s) h = absurd (omega arith)

  pub rest_less : (s : List ℕ) → length (leftover open_room s) ≤ length s - 1
  unfolding leftover
  rest_less [] = omega arith
  rest_less (b ∷ s) = omega (arith, leftover_less open_room (b ∷ s) (omega arith) (λ h. omega (arith, h)))

  -- a number of pieces that is large enough tells nothing
  alike : (j k : ℕ) (s : List ℕ) → length s ≤ j → length s ≤ k → pieces_from j s c ≡ pieces_from k s c
  unfolding pieces_from
  alike zero zero s h i = refl
  alike zero (suc k) s h i = rw (none-fits s h)
  alike (suc j) zero s h i = rw (none-fits s i)
  alike (suc j) (suc k) s h i =
      let less = rest_less s in
      ap
      (λ (l : List Piece). cond (fits (last_piece s c)) (last_piece s c ∷ []) (open_piece s ∷ l))
      (alike j k (leftover open_room s) (omega (arith, less)) (omega (arith, less)))

  -- the rest fits: it is the last piece
  pub pieces_last : (s : List ℕ) → fits (last_piece s c) ≡ true → pieces_of s c ≡ last_piece s c ∷ []
  unfolding pieces_from
  pieces_last [] e = refl
  pieces_last (b ∷ s) e = rw e

  -- it does not: an open piece comes first
  pub pieces_open : (s : List ℕ) → fits (last_piece s c) ≡ false → pieces_of s c ≡ open_piece s ∷ pieces_of (leftover open_room s) c
  unfolding pieces_from
  pieces_open [] e = absurd (true≢false (sym (none-fits [] (omega arith)) ∙ e))
  pieces_open (b ∷ s) e =
      let less = leftover_less open_room (b ∷ s) (omega arith) (λ h. omega (arith, h)) in
      let rest = leftover open_room (b ∷ s) in
      let enough = alike (length s) (length rest) rest (omega (arith, less)) (omega arith) in
      rw e (ap (λ (l : List Piece). open_piece (b ∷ s) ∷ l) enough)

  -- there is a piece
  pub pieces_some : (s : List ℕ) → 1 ≤ length (pieces_of s c)
  pieces_some s = go (fits (last_piece s c)) refl
    where
      go : (u : Bool) → fits (last_piece s c) ≡ u → 1 ≤ length (pieces_of s c)
      go true e = omega (arith, ap length (pieces_last s e))
      go false e = omega (arith, ap length (pieces_open s e))

  -- one piece alone fits
  pub one-fits : (s : List ℕ) → length (pieces_of s c) ≤ 1 → fits (last_piece s c) ≡ true
  one-fits s h = go (fits (last_piece s c)) refl
    where
      go : (u : Bool) → fits (last_piece s c) ≡ u → u ≡ true
      go true e = refl
      go false e = absurd (omega (arith, ap length (pieces_open s e), pieces_some (leftover open_room s)))

  -- more than one do not
  pub more_over : (s : List ℕ) → 1 < length (pieces_of s c) → fits (last_piece s c) ≡ false
  more_over s h = go (fits (last_piece s c)) refl
    where
      go : (u : Bool) → fits (last_piece s c) ≡ u → u ≡ false
      go true e = absurd (omega (arith, ap length (pieces_last s e)))
      go false e = refl

  pub opened : (s : List ℕ) → fits (last_piece s c) ≡ false → Opened c s
  opened s e =
      let empty : length s ≡ 0 → ⊥ = λ n. true≢false (sym (none-fits s (omega (arith, n))) ∙ e) in
      record {
        some = fitting-some open_room s (omega arith) empty;
        within = fitting_within open_room s;
        pieces = pieces_open s e ∙ sym (ap (λ (l : List ℕ). open_piece s ∷ pieces_of l c) (drop-fitting open_room s));
      }

  pub counts_on : {s rest : List ℕ} {n : ℕ} → Counted c s rest n → Opened c rest
      → Counted c s (drop (length (fitting open_room rest)) rest) (n + 1)
  counts_on {s} {rest} k o =
      record {
        few = omega (arith, length-drop (length (fitting open_room rest)) rest, o.some, o.within, k.few);
        count = omega (arith, ap length o.pieces, k.count);
      }

  pub counted : {s rest : List ℕ} {n : ℕ} → Counted c s rest n → fits (last_piece rest c) ≡ true → n ≡ length (pieces_of s c)
  counted {s} {rest} k e = omega (arith, ap length (pieces_last rest e), k.count)

  -- as it is asked whether the rest takes more than the room
  module _ (s : List ℕ) {n : ℕ} {r : Bool} (room : n ≡ length (tail_of c)) (asked : r ≡ ltb (68 - n) (length (doubled s))) where
    pub opened_over : r ≡ true → Opened c s
    opened_over e =
        let over = ltb-true (68 - n) (length (doubled s)) (sym asked ∙ e) in
        opened s (rest_over s (omega (arith, over, room)))

    pub fits_under : r ≡ false → fits (last_piece s c) ≡ true
    fits_under e =
        let under = ltb-false (68 - n) (length (doubled s)) (sym asked ∙ e) in
        rest-fits s (omega (arith, under, room))

-- what is left behind the characters of an open piece
pub rest_is : (s : List ℕ) {k : ℕ} → k ≡ length (fitting open_room s)
    → take (length s - k) (drop k s) ≡ drop (length (fitting open_room s)) s
rest_is s {k} e = take_rest s k ∙ ap (λ (n : ℕ). drop n s) e
