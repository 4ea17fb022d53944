-- How many cards are written.
use Prim.Native.Nat.{ℕ, zero, suc, ◌+◌, ◌-◌, ◌/◌, ◌<◌, ◌≤◌}
use native.Mathlib.Omega.{arith}
use mathlib.Core.Path.{◌≡◌, refl, ap}
use mathlib.Core.Logic.{◌⊎◌, inl, inr, ⊎_elim}
use mathlib.Core.Bool.{Bool, true, false, cond}
use mathlib.Core.List.{List, [], ◌∷◌}
use borrow.Author.Tests.{le-leb, leb-false}
use lib.Dec.{leb}
use lib.ListN.{length, length-map}
use Rattle.numbers.specs.declared.Value.{Value}
use Rattle.roles.specs.Roles.{Comment}
use Rattle.writing.specs.Pieces.{bytes_for, leftover, Piece, piece_text, text_room, open_room, fits, last_piece, open_piece, pieces_from}
use Rattle.writing.specs.Pieces.{pieces_of}
use Rattle.writing.specs.Written.{card_from, continue_front, string_cards}
use Rattle.writing.specs.Rules.{is_short, remark_limit}
use Rattle.rereading.specs.ReadsBack.{most_cards, FewCards}
use Rattle.rereading.proofs.Cutting.{rest_part, Cut, pieces_cut, final, goes_on}
use Rattle.rereading.proofs.Strings.{string-length}
use Rattle.rereading.proofs.Forms.{Formed, written_formed, one-card, string_cards_lem}
use Rattle.rereading.proofs.Lengths.{width_small, empty-fits}

-- nothing is left, or a character is taken for every two bytes
abbrev Taken : ℕ → ℕ → List ℕ → Type 0
Taken n long rest = (length rest ≡ 0) ⊎ (length rest + n / 2 ≤ long)

taken : (n : ℕ) (s : List ℕ) → Taken n (length s) (leftover n s)
unfolding leftover
taken n [] = inl refl
taken n (b ∷ s) = go (leb (bytes_for b) n) refl (leftover (n - bytes_for b) s) (taken (n - bytes_for b) s)
  where
    go : (u : Bool) → leb (bytes_for b) n ≡ u → (rest : List ℕ) → Taken (n - bytes_for b) (length s) rest
        → Taken n (suc (length s)) (cond u rest (b ∷ s))
    go true e rest later =
        ⊎_elim (λ x. inl x) (λ x. inr (let y : length rest + (n - bytes_for b) / 2 ≤ length s = x in omega
        (arith, width_small b))) later
    go false e rest later = inr (let y : n < bytes_for b = leb-false (bytes_for b) n e in omega (arith, width_small b))

-- an empty rest is the last piece
empty-last : (n : ℕ) (s : List ℕ) (c : Comment) → length s ≡ 0 → is_short remark_limit c ≡ true
    → length (pieces_from n s c) ≡ 1
unfolding pieces_from
empty-last zero s c h y = refl
empty-last (suc n) s c h y = rw (le-leb (length (piece_text (last_piece s c))) text_room (empty-fits s c (omega arith) y))

pieces_count : (n : ℕ) (s : List ℕ) (c : Comment) → is_short remark_limit c ≡ true
    → length (pieces_from n s c) ≤ length s / (open_room / 2) + 2
unfolding pieces_from
pieces_count zero s c y = omega arith
pieces_count (suc n) s c y = go (fits (last_piece s c)) (pieces_count n (rest_part s) c y)
  where
    rest : List ℕ
    rest = rest_part s

    go : (u : Bool) → length (pieces_from n rest c) ≤ length rest / (open_room / 2) + 2
        → length (cond u (last_piece s c ∷ []) (open_piece s ∷ pieces_from n rest c)) ≤ length s / (open_room / 2) + 2
    go true later = omega arith
    go false later =
        ⊎_elim (λ x. let one : length (pieces_from n rest c) ≡ 1 = empty-last n rest c x y in omega arith)
        (λ x. let less : length rest + open_room / 2 ≤ length s = x in omega arith) (taken open_room s)

string-count : (name : List ℕ) (ps : List Piece) → length (string_cards name ps) ≡ length ps
string-count name [] = refl
string-count name (p ∷ ps) = ap suc (length-map ps (λ (q : Piece). card_from continue_front (piece_text q)))

pieces_some : {c : Comment} {s : List ℕ} {ps : List Piece} → Cut c s ps → 1 ≤ length ps
pieces_some final = omega arith
pieces_some (goes_on cut) = omega arith

abbrev Few : List (List ℕ) → Type 0
Few cs = (1 ≤ length cs) × (length cs ≤ most_cards)

formed_few : {name : List ℕ} {c : Comment} {v : Value} {text : List ℕ} {cs : List (List ℕ)} → Formed name c v text cs → Few cs
formed_few (one-card one) = (omega arith, omega arith)
formed_few {name} {c} (string_cards_lem {s} is remark short) =
    let count : length (string_cards name (pieces_of s c)) ≡ length (pieces_of s c) = string-count name (pieces_of s c) in (
      omega (arith, pieces_some (pieces_cut (length s) s c)),
      omega (arith, pieces_count (length s) s c short, string-length s is),
    )

-- there are 1 to 62 cards
pub few-cards : FewCards
few-cards name v text c may = formed_few (written_formed name may.named text c v may.allowed)
