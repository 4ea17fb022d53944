-- Every written card has 80 bytes.
use Rattle.std.specs.Prelude.{None, Some}
use Prim.Native.Nat.{ℕ, zero, suc, ◌+◌, ◌-◌, ◌≤◌}
use Prim.Native.Char.{code}
use native.Mathlib.Omega.{arith}
use mathlib.Core.Path.{◌≡◌, refl, ap, ◌∙◌}
use mathlib.Core.Bool.{Bool, true, false, cond}
use mathlib.Core.List.{List, [], ◌∷◌, append-nil}
use borrow.Author.Tests.{le-leb, leb-true}
use lib.Dec.{eqb, leb}
use lib.ListN.{length}
use Rattle.text.specs.Text.{size}
use Rattle.text.proofs.Texts.{length-put}
use Rattle.numbers.specs.declared.Value.{Value}
use Rattle.roles.specs.Roles.{Comment}
use Rattle.writing.specs.Pieces.{doubled, quoted, bytes_for, fitting, leftover, Piece, piece_text, text_room, open_room, fits, last_piece}
use Rattle.writing.specs.Pieces.{open_piece, pieces_from}
use Rattle.writing.specs.Written.{card_from, name_front, continue_front, plain_text, string_cards, written_cards}
use Rattle.writing.specs.Rules.{is_name, is_short, remark_limit, is_writable}
use Rattle.rereading.proofs.Lists.{All, all_map, no_more, also}
use Rattle.rereading.proofs.Fronts.{front_long, card-long}
use Rattle.rereading.proofs.Cutting.{head_part, rest_part, open_text_lem}
use Rattle.rereading.proofs.Forms.{Formed, written_formed, one-card, string_cards_lem}

-- ---- the pieces fit
width_doubled : (b : ℕ) (s : List ℕ) → length (doubled (b ∷ s)) ≡ bytes_for b + length (doubled s)
unfolding doubled bytes_for
width_doubled b s = go (eqb b (code "'"))
  where
    go : (u : Bool) → length (cond u (code "'" ∷ code "'" ∷ doubled s) (b ∷ doubled s)) ≡ cond u 2 1 + length (doubled s)
    go true = omega arith
    go false = omega arith

fitting-long : (n : ℕ) (s : List ℕ) → length (doubled (fitting n s)) ≤ n
unfolding fitting doubled
fitting-long n [] = omega arith
fitting-long n (b ∷ s) = go (leb (bytes_for b) n) refl (fitting-long (n - bytes_for b) s)
  where
    go : (u : Bool) → leb (bytes_for b) n ≡ u → length (doubled (fitting (n - bytes_for b) s)) ≤ n - bytes_for b
        → length (doubled (cond u (b ∷ fitting (n - bytes_for b) s) [])) ≤ n
    go true e h = let w : bytes_for b ≤ n = leb-true (bytes_for b) n e in omega (arith, width_doubled b (fitting (n - bytes_for b) s))
    go false e h = omega arith

doubled_open : (s : List ℕ) → length (doubled (open_text_lem s)) ≡ length (doubled s) + 1
unfolding doubled
doubled_open [] = refl
doubled_open (b ∷ s) =
    let later : length (doubled (open_text_lem s)) ≡ length (doubled s) + 1 = doubled_open s in
    width_doubled b (open_text_lem s) ∙ omega (arith, width_doubled b s)

open_fits : (s : List ℕ) → length (piece_text (open_piece s)) ≤ text_room
open_fits s =
    let t = open_text_lem (head_part s) in
    let long : length (piece_text (open_piece s)) ≡ length (quoted t) = ap length (append-nil (quoted t)) in
    omega (arith, length-put (doubled t) (code "'"), doubled_open (head_part s), fitting-long open_room s)

pub width_small : (b : ℕ) → bytes_for b ≤ 2
unfolding bytes_for
width_small b = go (eqb b (code "'"))
  where
    go : (u : Bool) → cond u 2 1 ≤ 2
    go true = omega arith
    go false = omega arith

leftover_shorter : (n : ℕ) (s : List ℕ) → length (leftover n s) ≤ length s
unfolding leftover
leftover_shorter n [] = omega arith
leftover_shorter n (b ∷ s) = go (leb (bytes_for b) n) (leftover_shorter (n - bytes_for b) s)
  where
    go : (u : Bool) → length (leftover (n - bytes_for b) s) ≤ length s
        → length (cond u (leftover (n - bytes_for b) s) (b ∷ s)) ≤ suc (length s)
    go true h = omega arith
    go false h = omega arith

-- a piece takes a character at least
leftover_less : (n : ℕ) (s : List ℕ) → length s ≤ suc n → length (rest_part s) ≤ n
unfolding leftover
leftover_less n [] h = omega arith
leftover_less n (b ∷ s) h =
    rw (le-leb (bytes_for b) open_room (omega (arith, width_small b))) (omega (arith, leftover_shorter (open_room - bytes_for b) s))

-- a piece fits a card
abbrev pub Fits : Piece → Type 0
Fits p = length (piece_text p) ≤ text_room

pub empty-fits : (s : List ℕ) (c : Comment) → length s ≤ 0 → is_short remark_limit c ≡ true
    → length (piece_text (last_piece s c)) ≤ text_room
unfolding doubled
empty-fits [] None h y = omega arith
empty-fits [] (Some c) h y = omega (arith, leb-true (length c) remark_limit y)
empty-fits (b ∷ s) c h y = absurd (omega arith)

pub pieces_fit : (n : ℕ) (s : List ℕ) (c : Comment) → length s ≤ n → is_short remark_limit c ≡ true
    → All Fits (pieces_from n s c)
unfolding pieces_from
pieces_fit zero s c h y = also (empty-fits s c h y) no_more
pieces_fit (suc n) s c h y = go (fits (last_piece s c)) refl (pieces_fit n (rest_part s) c (leftover_less n s h) y)
  where
    go : (u : Bool) → fits (last_piece s c) ≡ u → All Fits (pieces_from n (rest_part s) c)
        → All Fits (cond u (last_piece s c ∷ []) (open_piece s ∷ pieces_from n (rest_part s) c))
    go true e later = also (leb-true (length (piece_text (last_piece s c))) text_room e) no_more
    go false e later = also (open_fits s) later

-- ---- cards of 80 bytes
abbrev pub IsWhole : List ℕ → Type 0
IsWhole c = length c ≡ size

-- what holds of the card of each piece, under the name and on a CONTINUE card, holds of every card of a string
pub string_all : (P : Piece → Type 0) (Q : List ℕ → Type 0) (name : List ℕ)
    → ((p : Piece) → P p → Q (card_from (name_front name) (piece_text p)))
    → ((p : Piece) → P p → Q (card_from continue_front (piece_text p))) → {ps : List Piece} → All P ps
    → All Q (string_cards name ps)
string_all P Q name f g no_more = no_more
string_all P Q name f g (also {x} h hs) = also (f x h) (all_map P Q (λ (q : Piece). card_from continue_front (piece_text q)) g hs)

formed_whole : {name : List ℕ} {c : Comment} {v : Value} {text : List ℕ} {cs : List (List ℕ)} → is_name name ≡ true
    → Formed name c v text cs → All IsWhole cs
formed_whole {name} {c} good (one-card {v} {text} {t} one) =
    also (card-long (name_front name) (plain_text t c) (front_long name good) one.fit) no_more
formed_whole {name} {c} good (string_cards_lem {s} is remark short) =
    string_all Fits IsWhole name (λ p h. card-long (name_front name) (piece_text p) (front_long name good) h)
    (λ p h. card-long continue_front (piece_text p) refl h) (pieces_fit (length s) s c (omega arith) short)

-- each written card has 80 bytes
pub written-whole : (name : List ℕ) → is_name name ≡ true → (text : List ℕ) (c : Comment) (v : Value)
    → is_writable v text c ≡ true
    → All IsWhole (written_cards v name text c)
written-whole name good text c v e = formed_whole good (written_formed name good text c v e)
