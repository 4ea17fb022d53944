-- The cards of a string from byte 10 of the first one on, stored one behind another.
use Prim.Native.Nat.{ℕ, zero, suc, ◌+◌, ◌-◌, ◌*◌, ◌<◌, ◌≤◌}
use native.Mathlib.Omega.{arith}
use mathlib.Core.Path.{◌≡◌, refl, sym, ap, ap₂, ◌∙◌}
use mathlib.Core.Bool.{Bool, true, false, cond}
use mathlib.Core.List.{List, [], ◌∷◌, ◌++◌, map, append_assoc, append-nil}
use borrow.Author.Tests.{leb-true}
use lib.ListN.{length, drop, length-append, length-map}
use lib.Seq.{sets}
use Rattle.text.specs.Bytes.{ascii}
use Rattle.text.specs.Text.{filled}
use Rattle.text.proofs.Laying.{sets-append}
use Rattle.roles.specs.Roles.{Comment}
use Rattle.writing.specs.Pieces.{tail_of, fitting, leftover, Piece, piece_text, open_room}
use Rattle.writing.specs.Pieces.{fits, last_piece, open_piece, pieces_from, pieces_of}
use Rattle.writing.specs.Written.{card_from, name_front, continue_front, string_cards}
use Rattle.writing.specs.Block.{flat}
use Rattle.writing.specs.Passes.{spaces, spaced, body_of, bodies_of}
use Rattle.writing.proofs.Placing.{spaced-length}
use Rattle.writing.proofs.Counting.{Opened, open_fits, none-fits, rest_less, one-fits, pieces_last}

-- ---- cards

-- a card is its front and its body
pub card-is : (front t : List ℕ) → length front ≡ 10 → card_from front t ≡ front ++ body_of t
unfolding filled
card-is front t e =
    let room : 80 - length (front ++ t) ≡ 70 - length t = omega (arith, length-append front t) in
    append_assoc front t (spaces (80 - length (front ++ t))) ∙ ap (λ (n : ℕ). front ++ (t ++ spaces n)) room

pub front_length : (name : List ℕ) → length name ≤ 8 → length (name_front name) ≡ 10
unfolding name_front
front_length name h = omega (arith, length-append (spaced 8 name) (ascii "= "), spaced-length 8 name h)

pub body_length : (t : List ℕ) → length t ≤ 70 → length (body_of t) ≡ 70
body_length t h = spaced-length 70 t h

-- the card of a name
pub name-card : (name t : List ℕ) → length name ≤ 8 → card_from (name_front name) t ≡ name_front name ++ body_of t
name-card name t h = card-is (name_front name) t (front_length name h)

-- a CONTINUE card
continued-is : (p : Piece) → card_from continue_front (piece_text p) ≡ continue_front ++ body_of (piece_text p)
continued-is p = card-is continue_front (piece_text p) refl

-- a body, and the front of the card behind it
pub bodies_next : (p : Piece) (ps : List Piece) → 1 ≤ length ps
    → bodies_of (p ∷ ps) ≡ (body_of (piece_text p) ++ continue_front) ++ bodies_of ps
unfolding flat
bodies_next p [] h = absurd (omega arith)
bodies_next p (q ∷ qs) h =
    let body = body_of (piece_text p) in
    let others = flat (map (λ (r : Piece). card_from continue_front (piece_text r)) qs) in
    ap (λ (l : List ℕ). body ++ (l ++ others)) (continued-is q) ∙ simp append_assoc

pub string-flat : (name : List ℕ) (ps : List Piece) → length name ≤ 8 → 1 ≤ length ps
    → flat (string_cards name ps) ≡ name_front name ++ bodies_of ps
unfolding flat
string-flat name [] h some = absurd (omega arith)
string-flat name (p ∷ ps) h some =
    let others = flat (map (λ (r : Piece). card_from continue_front (piece_text r)) ps) in
    ap (λ (l : List ℕ). l ++ others) (name-card name (piece_text p) h) ∙ append_assoc (name_front name) (body_of (piece_text p)) others

pub string-count : (name : List ℕ) (ps : List Piece) → length (string_cards name ps) ≡ length ps
string-count name [] = refl
string-count name (p ∷ ps) = ap suc (length-map ps (λ (q : Piece). card_from continue_front (piece_text q)))

-- ---- each piece fits its card

data Fit : List Piece → Type 0 where
  fit_none : Fit []
  fit_also : {p : Piece} {ps : List Piece} → length (piece_text p) ≤ 70 → Fit ps → Fit (p ∷ ps)

pieces_fit : (c : Comment) → length (tail_of c) ≤ 67 → (k : ℕ) (s : List ℕ) → length s ≤ k → Fit (pieces_from k s c)
unfolding pieces_from
pieces_fit c short zero s h = fit_also (leb-true (length (piece_text (last_piece s c))) 70 (none-fits c short s h)) fit_none
pieces_fit c short (suc k) s h =
    go (fits (last_piece s c)) refl (pieces_fit c short k (leftover open_room s) (omega (arith, rest_less c short s)))
  where
    go : (u : Bool) → fits (last_piece s c) ≡ u → Fit (pieces_from k (leftover open_room s) c)
        → Fit (cond u (last_piece s c ∷ []) (open_piece s ∷ pieces_from k (leftover open_room s) c))
    go true e later = fit_also (leb-true (length (piece_text (last_piece s c))) 70 e) fit_none
    go false e later = fit_also (open_fits s) later

others-length : {ps : List Piece} → Fit ps
    → length (flat (map (λ (q : Piece). card_from continue_front (piece_text q)) ps)) ≡ 80 * length ps
unfolding flat
others-length fit_none = refl
others-length (fit_also {p} {ps} h f) =
    let others = flat (map (λ (q : Piece). card_from continue_front (piece_text q)) ps) in
    let card = card_from continue_front (piece_text p) in
    let long : length card ≡ 80 = ap length (continued-is p) ∙ (omega (arith, body_length (piece_text p) h)) in
    omega (arith, length-append card others, long, others-length f)

-- the cards of a string have 80 bytes each
pub string-length : (name s : List ℕ) (c : Comment) → length name ≤ 8 → length (tail_of c) ≤ 67
    → length (flat (string_cards name (pieces_of s c))) ≡ 80 * length (pieces_of s c)
unfolding flat
string-length name s c h short = go (pieces_of s c) (pieces_fit c short (length s) s (omega arith))
  where
    go : (ps : List Piece) → Fit ps → length (flat (string_cards name ps)) ≡ 80 * length ps
    go [] f = refl
    go (p ∷ ps) (fit_also few f) =
        let others = flat (map (λ (q : Piece). card_from continue_front (piece_text q)) ps) in
        let card = card_from (name_front name) (piece_text p) in
        let parts = length-append (name_front name) (body_of (piece_text p)) in
        let long : length card ≡ 80 =
        ap length (name-card name (piece_text p) h) ∙ omega (arith, parts, front_length name h, body_length (piece_text p) few) in
        omega (arith, length-append card others, long, others-length f)

-- ---- one body after another

-- the cards before the rest are put, and those from it on are to come
pub record Going (s : List ℕ) (c : Comment) (block₀ block rest : List ℕ) (at left : ℕ) : Type 0 where
  pub count : left ≡ length (pieces_of rest c)
  pub room : at + 80 * left ≤ length block₀ + 10
  pub long : length block ≡ length block₀
  pub stored : sets block at (bodies_of (pieces_of rest c)) ≡ sets block₀ 10 (bodies_of (pieces_of s c))

module _ {s : List ℕ} {c : Comment} {block₀ block rest : List ℕ} {at left : ℕ} (g : Going s c block₀ block rest at left) where
  pub goes_on : {next : List ℕ} {less : ℕ} → 1 < left → less ≡ left - 1 → (o : Opened c rest) → length next ≡ length block
      → next ≡ sets block at (body_of (piece_text (open_piece rest)) ++ continue_front)
      → Going s c block₀ next (drop (length (fitting open_room rest)) rest) (at + 80) less
  goes_on {next} more step o same put =
      let front = body_of (piece_text (open_piece rest)) ++ continue_front in
      let later = pieces_of (drop (length (fitting open_room rest)) rest) c in
      let count : left ≡ suc (length later) = g.count ∙ ap length o.pieces in
      let eighty : length front ≡ 80 =
      omega (
        arith,
        length-append (body_of (piece_text (open_piece rest))) continue_front,
        body_length (piece_text (open_piece rest)) (open_fits rest),
      ) in
      record {
        count = omega arith;
        room = omega (arith, g.room);
        long = same ∙ g.long;
        stored = ap₂ (λ (d : List ℕ) (n : ℕ). sets d (at + n) (bodies_of later)) put (sym eighty)
            ∙ sym (sets-append front (bodies_of later) block at)
            ∙ sym (ap (sets block at) (ap bodies_of o.pieces ∙ bodies_next (open_piece rest) later (omega arith)))
            ∙ g.stored;
      }

  pub went : length (tail_of c) ≤ 67 → {end : List ℕ} → left ≤ 1
      → end ≡ sets block at (body_of (piece_text (last_piece rest c)))
      → end ≡ sets block₀ 10 (bodies_of (pieces_of s c))
  unfolding flat
  went short few put =
      let body = body_of (piece_text (last_piece rest c)) in
      let one = pieces_last c short rest (one-fits c short rest (omega (arith, g.count))) in
      put ∙ ap (sets block at) (sym (append-nil body) ∙ sym (ap bodies_of one)) ∙ g.stored
