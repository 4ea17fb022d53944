-- What a written card is: its bytes, its keyword, and the text behind it.
use Rattle.std.specs.Prelude.{Result}
use Prim.Native.Nat.{ℕ, ◌+◌, ◌-◌, ◌≤◌}
use Prim.Native.Char.{code}
use native.Mathlib.Omega.{arith}
use mathlib.Core.Path.{◌≡◌, refl, ap, ◌∙◌}
use mathlib.Core.Bool.{true, false}
use mathlib.Core.List.{List, [], ◌∷◌, ◌++◌, append_assoc}
use lib.ListN.{length, replicate, take, drop, length-append, length-replicate}
use lib.Seq.{take_at, drop_at}
use Rattle.laws.proofs.Truths.{false≢true}
use Rattle.refusal.specs.declared.Fault.{Fault}
use Rattle.refusal.specs.Numbers.{answer_placed}
use Rattle.text.specs.Bytes.{ascii, is_blank, is_printable, every}
use Rattle.text.specs.Trim.{trim_start, trim_end, trim, cons_trimmed}
use Rattle.text.specs.Same.{same}
use Rattle.text.specs.Text.{size, filled, text_of}
use Rattle.value.specs.Values.{value_of}
use Rattle.card.specs.declared.CardRead.{CardRead}
use Rattle.card.specs.Keywords.{has_high, keyword_of, class_of}
use Rattle.card.specs.Cards.{of_value, other_of, continuation_of, unplaced_of, card_of}
use Rattle.card.specs.Columns.{column_of}
use Rattle.roles.specs.Roles.{role_read, role_of}
use Rattle.writing.specs.Pieces.{text_room}
use Rattle.writing.specs.Written.{card_from, name_front, continue_front}
use Rattle.writing.specs.Rules.{is_name_byte, is_other, is_name}
use Rattle.rereading.proofs.Endings.{every_first, every_append, every_weaker, low_all, every-spaces, trim-padded, last_none}
use Rattle.rereading.proofs.Names.{name-printable, name_blank, name-length, name-bytes, name-other}
use Rattle.rereading.proofs.Splitting.{spaced}
use Rattle.card.specs.declared.Class.TheVariants as K

-- ---- a text filled with spaces to n bytes
abbrev pub spaces : ℕ → List ℕ
spaces n = replicate n (code " ")

filled-long : (n : ℕ) (s : List ℕ) → length s ≤ n → length (filled (code " ") n s) ≡ n
unfolding filled
filled-long n s h =
    length-append s (spaces (n - length s))
    ∙ ap (λ (k : ℕ). length s + k) (length-replicate (n - length s) (code " "))
    ∙ (let m : length s + (n - length s) ≡ n = omega arith in m)

filled-printable : (n : ℕ) (s : List ℕ) → every is_printable s ≡ true → every is_printable (filled (code " ") n s) ≡ true
unfolding filled
filled-printable n s e = every_append is_printable s (spaces (n - length s)) e (every-spaces (n - length s))

-- ---- the ten bytes in front

-- a name in eight bytes
abbrev eight : List ℕ → List ℕ
eight name = filled (code " ") 8 name

pub front_long : (name : List ℕ) → is_name name ≡ true → length (name_front name) ≡ 10
unfolding name_front
front_long name e = omega (arith, length-append (eight name) (ascii "= "), filled-long 8 name (name-length name e))

pub front-printable : (name : List ℕ) → is_name name ≡ true → every is_printable (name_front name) ≡ true
unfolding name_front every is_printable
front-printable name e = every_append is_printable (eight name) (ascii "= ") (filled-printable 8 name bytes) refl
  where
    bytes : every is_printable name ≡ true
    bytes = every_weaker is_name_byte is_printable name-printable name (name-bytes name e)

pub continue_printable : every is_printable continue_front ≡ true
unfolding every is_printable
continue_printable = refl

-- ---- a card of 80 printable bytes
module _ (front t : List ℕ) where
  pub card-long : length front ≡ 10 → length t ≤ text_room → length (card_from front t) ≡ size
  card-long h k = filled-long size (front ++ t) (omega (arith, length-append front t))

  pub card-printable : every is_printable front ≡ true → every is_printable t ≡ true
      → every is_printable (card_from front t) ≡ true
  card-printable f e = filled-printable size (front ++ t) (every_append is_printable front t f e)

  -- the spaces behind its text
  abbrev pub left : ℕ
  left = size - length (front ++ t)

  card_shape : card_from front t ≡ front ++ (t ++ spaces left)
  unfolding filled
  card_shape = append_assoc front t (spaces left)

-- ---- cards that bear a name
name_trimmed : (name : List ℕ) → every is_name_byte name ≡ true → class_of name ≡ K.Other → trim is_blank (eight name) ≡ name
unfolding is_blank class_of same filled
name_trimmed [] e k = absurd (false≢true (ap is_other k))
name_trimmed (b ∷ n) e k =
    trim-padded is_blank 0 (8 - length (b ∷ n)) (code " ") b n refl (name_blank b (every_first is_name_byte b n e))
    (last_none is_name_byte is_blank name_blank (b ∷ n) e)

-- a card by parts of it
by_parts : (k c name raw : List ℕ) → c ≡ (k ++ ascii "= ") ++ raw → length k ≡ 8 → has_high c ≡ false
    → trim is_blank k ≡ name → class_of name ≡ K.Other → unplaced_of c ≡ of_value false (text_of name) (value_of raw)
unfolding unplaced_of other_of same
by_parts k c name raw is long low trims other =
    let shape : c ≡ k ++ (ascii "= " ++ raw) = is ∙ append_assoc k (ascii "= ") raw in
    let kw : keyword_of c ≡ name = ap keyword_of shape ∙ ap (trim is_blank) (take_at k (ascii "= " ++ raw) 8 long) ∙ trims in
    let two : take 2 (drop 8 c) ≡ ascii "= " =
    ap (λ (l : List ℕ). take 2 (drop 8 l)) shape ∙ ap (take 2) (drop_at k (ascii "= " ++ raw) 8 long) in
    let n : length (k ++ ascii "= ") ≡ 10 = omega (arith, length-append k (ascii "= ")) in
    let rest : drop 10 c ≡ raw = ap (drop 10) is ∙ drop_at (k ++ ascii "= ") raw 10 n in
    rw (low, kw, other, two, rest)

-- such a card is read by what stands from byte 10 on
pub card-read : (name t : List ℕ) → is_name name ≡ true → every is_printable t ≡ true
    → unplaced_of (card_from (name_front name) t) ≡ of_value false (text_of name) (value_of (t ++ spaces (left (name_front name) t)))
unfolding name_front
card-read name t e printable =
    let card = card_from (name_front name) t in
    by_parts (eight name) card name (t ++ spaces (left (name_front name) t)) (card_shape (name_front name) t)
    (filled-long 8 name (name-length name e)) (low_all card (card-printable (name_front name) t (front-printable name e) printable))
    (name_trimmed name (name-bytes name e) (name-other name e)) (name-other name e)

-- ---- CONTINUE cards: read by what stands from byte 8 on
pub continue_read : (t : List ℕ) → every is_printable t ≡ true
    → unplaced_of (card_from continue_front t) ≡ continuation_of (text_of (ascii "CONTINUE")) (card_from continue_front t)
unfolding unplaced_of filled trim trim_start trim_end cons_trimmed is_blank class_of same
continue_read t printable = rw (low_all (card_from continue_front t) (card-printable continue_front t continue_printable printable))

pub continue_text : (t : List ℕ) → drop 8 (card_from continue_front t) ≡ spaced 2 (left continue_front t) t
unfolding filled
continue_text t = refl

-- ---- the role of a card that is read
pub role_by_lem : (c : List ℕ) {r : Result CardRead Fault} → unplaced_of c ≡ r
    → role_of c ≡ role_read (answer_placed (column_of c) r)
unfolding card_of
role_by_lem c e = ap (λ (r : Result CardRead Fault). role_read (answer_placed (column_of c) r)) e
