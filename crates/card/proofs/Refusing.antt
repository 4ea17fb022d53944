-- The refusals of a card: none of them has a column before it is placed.
use Rattle.std.specs.Prelude.{Err, None, Ok, Option, Result, Some}
use Prim.Native.Nat.{ℕ, ◌+◌}
use mathlib.Core.Path.{◌≡◌, refl, ap}
use mathlib.Core.Bool.{Bool, true, false, cond}
use mathlib.Core.List.{List, [], ◌∷◌}
use lib.ListN.{take, drop}
use Rattle.refusal.specs.declared.Fault.{Fault}
use Rattle.refusal.specs.declared.Refusal.{Refusal}
use Rattle.refusal.specs.declared.Refusal.TheVariants as R
use Rattle.refusal.specs.Numbers.{fault_of, placed, answer_placed}
use Rattle.refusal.proofs.Placing.{RefusedBy, refused-weaker}
use Rattle.splitting.specs.declared.Halves.{Halves}
use Rattle.value.specs.declared.ValueRead.{ValueRead}
use Rattle.text.specs.declared.Text.{Text}
use Rattle.text.specs.Bytes.{ascii}
use Rattle.text.specs.Same.{same}
use Rattle.text.specs.Text.{text_of, bytes_of}
use Rattle.splitting.specs.Split.{split_of}
use Rattle.splitting.specs.Strings.{string_of}
use Rattle.splitting.proofs.Refusing.{Led, not-closed, not_opened, complex, not-quoted, InText, odd, led}
use Rattle.splitting.proofs.Refusing.{string_led, split_in_text, OfText}
use Rattle.value.specs.Values.{value_of}
use Rattle.value.proofs.Placing.{value_by}
use Rattle.card.specs.declared.Card.TheVariants as C
use Rattle.card.specs.declared.CardRead.{CardRead}
use Rattle.card.specs.declared.Class.{Class}
use Rattle.card.specs.declared.Class.TheVariants as K
use Rattle.card.specs.Keywords.{has_high, keyword_of, class_of, dotted_name}
use Rattle.card.specs.Columns.{equals_of, column_of}
use Rattle.card.specs.Cards.{card_as, string_card, continued, continuation_of, quoted_card}
use Rattle.card.specs.Cards.{extended, extension_of, of_value, named, by_equals, hierarch_of, other_of, by_class}
use Rattle.card.specs.Cards.{unplaced_of, card_of}
use Rattle.card.proofs.Placing.{quoted_led}

-- ---- by any test that the refusals of its text pass, a card's pass it

module _ (P : Fault → Type 0) where
  either : (t : Bool) (x y : Result CardRead Fault) → RefusedBy P x → RefusedBy P y → RefusedBy P (cond t x y)
  either true x y p q = p
  either false x y p q = q

  valued_by : (dotted : Bool) (name : Text) (raw : List ℕ) → RefusedBy P (value_of raw) → RefusedBy P (of_value dotted name (value_of raw))
  valued_by dotted name raw = go (value_of raw)
    where
      go : (a : Result ValueRead Fault) → RefusedBy P a → RefusedBy P (of_value dotted name a)
      go (Ok v) h = tt
      go (Err x) h = h

  pub continued_by : (name : Text) (c : List ℕ) → OfText P (drop 8 c) → RefusedBy P (continuation_of name c)
  unfolding continuation_of
  continued_by name c o = go (split_of (drop 8 c)) o.split
    where
      by : (q : Result Text Fault) (comment : Option Text) → RefusedBy Led q → RefusedBy P (string_card q name comment)
      by (Ok text) comment h = tt
      by (Err x) comment h = o.first x h

      go : (a : Result Halves Fault) → RefusedBy P a → RefusedBy P (continued a name)
      go (Ok h) u = by (string_of (bytes_of h.value)) h.comment (string_led (bytes_of h.value))
      go (Err x) u = u

  pub extension_by : (name : Text) (c : List ℕ) → OfText P (drop 10 c) → RefusedBy P (extension_of name c)
  unfolding extension_of
  extension_by name c o = go (split_of (drop 10 c)) o.split
    where
      go : (a : Result Halves Fault) → RefusedBy P a → RefusedBy P (extended a name)
      go (Ok h) u = refused-weaker Led P o.first (quoted_card name h.value) (quoted_led name h.value)
      go (Err x) u = u

  pub hierarch_by : (c : List ℕ) → P (fault_of R.NoEquals) → ((i : ℕ) → equals_of c ≡ Some i → P (fault_of R.NoName))
      → ((i : ℕ) → equals_of c ≡ Some i → RefusedBy P (value_of (drop (10 + i) c))) → RefusedBy P (hierarch_of c)
  unfolding hierarch_of
  hierarch_by c none nameless valued = go (equals_of c) refl
    where
      by : (i : ℕ) → equals_of c ≡ Some i → (n : List ℕ) → RefusedBy P (named n (drop (10 + i) c))
      by i e [] = nameless i e
      by i e (b ∷ n) = valued_by true (text_of (b ∷ n)) (drop (10 + i) c) (valued i e)

      go : (p : Option ℕ) → equals_of c ≡ p → RefusedBy P (by_equals p c)
      go None e = none
      go (Some i) e = by i e (dotted_name (take i (drop 9 c)))

  pub other_by : (name : Text) (c : List ℕ) → RefusedBy P (value_of (drop 10 c)) → RefusedBy P (other_of name c)
  unfolding other_of
  other_by name c h =
      either (same (take 2 (drop 8 c)) (ascii "= ")) (of_value false name (value_of (drop 10 c)))
      (Ok (card_as C.Undefined name (text_of c)))
      (valued_by false name (drop 10 c) h) tt

-- ---- all that a card is refused by

pub data OfCard : Fault → Type 0 where
  high : OfCard (fault_of R.HighByte)
  no_equals : OfCard (fault_of R.NoEquals)
  no_name : OfCard (fault_of R.NoName)
  in_text : {x : Fault} → InText x → OfCard x

of_card-text : (t : List ℕ) → OfText OfCard t
of_card-text t =
    record {
      first = λ (x : Fault) (h : Led x). in_text (led h);
      split = refused-weaker InText OfCard (λ (x : Fault) (h : InText x). in_text h) (split_of t) (split_in_text t);
    }

pub unplaced_by : (c : List ℕ) → RefusedBy OfCard (unplaced_of c)
unfolding unplaced_of
unplaced_by c =
    let name = text_of (keyword_of c) in
    either OfCard (has_high c) (Err (fault_of R.HighByte)) (by_class (class_of (keyword_of c)) name c) high
    (go (class_of (keyword_of c)) name)
  where
    value : (from : ℕ) → RefusedBy OfCard (value_of (drop from c))
    value from = value_by OfCard (drop from c) (of_card-text (drop from c))

    go : (k : Class) (name : Text) → RefusedBy OfCard (by_class k name c)
    go K.Empty name = tt
    go K.Comment name = tt
    go K.History name = tt
    go K.Continue name = continued_by OfCard name c (of_card-text (drop 8 c))
    go K.Xtension name = extension_by OfCard name c (of_card-text (drop 10 c))
    go K.Hierarch name =
        hierarch_by OfCard c no_equals (λ (i : ℕ) (e : equals_of c ≡ Some i). no_name)
        (λ (i : ℕ) (e : equals_of c ≡ Some i). value (10 + i))
    go K.End name = tt
    go K.Other name = other_by OfCard name c (value 10)

-- ---- the column taken away again

-- no column for any refusal
abbrev pub nowhere : Refusal → Option ℕ
nowhere why = None

-- the refusals of a card have none
pub plain : (x : Fault) → OfCard x → placed nowhere x ≡ x
plain _ high = refl
plain _ no_equals = refl
plain _ no_name = refl
plain _ (in_text odd) = refl
plain _ (in_text (led not-closed)) = refl
plain _ (in_text (led not_opened)) = refl
plain _ (in_text (led complex)) = refl
plain _ (in_text (led not-quoted)) = refl

pub card-unplaced : (c : List ℕ) → answer_placed nowhere (card_of c) ≡ unplaced_of c
unfolding card_of
card-unplaced c = go (unplaced_of c) (unplaced_by c)
  where
    go : (a : Result CardRead Fault) → RefusedBy OfCard a → answer_placed nowhere (answer_placed (column_of c) a) ≡ a
    go (Ok card) h = refl
    go (Err x) h = ap Err (plain x h)
