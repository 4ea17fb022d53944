-- A card that is refused has a column, and it is one of its bytes.
use Rattle.std.specs.Prelude.{Err, Ok, Option, Result, Some}
use Prim.Native.Nat.{ℕ, suc, ◌+◌, ◌-◌, ◌<◌, ◌≤◌}
use Prim.Native.Char.{code}
use native.Mathlib.Omega.{arith}
use mathlib.Core.Path.{◌≡◌, refl, sym, subst}
use mathlib.Core.Bool.{Bool, true, false, cond, true≢false}
use mathlib.Core.List.{List, [], ◌∷◌}
use lib.Dec.{leb}
use lib.ListN.{length, drop, length-drop}
use Rattle.refusal.specs.declared.Fault.{Fault}
use Rattle.refusal.specs.declared.Refusal.TheVariants as R
use Rattle.refusal.specs.Numbers.{fault_of, answer_placed}
use Rattle.refusal.proofs.Placing.{RefusedBy}
use Rattle.splitting.specs.declared.Halves.{Halves}
use Rattle.card.specs.declared.CardRead.{CardRead}
use Rattle.text.specs.declared.Text.{Text}
use Rattle.text.specs.Trim.{trim_start, trim_end, trim}
use Rattle.text.specs.Text.{size, text_of}
use Rattle.text.proofs.Finding.{found_within}
use Rattle.splitting.specs.Scan.{scan_from}
use Rattle.splitting.specs.Split.{split_of}
use Rattle.splitting.specs.Columns.{text_column}
use Rattle.splitting.proofs.Refusing.{Led, InText, split_in_text, OfText}
use Rattle.splitting.proofs.Splitting.{first-within}
use Rattle.splitting.proofs.Within.{Within, split_within}
use Rattle.value.specs.Values.{value_with, value_of}
use Rattle.value.proofs.Placing.{value_by}
use Rattle.card.specs.declared.Class.{Class}
use Rattle.card.specs.declared.Class.TheVariants as K
use Rattle.card.specs.Keywords.{first_high, has_high, keyword_of, class_of}
use Rattle.card.specs.Columns.{high_from, equals_of, equals_byte, behind, text_from, column_in, column_of}
use Rattle.card.specs.Cards.{by_class, low_of, unplaced_of, card_of}
use Rattle.card.proofs.Placing.{led_in, text_in}
use Rattle.card.proofs.Refusing.{continued_by, extension_by, hierarch_by, other_by}

high_within : (s : List ℕ) (i : ℕ) → has_high s ≡ true → i + length s ≤ size → Within (high_from s i)
unfolding has_high high_from
high_within [] i e h = absurd (true≢false (sym e))
high_within (b ∷ s) i e h = go (leb first_high b) e (λ (d : has_high s ≡ true). high_within s (suc i) d (omega arith))
  where
    go : (t : Bool) → cond t true (has_high s) ≡ true → (has_high s ≡ true → Within (high_from s (suc i)))
        → Within (cond t (Some i) (high_from s (suc i)))
    go true e later = omega arith
    go false e later = later e

module _ (c : List ℕ) (whole : length c ≡ size) where
  -- the column of a refusal, where the card's text stands from a byte on, is one of the card's
  abbrev Placed : ℕ → Fault → Type 0
  Placed from x = Within (column_in from c x.why)

  few : (from : ℕ) → length (drop from c) ≤ size - from
  few from = omega (arith, length-drop from c)

  text-within : (from : ℕ) → from < size → OfText (Placed from) (drop from c)
  text-within from low =
      record {
        first = λ (x : Fault) (h : Led x). subst Within (led_in from c x h) (first-within from (drop from c) (few from) low);
        split = go (split_of (drop from c)) (split_in_text (drop from c)) (split_within from (drop from c) (few from));
      }
    where
      go : (a : Result Halves Fault) → RefusedBy InText a → RefusedBy (λ (x : Fault). Within (text_column from (drop from c) x.why)) a
          → RefusedBy (Placed from) a
      go (Ok h) u w = tt
      go (Err x) u w = subst Within (text_in from c x u) w

  -- a value that stands from the card's end on is undefined
  value-within : (from : ℕ) → RefusedBy (Placed from) (value_of (drop from c))
  unfolding value_of value_with split_of trim trim_start trim_end scan_from
  value-within from = go (drop from c) refl
    where
      go : (l : List ℕ) → drop from c ≡ l → RefusedBy (Placed from) (value_of (drop from c))
      go [] e = subst (λ (l : List ℕ). RefusedBy (Placed from) (value_of l)) (sym e) tt
      go (b ∷ l) e =
          let some : 0 < length (drop from c) = rw e (omega arith) in
          value_by (Placed from) (drop from c) (text-within from (omega (arith, few from, some)))

  class_within : (k : Class) (name : Text) → RefusedBy (Placed (text_from k c)) (by_class k name c)
  class_within K.Empty name = tt
  class_within K.Comment name = tt
  class_within K.History name = tt
  class_within K.Continue name = continued_by (Placed 8) name c (text-within 8 (omega arith))
  class_within K.Xtension name = extension_by (Placed 10) name c (text-within 10 (omega arith))
  class_within K.Hierarch name =
      hierarch_by (Placed (behind (equals_of c))) c (omega arith)
      (λ (i : ℕ) (e : equals_of c ≡ Some i). subst (λ (p : Option ℕ). Within (equals_byte p)) (sym e) (equals i e))
      (λ (i : ℕ) (e : equals_of c ≡ Some i).
      subst (λ (p : Option ℕ). RefusedBy (Placed (behind p)) (value_of (drop (10 + i) c))) (sym e) (value-within (10 + i)))
    where
      equals : (i : ℕ) → equals_of c ≡ Some i → 9 + i < size
      equals i e = omega (arith, found_within (code "=") (drop 9 c) i e, length-drop 9 c)
  class_within K.End name = tt
  class_within K.Other name = other_by (Placed 10) name c (value-within 10)

  pub card-within : RefusedBy (λ (x : Fault). Within x.column) (card_of c)
  unfolding card_of unplaced_of
  card-within = column (unplaced_of c) (by_high (has_high c) refl)
    where
      column : (a : Result CardRead Fault) → RefusedBy (λ (x : Fault). Within (column_of c x.why)) a
          → RefusedBy (λ (x : Fault). Within x.column) (answer_placed (column_of c) a)
      column (Ok card) h = tt
      column (Err x) h = h

      by_high : (t : Bool) → has_high c ≡ t
          → RefusedBy (λ (x : Fault). Within (column_of c x.why)) (cond t (Err (fault_of R.HighByte)) (low_of c))
      by_high true e = high_within c 0 e (omega arith)
      by_high false e = class_within (class_of (keyword_of c)) (text_of (keyword_of c))
