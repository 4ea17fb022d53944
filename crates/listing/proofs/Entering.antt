-- An entry put into a table by the key of its name.
use Rattle.std.specs.Prelude.{Option}
use Prim.Native.Nat.{ℕ, ◌+◌, ◌*◌, ◌<◌}
use native.Mathlib.Omega.{arith}
use mathlib.Core.Path.{◌≡◌, sym, ap, subst, ◌∙◌}
use mathlib.Core.Bool.{true, false}
use mathlib.Core.List.{List}
use lib.ListN.{get_or, set}
use lib.Seq.{sets}
use Rattle.listing.specs.Keys.{words_of_key, key_of, is_before, row_at, row_in, Ordered, Parted, Slid, Ready}
use Rattle.listing.specs.Keys.{arrays_by, arrays_at, Entered}
use Rattle.listing.proofs.Keying.{length-key}
use Rattle.listing.proofs.Rows.{row_other, row_own, ordered-behind, found, not_there, ordered-put, place_none, place_at}

module _ {count : ℕ} {first last times keys order : List ℕ} (R : Ready count first last times keys order) (name : List ℕ)
    (i : ℕ) {keys₁ : List ℕ}
    (stored : keys₁ ≡ sets keys (count * words_of_key) (key_of name)) where
  pub behind : Ordered keys₁ order count
  behind = subst (λ (l : List ℕ). Ordered l order count) (sym stored) (ordered-behind R.ordered (key_of name))

  other_so : (k : ℕ) → k < count → row_at keys₁ k ≡ row_at keys k
  other_so k h = ap (λ (l : List ℕ). row_at l k) stored ∙ row_other keys (key_of name) count k h

  own_so : row_at keys₁ count ≡ key_of name
  own_so =
      ap (λ (l : List ℕ). row_at l count) stored
      ∙ row_own keys (key_of name) count (length-key name) (omega (arith, R.room, R.ordered.keys_long))

  module _ {at : ℕ} (P : Parted keys₁ order count at) where
    -- at the place that has the key
    pub enter_again : at < count → is_before (row_at keys₁ count) (row_in keys₁ order at) ≡ false
        → let k = get_or order at 0 in
        Entered name i count first last times keys (arrays_by count first (set last k i) (set times k (get_or times k 0 + 1))) keys₁ order
    enter_again h e =
        let k = get_or order at 0 in
        let under = R.ordered.within at h in
        let row = sym (other_so k under) ∙ found behind R.room P h e ∙ own_so in
        record {
          put = sym (ap (λ (p : Option ℕ). arrays_at p i count first last times) (place_at R.ordered (key_of name) k under row));
          rows = stored;
          ordered = behind;
        }

    -- behind all places, where none has it
    pub enter_new : (at < count → is_before (row_at keys₁ count) (row_in keys₁ order at) ≡ true)
        → {order₁ : List ℕ} → Slid order at count count order₁
        → let then = arrays_by (count + 1) (set first count i) (set last count i) (set times count 1) in
        Entered name i count first last times keys then keys₁ order₁
    enter_new new S =
        let none : (k : ℕ) → k < count → row_at keys k ≡ key_of name → ⊥ =
        λ k p e. not_there behind R.room P new k p (other_so k p ∙ e ∙ sym own_so) in
        record {
          put = sym (ap (λ (p : Option ℕ). arrays_at p i count first last times) (place_none R.ordered (key_of name) none));
          rows = stored;
          ordered = ordered-put behind R.room P new S;
        }
