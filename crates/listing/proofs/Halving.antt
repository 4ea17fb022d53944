-- The places in the order of their keys, halved until it is known where a key stands among them.
use Prim.Native.Nat.{ℕ, ◌+◌, ◌<◌, ◌≤◌}
use native.Mathlib.Omega.{arith}
use mathlib.Core.Path.{◌≡◌, refl, sym, ap, ◌∙◌}
use mathlib.Core.Bool.{Bool, true, false, true≢false}
use mathlib.Core.List.{List}
use borrow.Author.Count.{below_more}
use borrow.Author.Tests.{eqb-true, eqb-false}
use lib.Arith.{lt_of_le-ne}
use lib.Dec.{eqb}
use Rattle.listing.specs.Keys.{is_before, row_at, row_in, Ordered}
use Rattle.listing.proofs.Ordering.{before_trans}

-- the places with numbers below `low` come before the key, those from `high` on do not
pub record Halving (keys order : List ℕ) (count low high : ℕ) : Type 0 where
  pub under : low ≤ high
  pub to : high ≤ count
  pub lower : (j : ℕ) → j < low → is_before (row_in keys order j) (row_at keys count) ≡ true
  pub upper : (j : ℕ) → high ≤ j → j < count → is_before (row_in keys order j) (row_at keys count) ≡ false

module _ {keys order : List ℕ} {count low high : ℕ} (H : Halving keys order count low high) where
  module _ (O : Ordered keys order count) (mid : ℕ) (from : low ≤ mid) (less : mid < high) where
    abbrev key : List ℕ
    key = row_at keys count

    -- what comes before the middle place comes before the key with it
    pub half-lower : is_before (row_in keys order mid) key ≡ true → Halving keys order count (mid + 1) high
    half-lower e =
        record {
          under = omega arith;
          to = H.to;
          lower =
              below_more (λ (j : ℕ). is_before (row_in keys order j) key ≡ true) mid
              (λ j p. before_trans (row_in keys order j) (row_in keys order mid) key (O.rising mid (omega (arith, H.to)) j p) e)
              e;
          upper = H.upper;
        }

    -- what comes behind the middle place does not come before the key either
    pub half-upper : is_before (row_in keys order mid) key ≡ false → Halving keys order count low mid
    half-upper e =
        record {
          under = from;
          to = omega (arith, H.to);
          lower = H.lower;
          upper = λ j p q. by j p q (eqb mid j) refl (is_before (row_in keys order j) key) refl;
        }
      where
        by : (j : ℕ) → mid ≤ j → j < count → (t : Bool) → eqb mid j ≡ t → (u : Bool)
            → is_before (row_in keys order j) key ≡ u → u ≡ false
        by j p q true d u g = sym g ∙ ap (λ (k : ℕ). is_before (row_in keys order k) key) (sym (eqb-true mid j d)) ∙ e
        by j p q false d true g =
            let behind = O.rising j q mid (lt_of_le-ne p (eqb-false mid j d)) in
            absurd (true≢false (sym (before_trans (row_in keys order mid) (row_in keys order j) key behind g) ∙ e))
        by j p q false d false g = refl
