-- Which of two keys comes before the other.
use Prim.Native.Nat.{ℕ, ◌+◌, ◌<◌, ◌≤◌}
use native.Mathlib.Omega.{arith}
use mathlib.Core.Path.{◌≡◌, refl, sym, ap₂, ◌∙◌}
use mathlib.Core.Bool.{Bool, true, false, cond}
use mathlib.Core.List.{List, [], ◌∷◌}
use borrow.Author.Tests.{eqb-true, eqb-false, ltb-true, ltb-false, eq-eqb, ne_eqb, lt-ltb}
use lib.Dec.{eqb, ltb}
use lib.ListN.{length, drop, get_or, drop_of_length-le}
use Rattle.laws.proofs.Truths.{false≢true}
use Rattle.text.proofs.Trimming.{at_next}
use Rattle.listing.specs.Keys.{is_before}

-- ---- the order is one: no key comes before itself, and of two that differ one comes before the other
pub before_self : (s : List ℕ) → is_before s s ≡ false
unfolding is_before
before_self [] = refl
before_self (a ∷ s) = rw (eq-eqb a a refl) (before_self s)

pub before_trans : (s t u : List ℕ) → is_before s t ≡ true → is_before t u ≡ true → is_before s u ≡ true
unfolding is_before
before_trans [] t u d e = absurd (false≢true d)
before_trans (a ∷ s) [] u d e = absurd (false≢true d)
before_trans (a ∷ s) (b ∷ t) [] d e = absurd (false≢true e)
before_trans (a ∷ s) (b ∷ t) (c ∷ u) d e = go (eqb a b) refl (eqb b c) refl d e (before_trans s t u)
  where
    less : a < c → cond (eqb a c) (is_before s u) (ltb a c) ≡ true
    less h = rw (ne_eqb a c (λ (z : a ≡ c). omega arith), lt-ltb a c h)

    go : (x : Bool) → eqb a b ≡ x → (y : Bool) → eqb b c ≡ y
        → cond x (is_before s t) (ltb a b) ≡ true → cond y (is_before t u) (ltb b c) ≡ true
        → (is_before s t ≡ true → is_before t u ≡ true → is_before s u ≡ true)
        → cond (eqb a c) (is_before s u) (ltb a c) ≡ true
    go true p true q d e more = rw (eq-eqb a c (eqb-true a b p ∙ eqb-true b c q)) (more d e)
    go true p false q d e more = less (omega (arith, eqb-true a b p, ltb-true b c e))
    go false p true q d e more = less (omega (arith, eqb-true b c q, ltb-true a b d))
    go false p false q d e more = less (omega (arith, ltb-true a b d, ltb-true b c e))

pub before_total : (s t : List ℕ) → length s ≡ length t → is_before s t ≡ false → is_before t s ≡ false → s ≡ t
unfolding is_before
before_total [] [] l d e = refl
before_total [] (b ∷ t) l d e = absurd (omega arith)
before_total (a ∷ s) [] l d e = absurd (omega arith)
before_total (a ∷ s) (b ∷ t) l d e = go (eqb a b) refl d (eqb b a) refl e (before_total s t (omega arith))
  where
    go : (x : Bool) → eqb a b ≡ x → cond x (is_before s t) (ltb a b) ≡ false
        → (y : Bool) → eqb b a ≡ y → cond y (is_before t s) (ltb b a) ≡ false
        → (is_before s t ≡ false → is_before t s ≡ false → s ≡ t) → ◌≡◌ {A = List ℕ} (a ∷ s) (b ∷ t)
    go true p d true q e more = ap₂ ◌∷◌ (eqb-true a b p) (more d e)
    go true p d false q e more = absurd (eqb-false b a q (sym (eqb-true a b p)))
    go false p d true q e more = absurd (eqb-false a b p (sym (eqb-true b a q)))
    go false p d false q e more = absurd (eqb-false a b p (omega (arith, ltb-false a b d, ltb-false b a e)))

-- ---- word by word
module _ (s t : List ℕ) (q : ℕ) where
  -- one of them ends
  pub before-left : length s ≤ q → false ≡ is_before (drop q s) (drop q t)
  unfolding is_before
  before-left h = rw (drop_of_length-le s h)

  pub before_right : q < length s → length t ≤ q → false ≡ is_before (drop q s) (drop q t)
  unfolding is_before
  before_right h k = rw (at_next s q h, drop_of_length-le t k)

  module _ (h : q < length s) (k : q < length t) where
    -- the words at q are equal, or they tell
    pub before_next : get_or s q 0 ≡ get_or t q 0 → is_before (drop (q + 1) s) (drop (q + 1) t) ≡ is_before (drop q s) (drop q t)
    unfolding is_before
    before_next e = rw (at_next s q h, at_next t q k, eq-eqb (get_or s q 0) (get_or t q 0) e)

    pub before_here : (get_or s q 0 ≡ get_or t q 0 → ⊥) → ltb (get_or s q 0) (get_or t q 0) ≡ is_before (drop q s) (drop q t)
    unfolding is_before
    before_here n = rw (at_next s q h, at_next t q k, ne_eqb (get_or s q 0) (get_or t q 0) n)
