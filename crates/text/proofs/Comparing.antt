-- Two texts compared.
use Prim.Native.Nat.{ℕ}
use mathlib.Core.Path.{◌≡◌, refl, ap₂}
use mathlib.Core.Bool.{Bool, true, false, ◌&&◌}
use mathlib.Core.List.{List, [], ◌∷◌}
use borrow.Author.Tests.{eq-eqb, eqb-true}
use lib.Dec.{eqb}
use Rattle.std.specs.Cmp.Lexicographic.{pointwise}
use Rattle.text.specs.Same.{same}
use Rattle.laws.proofs.Truths.{false≢true}

-- the library's comparison is this one
pub same_pointwise : (s t : List ℕ) → pointwise eqb s t ≡ same s t
unfolding same
same_pointwise [] [] = refl
same_pointwise [] (b ∷ t) = refl
same_pointwise (a ∷ s) [] = refl
same_pointwise (a ∷ s) (b ∷ t) = rw (same_pointwise s t)

-- a text is the same as itself
pub same_self : (s : List ℕ) → same s s ≡ true
unfolding same
same_self [] = refl
same_self (a ∷ s) = rw (eq-eqb a a refl) (same_self s)

-- and texts that are the same are equal
pub same_eq : (s t : List ℕ) → same s t ≡ true → s ≡ t
unfolding same
same_eq [] [] e = refl
same_eq [] (b ∷ t) e = absurd (false≢true e)
same_eq (a ∷ s) [] e = absurd (false≢true e)
same_eq (a ∷ s) (b ∷ t) e = go (eqb a b) refl e (same_eq s t)
  where
    go : (u : Bool) → eqb a b ≡ u → (u && same s t) ≡ true → (same s t ≡ true → s ≡ t)
        → ◌≡◌ {A = List ℕ} (a ∷ s) (b ∷ t)
    go true d r h = ap₂ ◌∷◌ (eqb-true a b d) (h r)
    go false d r h = absurd (false≢true r)
