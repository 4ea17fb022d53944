-- The place of a byte, a byte at a time.
use Rattle.std.specs.Prelude.{None, Option, Some}
use Rattle.std.specs.List.{position, position_from}
use Rattle.std.proofs.lemmas.Iterator.Adapters.{position_from-zero}
use Prim.Native.Nat.{ℕ, suc, ◌+◌, ◌<◌}
use native.Mathlib.Nat.{zero-add}
use native.Mathlib.Numerals.{add-one}
use native.Mathlib.Omega.{arith}
use mathlib.Core.Path.{◌≡◌, subst, ◌∙◌}
use mathlib.Core.Bool.{Bool, true, false, cond}
use mathlib.Core.List.{List, [], ◌∷◌}
use lib.Dec.{eqb}
use lib.ListN.{length}
use Rattle.text.specs.Place.{place_from, place_of}

-- the library's place is this one
pub place-position_from : (b : ℕ) (s : List ℕ) (i : ℕ) → position_from (λ c. eqb c b) i s ≡ place_from b s i
unfolding place_from
place-position_from b [] i = λ _. None
place-position_from b (c ∷ s) i = rw (add-one, place-position_from b s (suc i))

pub place_position : (b : ℕ) (s : List ℕ) → position (λ c. eqb c b) s ≡ place_of b s
place_position b s = position_from-zero (λ c. eqb c b) s ∙ place-position_from b s 0

-- a place, if there is one, is below n
abbrev pub Under : ℕ → Option ℕ → Type 0
Under n (Some k) = k < n
Under n None = Unit {0}

-- a byte's place is one of the text's
pub place_under : (b : ℕ) (s : List ℕ) (i : ℕ) → Under (i + length s) (place_from b s i)
unfolding place_from
place_under b [] i = tt
place_under b (c ∷ s) i = go (eqb c b) (place_from b s (suc i)) (place_under b s (suc i))
  where
    go : (t : Bool) (p : Option ℕ) → Under (suc i + length s) p → Under (i + suc (length s)) (cond t (Some i) p)
    go true p h = omega arith
    go false (Some k) h = omega arith
    go false None h = tt

pub found_within : (b : ℕ) (s : List ℕ) (k : ℕ) → place_of b s ≡ Some k → k < length s
found_within b s k e = subst (Under (length s)) e (subst (λ (n : ℕ). Under n (place_of b s)) (zero-add (length s)) (place_under b s 0))
