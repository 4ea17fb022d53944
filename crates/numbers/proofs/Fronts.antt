-- What a text is, by its first byte.
use Prim.Native.Nat.{ℕ, ◌≤◌}
use native.Mathlib.Omega.{arith}
use mathlib.Core.Path.{◌≡◌}
use mathlib.Core.Bool.{Bool, true, false, cond}
use mathlib.Core.List.{List, [], ◌∷◌}
use lib.ListN.{length, drop, get_or, drop_of_length-le}
use Rattle.text.proofs.Trimming.{at_next}
use Rattle.numbers.specs.Signs.{is_sign, unsigned}

-- no bytes
pub none : (s : List ℕ) → length s ≡ 0 → s ≡ []
none s h = drop_of_length-le s {i = 0} (omega arith)

-- some bytes: the first, and the rest
pub front : (s : List ℕ) → (length s ≡ 0 → ⊥) → s ≡ get_or s 0 0 ∷ drop 1 s
front s some = at_next s 0 (omega (arith, some))

-- taking a sign off makes no text longer
pub sign_shorter : (s : List ℕ) → length (unsigned s) ≤ length s
unfolding unsigned
sign_shorter [] = omega arith
sign_shorter (b ∷ s) = by (is_sign b)
  where
    by : (t : Bool) → length (cond t s (b ∷ s)) ≤ length (b ∷ s)
    by true = omega arith
    by false = omega arith
