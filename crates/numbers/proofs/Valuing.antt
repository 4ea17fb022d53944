-- The value of digits, up to a cap.
use Rattle.std.specs.List.{fold}
use Prim.Native.Nat.{ℕ, ◌+◌, ◌*◌, ◌-◌, ◌^◌, ◌<◌, min}
use native.Mathlib.Omega.{arith}
use mathlib.Core.Path.{◌≡◌, refl, ap, ◌∙◌}
use mathlib.Core.List.{List, [], ◌∷◌}
use Rattle.numbers.specs.Digits.{digit_of, digits_value_from, digits_value}

-- one digit more, as 64 bits hold it
abbrev pub extended : ℕ → ℕ → ℕ → ℕ
extended cap n b = min (min (min (n * 10) (2 ^ 64 - 1) + digit_of b) (2 ^ 64 - 1)) cap

module _ (cap : ℕ) (small : cap < 2 ^ 64) where
  -- what is capped on the way is capped in the end
  folded_from : (n : ℕ) (s : List ℕ) → fold (extended cap) (min n cap) s ≡ min (digits_value_from n s) cap
  unfolding digits_value_from
  folded_from n [] = refl
  folded_from n (b ∷ s) =
      let next : extended cap (min n cap) b ≡ min (n * 10 + digit_of b) cap = omega arith in
      ap (λ (m : ℕ). fold (extended cap) m s) next ∙ folded_from (n * 10 + digit_of b) s

  pub folded : (s : List ℕ) → fold (extended cap) 0 s ≡ min (digits_value s) cap
  folded s =
      let none : 0 ≡ min 0 cap = omega arith in
      ap (λ (m : ℕ). fold (extended cap) m s) none ∙ folded_from 0 s
