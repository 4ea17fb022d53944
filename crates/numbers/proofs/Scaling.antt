-- Significant digits and their power.
use Rattle.std.specs.Int.RustNames.{FitsSigned, unsigned_abs}
use Rattle.std.proofs.lemmas.Int.{ints}
use Prim.Native.Nat.{ℕ, ◌-◌, ◌≤◌}
use native.Mathlib.Omega.{arith}
use mathlib.Core.Path.{◌≡◌, refl, sym, ap, ◌∙◌}
use mathlib.Core.Bool.{Bool}
use mathlib.Core.List.{List, [], ◌∷◌}
use lib.IntN.{ℤ, pos, ◌+ℤ◌, ◌-ℤ◌}
use lib.ListN.{length, drop_of_length-le}
use mir.Syntax.{w64}
use mir.Val.{to_z, of_z}
use Rattle.text.specs.Text.{size}
use Rattle.text.specs.Bytes.{is_zero}
use Rattle.text.specs.Trim.{trim_start, trim_end}
use Rattle.text.proofs.Trimming.{start_shorter, end_shorter}
use Rattle.numbers.specs.declared.Size.TheVariants.{Finite}
use Rattle.numbers.specs.Answers.{decimal_number}
use Rattle.numbers.specs.Decimals.{max_exponent, power_of, scaled}

-- the power, as 64 bits hold it
module _ (exponent : ℤ) (places zeros : ℕ) (small : unsigned_abs exponent ≤ max_exponent) (few : places ≤ size) (some : zeros ≤ size) where
  pub power_fits : FitsSigned w64 (to_z w64 (of_z w64 (to_z w64 (of_z w64 exponent) -ℤ to_z w64 places)) +ℤ to_z w64 zeros)
  power_fits = omega (arith, ints)

  pub power_told : to_z w64 (of_z w64 (to_z w64 (of_z w64 (to_z w64 (of_z w64 exponent) -ℤ to_z w64 places)) +ℤ to_z w64 zeros))
      ≡ exponent -ℤ pos places +ℤ pos zeros
  power_told = omega (arith, ints)

-- some digits have the power that is counted for them
some_power : (s : List ℕ) (p : ℤ) → (length s ≡ 0 → ⊥) → power_of s p ≡ p
some_power [] p h = absurd (h refl)
some_power (b ∷ s) p h = refl

-- the digits d without the zeros in front are r, and r without those at the end are s
module _ (d r s : List ℕ) (front : r ≡ trim_start is_zero d) (back : s ≡ trim_end is_zero r) where
  cut : s ≡ trim_end is_zero (trim_start is_zero d)
  cut = back ∙ ap (trim_end is_zero) front

  pub trimmed_shorter : length s ≤ length r
  trimmed_shorter = rw back (end_shorter is_zero r)

  pub trimmed_few : length d ≤ size → length r ≤ size
  trimmed_few few = omega (arith, ap length front, start_shorter is_zero d)

  module _ (minus : Bool) (places : ℕ) (exponent : ℤ) where
    -- nothing but zeros
    pub scaled-zero : length s ≡ 0 → decimal_number minus (Finite (pos 0)) [] ≡ scaled minus d places exponent
    unfolding scaled
    scaled-zero none = rw (sym cut ∙ drop_of_length-le s {i = 0} (omega arith))

    -- some significant digits
    pub scaled-some : (length s ≡ 0 → ⊥)
        → decimal_number minus (Finite (exponent -ℤ pos places +ℤ pos (length r - length s))) s ≡ scaled minus d places exponent
    unfolding scaled
    scaled-some some =
        let power = exponent -ℤ pos places +ℤ pos (length r - length s) in
        rw (← front, ← back) (ap (λ (p : ℤ). decimal_number minus (Finite p) s) (sym (some_power s power some)))
