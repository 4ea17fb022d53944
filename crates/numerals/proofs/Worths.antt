-- The digits of a number write that number.
use Prim.Native.Nat.{ℕ, zero, suc, ◌/◌, ◌%◌, ◌<◌}
use native.Mathlib.Omega.{arith}
use mathlib.Core.Path.{◌≡◌, refl, ap, ◌∙◌}
use mathlib.Core.Bool.{Bool, true, false, cond}
use mathlib.Core.List.{List, [], ◌∷◌}
use borrow.Author.Tests.{ltb-false}
use lib.Dec.{ltb}
use Rattle.numbers.specs.Digits.{digits_value_from, digits_value}
use Rattle.numerals.specs.Numerals.{digit_byte, digits_before, decimal_digits}

write_before : (more n : ℕ) (v : List ℕ) → n < more → digits_value_from 0 (digits_before more n v) ≡ digits_value_from n v
unfolding digits_before digits_value_from
write_before zero n v h = absurd (omega arith)
write_before (suc more) n v h = go (ltb n 10) refl (write_before more (n / 10) (digit_byte (n % 10) ∷ v))
  where
    go : (t : Bool) → ltb n 10 ≡ t
        → let last = digit_byte (n % 10) ∷ v in
        let front = digits_before more (n / 10) last in
        (n / 10 < more → digits_value_from 0 front ≡ digits_value_from (n / 10) last)
        → digits_value_from 0 (cond t (digit_byte n ∷ v) front) ≡ digits_value_from n v
    go true e later = ap (λ (k : ℕ). digits_value_from k v) (omega arith)
    go false e later =
        let big = ltb-false n 10 e in
        later (omega arith) ∙ ap (λ (k : ℕ). digits_value_from k v) (omega arith)

pub digits_write : (n : ℕ) → digits_value (decimal_digits n) ≡ n
unfolding decimal_digits digits_value_from
digits_write n = write_before (suc n) n [] (omega arith)
