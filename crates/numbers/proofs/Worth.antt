-- Taking zeros off changes no value:
-- digits have the value of the significant ones times ten to the number of zeros taken off the end.
use Prim.Native.Char.{code}
use Prim.Native.Nat.{ℕ, suc, ◌+◌, ◌*◌, ◌-◌, ◌^◌}
use native.Mathlib.Nat.{pow-succ', mul-one, mul_assoc}
use native.Mathlib.Omega.{arith}
use mathlib.Core.Path.{◌≡◌, refl, sym, ap, ap₂, ◌∙◌}
use mathlib.Core.Bool.{Bool, true, false, cond}
use mathlib.Core.List.{List, [], ◌∷◌}
use borrow.Author.Tests.{eqb-true}
use lib.ListN.{length}
use Rattle.text.specs.Bytes.{is_zero}
use Rattle.text.specs.Trim.{trim_start, trim_end, cons_trimmed}
use Rattle.numbers.specs.Digits.{digit_of, digits_value_from, digits_value}

-- a zero's digit is nothing
none : (b : ℕ) → is_zero b ≡ true → digit_of b ≡ 0
unfolding is_zero
none b e = ap digit_of (eqb-true b (code "0") e)

-- zeros in front
front_worth : (s : List ℕ) → digits_value (trim_start is_zero s) ≡ digits_value s
unfolding trim_start digits_value_from
front_worth [] = refl
front_worth (b ∷ s) = by (is_zero b) refl (front_worth s)
  where
    by : (z : Bool) → is_zero b ≡ z → digits_value (trim_start is_zero s) ≡ digits_value s
        → digits_value (cond z (trim_start is_zero s) (b ∷ s)) ≡ digits_value (b ∷ s)
    by true e h = h ∙ sym (ap (λ (d : ℕ). digits_value_from (0 * 10 + d) s) (none b e))
    by false e h = refl

-- zeros at the end, each worth a factor ten
back_worth : (n : ℕ) (s : List ℕ)
    → digits_value_from n s ≡ digits_value_from n (trim_end is_zero s) * 10 ^ (length s - length (trim_end is_zero s))
unfolding trim_end digits_value_from cons_trimmed
back_worth n [] = sym (mul-one n)
back_worth n (b ∷ s) = by (is_zero b) refl (trim_end is_zero s) (back_worth (n * 10 + digit_of b) s)
  where
    kept : (r : List ℕ) → suc (length s) - suc (length r) ≡ length s - length r
    kept r = omega arith

    by : (z : Bool) → is_zero b ≡ z → (t : List ℕ)
        → digits_value_from (n * 10 + digit_of b) s ≡ digits_value_from (n * 10 + digit_of b) t * 10 ^ (length s - length t)
        → let kept = cons_trimmed z b t in
        digits_value_from (n * 10 + digit_of b) s ≡ digits_value_from n kept * 10 ^ (suc (length s) - length kept)
    by true e [] h =
        let same : n * 10 + digit_of b ≡ n * 10 = omega (arith, none b e) in
        let all : length s - 0 ≡ length s = omega arith in
        let more : suc (length s) ≡ suc (length s) - 0 = omega arith in
        h
        ∙ ap₂ (λ (x k : ℕ). x * 10 ^ k) same all
        ∙ mul_assoc n 10 (10 ^ length s)
        ∙ ap (λ (y : ℕ). n * y) (sym (pow-succ' 10 (length s)))
        ∙ ap (λ (k : ℕ). n * 10 ^ k) more
    by true e (c ∷ t) h = h ∙ ap (λ (k : ℕ). digits_value_from (n * 10 + digit_of b) (c ∷ t) * 10 ^ k) (sym (kept (c ∷ t)))
    by false e t h = h ∙ ap (λ (k : ℕ). digits_value_from (n * 10 + digit_of b) t * 10 ^ k) (sym (kept t))

-- zeros at both ends
pub worth : (d : List ℕ) → let rest = trim_start is_zero d in
    let significant = trim_end is_zero rest in
    digits_value d ≡ digits_value significant * 10 ^ (length rest - length significant)
worth d = sym (front_worth d) ∙ back_worth 0 (trim_start is_zero d)
