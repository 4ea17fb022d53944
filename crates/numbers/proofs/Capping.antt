-- Integers whose size is read up to a cap.
use Rattle.std.specs.Prelude.{None, Option, Some}
use Rattle.std.specs.Option.{SomeIff, unwrap_or, option_map}
use Rattle.std.specs.Int.RustNames.{FitsSigned}
use Prim.Native.Nat.{ℕ, zero, suc, ◌+◌, ◌-◌, ◌^◌, ◌<◌, ◌≤◌, min}
use native.Mathlib.Omega.{arith}
use mathlib.Core.Path.{◌≡◌, refl, ap}
use mathlib.Core.Bool.{Bool, true, false, cond, ◌&&◌}
use mathlib.Core.List.{List, [], ◌∷◌}
use lib.ListN.{length, take, drop, get_or}
use Rattle.text.proofs.Trimming.{take_rest}
use lib.Dec.{leb, ltb}
use borrow.Author.Tests.{leb-true, leb-false, ltb-true, ltb-false, le-leb, lt-leb, lt-ltb, le-ltb}
use Rattle.std.proofs.Math.Bool.{and-true}
use Rattle.std.proofs.lemmas.Int.{ints}
use lib.IntN.{ℤ, pos, neg_ℤ, ◌+ℤ◌, ◌-ℤ◌}
use mir.Syntax.{w64}
use Rattle.numbers.specs.Signs.{is_negative, unsigned, signed_of, fits64}
use Rattle.numbers.specs.Digits.{is_digits, digits_value}
use Rattle.numbers.specs.Capped.{signed_up_to}
use Rattle.numbers.specs.Answers.{whole_of, invalid}
use Rattle.numbers.specs.Integers.{integer_of}
use Rattle.numbers.specs.Decimals.{is_mark, max_exponent, written_of, exponent_of}

-- ---- what fits 64 signed bits, by the sign

minus_is : (n : ℕ) → pos 0 -ℤ pos n ≡ neg_ℤ (pos n)
minus_is n = omega (arith, ints)

plus_is : (n : ℕ) → pos 0 +ℤ pos n ≡ pos n
plus_is n = omega (arith, ints)

minus_fits : (n : ℕ) → n ≤ 2 ^ 63 → FitsSigned w64 (neg_ℤ (pos n))
minus_fits zero h = record { sfits = omega arith }
minus_fits (suc n) h = record { sfits = omega arith }

fits_minus : (n : ℕ) → FitsSigned w64 (neg_ℤ (pos n)) → n ≤ 2 ^ 63
fits_minus zero f = omega arith
fits_minus (suc n) f = omega (arith, f.sfits)

-- a size taken off zero
taken_off : (r : Option ℤ) (n : ℕ) → SomeIff r (FitsSigned w64 (pos 0 -ℤ pos n)) (pos 0 -ℤ pos n)
    → r ≡ cond (fits64 true n) (Some (signed_of true n)) None
taken_off r n h = by (leb n (2 ^ 63)) refl r h
  where
    by : (t : Bool) → leb n (2 ^ 63) ≡ t → (r : Option ℤ) → SomeIff r (FitsSigned w64 (pos 0 -ℤ pos n)) (pos 0 -ℤ pos n)
        → r ≡ cond (leb n (2 ^ 63)) (Some (signed_of true n)) None
    by true e None h = absurd (h (rw minus_is (minus_fits n (leb-true n (2 ^ 63) e))))
    by false e None h = rw e
    by true e (Some x) h = rw (e, h.1, minus_is)
    by false e (Some x) h =
        let above : 2 ^ 63 < n = leb-false n (2 ^ 63) e in
        let below : n ≤ 2 ^ 63 = fits_minus n (rw minus_is at h.0) in
        absurd (omega arith)

-- a size put on zero
put_on : (r : Option ℤ) (n : ℕ) → SomeIff r (FitsSigned w64 (pos 0 +ℤ pos n)) (pos 0 +ℤ pos n)
    → r ≡ cond (fits64 false n) (Some (signed_of false n)) None
put_on r n h = by (ltb n (2 ^ 63)) refl r h
  where
    by : (t : Bool) → ltb n (2 ^ 63) ≡ t → (r : Option ℤ) → SomeIff r (FitsSigned w64 (pos 0 +ℤ pos n)) (pos 0 +ℤ pos n)
        → r ≡ cond (ltb n (2 ^ 63)) (Some (signed_of false n)) None
    by true e None h = absurd (h (rw plus_is (record { sfits = ltb-true n (2 ^ 63) e })))
    by false e None h = rw e
    by true e (Some x) h = rw (e, h.1, plus_is)
    by false e (Some x) h =
        let fit : FitsSigned w64 (pos n) = rw plus_is at h.0 in
        let above : 2 ^ 63 ≤ n = ltb-false n (2 ^ 63) e in
        absurd (omega (arith, fit.sfits))

-- ---- a sign and digits

module _ (cap : ℕ) (s : List ℕ) where
  pub capped_none : is_digits (unsigned s) ≡ false → None ≡ signed_up_to cap s
  unfolding signed_up_to
  capped_none e = rw e

  module _ (digits : is_digits (unsigned s) ≡ true) (n : ℕ) (size : n ≡ min (digits_value (unsigned s)) cap) (r : Option ℤ) where
    pub capped_minus : is_negative s ≡ true → SomeIff r (FitsSigned w64 (pos 0 -ℤ pos n)) (pos 0 -ℤ pos n) → r ≡ signed_up_to cap s
    unfolding signed_up_to
    capped_minus minus h = rw (digits, minus, ← size) (taken_off r n h)

    pub capped_plus : is_negative s ≡ false → SomeIff r (FitsSigned w64 (pos 0 +ℤ pos n)) (pos 0 +ℤ pos n) → r ≡ signed_up_to cap s
    unfolding signed_up_to
    capped_plus plus h = rw (digits, plus, ← size) (put_on r n h)

-- ---- integers, whose cap fits neither sign

abbrev beyond : ℕ
beyond = 2 ^ 63 + 1

-- a size that fits is not capped
uncapped : (minus : Bool) (n : ℕ) → fits64 minus (min n beyond) ≡ true → min n beyond ≡ n
uncapped true n h = omega (arith, leb-true (min n beyond) (2 ^ 63) h)
uncapped false n h = omega (arith, ltb-true (min n beyond) (2 ^ 63) h)

-- a capped size that does not fit stands for one that does not
unfit : (minus : Bool) (n : ℕ) → fits64 minus (min n beyond) ≡ false → fits64 minus n ≡ false
unfit true n h = lt-leb n (2 ^ 63) (omega (arith, leb-false (min n beyond) (2 ^ 63) h))
unfit false n h = le-ltb n (2 ^ 63) (omega (arith, ltb-false (min n beyond) (2 ^ 63) h))

-- by whether there are digits alone, and whether their size fits
by_fit : (s : List ℕ) (minus : Bool) (n : ℕ) (digits t : Bool) → fits64 minus (min n beyond) ≡ t
    → unwrap_or
    (option_map whole_of (cond (digits && fits64 minus (min n beyond)) (Some (signed_of minus (min n beyond))) None)) (invalid s)
    ≡ cond (digits && fits64 minus n) (whole_of (signed_of minus n)) (invalid s)
by_fit s minus n false t h = refl
by_fit s minus n true false h = rw (h, unfit minus n h)
by_fit s minus n true true h =
    let same : min n beyond ≡ n = uncapped minus n h in
    rw (h, rw same at h, same)

pub integer_capped : (s : List ℕ) → unwrap_or (option_map whole_of (signed_up_to beyond s)) (invalid s) ≡ integer_of s
unfolding signed_up_to integer_of
integer_capped s =
    let n = digits_value (unsigned s) in
    by_fit s (is_negative s) n (is_digits (unsigned s)) (fits64 (is_negative s) (min n beyond)) refl

-- ---- exponents, whose cap fits both

within : (minus : Bool) (n : ℕ) → fits64 minus (min n max_exponent) ≡ true
within true n = le-leb (min n max_exponent) (2 ^ 63) (omega arith)
within false n = lt-ltb (min n max_exponent) (2 ^ 63) (omega arith)

pub written_capped : (s : List ℕ) → signed_up_to max_exponent s ≡ written_of s
unfolding signed_up_to written_of
written_capped s = rw (within (is_negative s) (digits_value (unsigned s)), and-true)

-- behind the letter
pub exponent_at : (s : List ℕ) → 0 < length s → is_mark (get_or s 0 0) ≡ true
    → signed_up_to max_exponent (take (length s - 1) (drop 1 s)) ≡ exponent_of s
unfolding exponent_of
exponent_at [] h e = absurd (omega arith)
exponent_at (b ∷ s) h e = rw (e, ← written_capped s) (ap (signed_up_to max_exponent) (take_rest (b ∷ s) 1))
