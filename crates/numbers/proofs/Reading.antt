-- What the definitions answer, by what was found on the way.
use Rattle.std.specs.Prelude.{None, Option, Some}
use Rattle.std.specs.Int.RustNames.{unsigned_abs}
use Prim.Native.Char.{code}
use Prim.Native.Nat.{ℕ, zero, suc, ◌≤◌, min}
use native.Mathlib.Omega.{arith}
use mathlib.Core.Path.{◌≡◌, refl, ap, ap₂, subst, ◌∙◌}
use mathlib.Core.Bool.{Bool, true, false, cond}
use mathlib.Core.List.{List, [], ◌∷◌, ◌++◌, map}
use lib.Dec.{eqb}
use lib.IntN.{ℤ}
use lib.ListN.{length, take, length-append}
use lib.Seq.{take_all}
use Rattle.text.specs.declared.Text.{Text}
use Rattle.text.specs.Text.{size, text_of, bytes_of}
use Rattle.text.specs.Bytes.{ascii, is_digit, d_to_e}
use Rattle.text.specs.Trim.{leading, trim_start}
use Rattle.text.proofs.Trimming.{leading_length, start_shorter}
use Rattle.text.proofs.Texts.{bytes-text}
use Rattle.numbers.specs.declared.Size.TheVariants.{Infinite, Nan}
use Rattle.numbers.specs.declared.Number.{Number}
use Rattle.numbers.specs.Signs.{is_negative, unsigned, signed_of}
use Rattle.numbers.specs.Digits.{is_empty, is_digits, digits_value}
use Rattle.numbers.specs.Answers.{whole_of, decimal_number, invalid}
use Rattle.numbers.specs.Integers.{integer_of}
use Rattle.numbers.specs.Decimals.{is_word, is_mark, max_exponent, written_of, exponent_of, fraction_of, after_fraction, digits_of}
use Rattle.numbers.specs.Decimals.{scaled, finite_of, decimal_of}
use Rattle.numbers.specs.Numbers.{read_number}

-- ---- an exponent's size is at most the largest

signed_abs : (minus : Bool) (n : ℕ) → unsigned_abs (signed_of minus n) ≡ n
signed_abs true zero = refl
signed_abs true (suc n) = refl
signed_abs false n = refl

abbrev Small : Option ℤ → Type 0
Small (Some z) = unsigned_abs z ≤ max_exponent
Small None = Unit {0}

small_cond : (t : Bool) (x : Option ℤ) → Small x → Small (cond t x None)
small_cond true x h = h
small_cond false x h = tt

small_exponent : (s : List ℕ) → Small (exponent_of s)
unfolding exponent_of written_of
small_exponent [] = omega arith
small_exponent (b ∷ s) =
    let n = min (digits_value (unsigned s)) max_exponent in
    let few : unsigned_abs (signed_of (is_negative s) n) ≤ max_exponent = rw (signed_abs (is_negative s) n) (omega arith) in
    small_cond (is_mark b) (written_of s) (small_cond (is_digits (unsigned s)) (Some (signed_of (is_negative s) n)) few)

pub exponent_small : (s : List ℕ) (z : ℤ) → exponent_of s ≡ Some z → unsigned_abs z ≤ max_exponent
exponent_small s z h = subst Small h (small_exponent s)

-- ---- finite decimals

empty-is : (s : List ℕ) → length s ≡ 0 → is_empty s ≡ true
empty-is [] h = refl
empty-is (b ∷ s) h = absurd (omega arith)

empty-not : (s : List ℕ) → (length s ≡ 0 → ⊥) → is_empty s ≡ false
empty-not [] h = absurd (h refl)
empty-not (b ∷ s) h = refl

-- digits are found only where the text has them
fraction_shorter : (s : List ℕ) → length (fraction_of s) ≤ length s
unfolding fraction_of
fraction_shorter [] = omega arith
fraction_shorter (b ∷ s) = by (eqb b (code "."))
  where
    by : (t : Bool) → length (cond t (leading is_digit s) []) ≤ length (b ∷ s)
    by true = omega (arith, leading_length is_digit s)
    by false = omega arith

-- the text s, what stands behind its digits, and the digits behind the point there
module _ (s rest fraction : List ℕ) (r : rest ≡ trim_start is_digit s) (f : fraction ≡ fraction_of rest) where
  pub fraction_few : length s ≤ size → length fraction ≤ size
  fraction_few h = omega (arith, ap length r, ap length f, start_shorter is_digit s, fraction_shorter rest)

  fits : length s ≤ size → length (leading is_digit s ++ fraction) ≤ size
  fits h =
      rw (length-append (leading is_digit s) fraction)
      (omega (arith, ap length r, ap length f, leading_length is_digit s, fraction_shorter rest))

  all : leading is_digit s ++ fraction ≡ digits_of s
  all = ap (λ (d : List ℕ). leading is_digit s ++ d) (f ∙ ap fraction_of r)

  module _ (minus : Bool) (other : Number) where
    -- no exponent follows the digits
    pub finite-none : exponent_of (after_fraction rest) ≡ None → other ≡ finite_of minus s other
    unfolding finite_of
    finite-none x = rw (rw r at x)

    -- an exponent, and the digits as a text
    module _ (z : ℤ) (x : exponent_of (after_fraction rest) ≡ Some z) (h : length s ≤ size) (l : List ℕ) (front : l ≡ leading is_digit s)
        (t : Text) (held : t ≡ text_of (take size (l ++ fraction))) where
      digits : bytes_of t ≡ digits_of s
      digits =
          ap bytes_of held
          ∙ bytes-text (take size (l ++ fraction))
          ∙ ap (λ (d : List ℕ). take size (d ++ fraction)) front
          ∙ take_all size (leading is_digit s ++ fraction) (fits h)
          ∙ all

      pub finite-empty : length (bytes_of t) ≡ 0 → other ≡ finite_of minus s other
      unfolding finite_of
      finite-empty none = rw (rw r at x, empty-is (digits_of s) (rw digits at none))

      pub finite-some : (length (bytes_of t) ≡ 0 → ⊥) → scaled minus (bytes_of t) (length fraction) z ≡ finite_of minus s other
      unfolding finite_of
      finite-some some =
          rw (rw r at x, empty-not (digits_of s) (rw digits at some))
          (ap₂ (λ (d e : List ℕ). scaled minus d (length e) z) digits (f ∙ ap fraction_of r))

-- ---- decimals: what stands behind the sign of w

module _ (w t : List ℕ) (sign : t ≡ unsigned w) where
  pub decimal_inf : is_word (ascii "inf") t ≡ true → decimal_number (is_negative w) Infinite [] ≡ decimal_of w
  unfolding decimal_of
  decimal_inf e = rw (rw sign at e)

  pub decimal_infinity : is_word (ascii "inf") t ≡ false → is_word (ascii "infinity") t ≡ true
      → decimal_number (is_negative w) Infinite [] ≡ decimal_of w
  unfolding decimal_of
  decimal_infinity d e = rw (rw sign at d, rw sign at e)

  module _ (no-inf : is_word (ascii "inf") t ≡ false) (no-infinity : is_word (ascii "infinity") t ≡ false) where
    pub decimal_nan : is_word (ascii "nan") t ≡ true → decimal_number (is_negative w) Nan [] ≡ decimal_of w
    unfolding decimal_of
    decimal_nan e = rw (rw sign at no-inf, rw sign at no-infinity, rw sign at e)

    pub decimal-finite : is_word (ascii "nan") t ≡ false → finite_of (is_negative w) (unsigned w) (invalid w) ≡ decimal_of w
    unfolding decimal_of
    decimal-finite e = rw (rw sign at no-inf, rw sign at no-infinity, rw sign at e)

-- ---- the tries

module _ (w : List ℕ) where
  pub first_try : (z : ℤ) → whole_of z ≡ integer_of w → whole_of z ≡ read_number w
  unfolding read_number
  first_try z e = rw (← e)

-- a text with every D made an E
pub altered : (t : Text) (s w : List ℕ) → s ≡ w → length s ≤ size → t ≡ text_of (map d_to_e (take size s)) → t ≡ text_of (map d_to_e w)
altered t s w e h held = held ∙ ap (λ (l : List ℕ). text_of (map d_to_e l)) (take_all size s h ∙ e)
