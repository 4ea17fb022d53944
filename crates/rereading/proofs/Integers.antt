-- Written integers are read as themselves.
use Prim.Native.Nat.{ℕ, suc}
use mathlib.Core.Path.{◌≡◌, refl, sym, ap, subst, ◌∙◌}
use mathlib.Core.Bool.{Bool, true, false}
use mathlib.Core.List.{List, ◌++◌}
use lib.IntN.{ℤ, pos, negsuc}
use Rattle.numbers.specs.Signs.{is_negative, unsigned, signed_of, fits64}
use Rattle.numbers.specs.Digits.{is_digits, digits_value}
use Rattle.numbers.specs.Answers.{whole_of}
use Rattle.numbers.specs.Integers.{integer_of}
use Rattle.numbers.specs.Numbers.{read_number}
use Rattle.numerals.specs.Numerals.{decimal_digits, minus_of, signed_digits}
use Rattle.numerals.proofs.Worths.{digits_write}
use Rattle.writing.specs.Rules.{is_long}
use Rattle.rereading.proofs.Plain.{Figures}
use Rattle.rereading.proofs.Digits.{Digital, digital_written, digital_read, digital_names, unsigned-front, negative_front}
use Rattle.rereading.proofs.Digits.{figures_front, digital}

-- an integer's sign and size
abbrev is_minus : ℤ → Bool
is_minus (pos n) = false
is_minus (negsuc n) = true

abbrev pub size_of : ℤ → ℕ
size_of (pos n) = n
size_of (negsuc n) = suc n

-- ---- digits behind a minus or none
unsigned-digits : {s : List ℕ} → Digital s → (minus : Bool) → unsigned (minus_of minus ++ s) ≡ s
unsigned-digits (digital {b} {s} h e) minus = unsigned-front b s h minus

negative_digits : {s : List ℕ} → Digital s → (minus : Bool) → is_negative (minus_of minus ++ s) ≡ minus
negative_digits (digital {b} {s} h e) minus = negative_front b s h minus

figures_digits : {s : List ℕ} → Digital s → (minus : Bool) → Figures (minus_of minus ++ s)
figures_digits (digital {b} {s} h e) minus = figures_front b s h minus (digital_names (digital h e))

-- ---- an integer's text: its sign and its digits
signed_shape : (z : ℤ) → signed_digits z ≡ minus_of (is_minus z) ++ decimal_digits (size_of z)
signed_shape (pos n) = refl
signed_shape (negsuc n) = refl

pub integer_figures : (z : ℤ) → Figures (signed_digits z)
integer_figures z = subst Figures (sym (signed_shape z)) (figures_digits (digital_written (size_of z)) (is_minus z))

-- what stands behind the sign is read as digits, which write the size
pub record SignedRead (s : List ℕ) (z : ℤ) : Type 0 where
  pub negative : is_negative s ≡ is_minus z
  pub digits : is_digits (unsigned s) ≡ true
  pub value : digits_value (unsigned s) ≡ size_of z

pub signed_read : (z : ℤ) → SignedRead (signed_digits z) z
signed_read z =
    let d = digital_written (size_of z) in
    let behind : unsigned (signed_digits z) ≡ decimal_digits (size_of z) = ap unsigned (signed_shape z) ∙ unsigned-digits d (is_minus z) in
    record {
      negative = ap is_negative (signed_shape z) ∙ negative_digits d (is_minus z);
      digits = ap is_digits behind ∙ digital_read d;
      value = ap digits_value behind ∙ digits_write (size_of z);
    }

long-fits : (z : ℤ) → is_long z ≡ true → fits64 (is_minus z) (size_of z) ≡ true
long-fits (pos n) f = f
long-fits (negsuc n) f = f

pub signed_back : (z : ℤ) → signed_of (is_minus z) (size_of z) ≡ z
signed_back (pos n) = refl
signed_back (negsuc n) = refl

pub integer-number : (z : ℤ) → is_long z ≡ true → read_number (signed_digits z) ≡ whole_of z
unfolding read_number integer_of
integer-number z f =
    let r = signed_read z in
    rw (r.negative, r.digits, r.value, long-fits z f, signed_back z)
