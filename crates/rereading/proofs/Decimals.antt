-- Written decimals are read as themselves.
use Prim.Native.Nat.{ℕ, suc, ◌-◌, ◌<◌, ◌≤◌, min}
use Prim.Native.Char.{code}
use native.Mathlib.Omega.{arith}
use mathlib.Core.Path.{◌≡◌, refl, ap, ◌∙◌}
use mathlib.Core.Bool.{Bool, true, false}
use mathlib.Core.List.{List, [], ◌∷◌, ◌++◌, append-nil}
use borrow.Author.Tests.{eqb-true, lt-leb, leb-true}
use lib.IntN.{ℤ, pos, negsuc, -ℤ-+ℤ_cancel}
use lib.ListN.{length}
use Rattle.laws.proofs.Truths.{and_both, false≢true}
use Rattle.text.specs.Bytes.{ascii, is_digit, is_zero, every}
use Rattle.text.specs.Trim.{trim_start, trim_end, trim, leading}
use Rattle.text.specs.Same.{same}
use Rattle.text.proofs.Trimming.{shorter}
use Rattle.text.proofs.Comparing.{same_eq}
use Rattle.numbers.specs.declared.Number.{Number}
use Rattle.numbers.specs.declared.Size.TheVariants.{Finite}
use Rattle.numbers.specs.Signs.{is_negative, unsigned}
use Rattle.numbers.specs.Digits.{is_empty, is_digits}
use Rattle.numbers.specs.Answers.{decimal_number, invalid}
use Rattle.numbers.specs.Integers.{integer_of}
use Rattle.numbers.specs.Decimals.{fraction_of, after_fraction, is_mark, max_exponent, written_of, exponent_of, scaled, with_exponent}
use Rattle.numbers.specs.Decimals.{finite_of, lowered, is_word, decimal_of}
use Rattle.numbers.specs.Numbers.{read_number}
use Rattle.numerals.specs.Numerals.{digits_before, decimal_digits, minus_of, signed_digits}
use Rattle.writing.specs.Written.{decimal_text}
use Rattle.writing.specs.Rules.{is_name_byte, is_significant, is_power}
use Rattle.rereading.proofs.Endings.{every_first, every_rest, every_append, every_weaker}
use Rattle.rereading.proofs.Plain.{Figures, figures_names}
use Rattle.rereading.proofs.Digits.{digit_range, digit_above, digit_name, unsigned-front, negative_front, figures_front}
use Rattle.rereading.proofs.Integers.{size_of, integer_figures, signed_read, signed_back}

-- ---- a text of digits before something else
stop_start : (p : ℕ → Bool) (s : List ℕ) (b : ℕ) (t : List ℕ) → every p s ≡ true → p b ≡ false
    → trim_start p (s ++ b ∷ t) ≡ b ∷ t
unfolding trim_start
stop_start p [] b t e d = rw d
stop_start p (a ∷ s) b t e d = rw (every_first p a s e, stop_start p s b t (every_rest p a s e) d)

stop_leading : (p : ℕ → Bool) (s : List ℕ) (b : ℕ) (t : List ℕ) → every p s ≡ true → p b ≡ false
    → leading p (s ++ b ∷ t) ≡ s
unfolding leading
stop_leading p [] b t e d = rw d
stop_leading p (a ∷ s) b t e d = rw (every_first p a s e, stop_leading p s b t (every_rest p a s e) d)

-- ---- the exponent, by what it does: digits d with the power z
exponent_read : (z : ℤ) → size_of z ≤ max_exponent → (minus : Bool) (b : ℕ) (d : List ℕ) (other : Number)
    → with_exponent (written_of (signed_digits z)) minus (b ∷ d) 0 other ≡ scaled minus (b ∷ d) 0 z
unfolding written_of
exponent_read z h minus b d other =
    let r = signed_read z in
    let small : min (size_of z) max_exponent ≡ size_of z = omega arith in
    rw (r.negative, r.digits, r.value, small, signed_back z)

-- ---- digits, E and a power, as a finite decimal
module _ (b : ℕ) (d : List ℕ) (e : every is_digit (b ∷ d) ≡ true) (z : ℤ) (h : size_of z ≤ max_exponent) where
  abbrev text : List ℕ
  text = (b ∷ d) ++ code "E" ∷ signed_digits z

  mark_is : is_digit (code "E") ≡ false
  unfolding is_digit
  mark_is = refl

  behind-digits : trim_start is_digit text ≡ code "E" ∷ signed_digits z
  behind-digits = stop_start is_digit (b ∷ d) (code "E") (signed_digits z) e mark_is

  no_digits : is_digits text ≡ false
  unfolding is_digits
  no_digits = ap is_empty behind-digits

  no_word : (a : ℕ) (w : List ℕ) → code "9" < a → is_word (a ∷ w) text ≡ false
  unfolding is_word same lowered
  no_word a w above =
      let first = every_first is_digit b d e in
      rw (lt-leb (code "A") b (omega (arith, digit_range b first)), digit_above b a first above)

  finite-read : (minus : Bool) (other : Number) → finite_of minus text other ≡ scaled minus (b ∷ d) 0 z
  unfolding finite_of after_fraction fraction_of exponent_of is_mark
  finite-read minus other =
      rw (behind-digits, stop_leading is_digit (b ∷ d) (code "E") (signed_digits z) e mark_is, append-nil)
      (exponent_read z h minus b d other)

  decimal-unsigned : (s : List ℕ) → unsigned s ≡ text → decimal_of s ≡ scaled (is_negative s) (b ∷ d) 0 z
  unfolding decimal_of
  decimal-unsigned s u =
      rw (
        u,
        no_word (code "i") (ascii "nf") (omega arith),
        no_word (code "i") (ascii "nfinity") (omega arith),
        no_word (code "n") (ascii "an") (omega arith),
        finite-read,
      )

  no_integer : (s : List ℕ) → unsigned s ≡ text → integer_of s ≡ invalid s
  unfolding integer_of
  no_integer s u = rw (u, no_digits)

  -- with its sign
  number_read : (minus : Bool) (digits : List ℕ) → scaled minus (b ∷ d) 0 z ≡ decimal_number minus (Finite z) digits
      → read_number (minus_of minus ++ text) ≡ decimal_number minus (Finite z) digits
  unfolding read_number
  number_read minus digits is =
      let s = minus_of minus ++ text in
      let first = every_first is_digit b d e in
      let behind : unsigned s ≡ text = unsigned-front b (d ++ code "E" ∷ signed_digits z) first minus in
      let sign : is_negative s ≡ minus = negative_front b (d ++ code "E" ∷ signed_digits z) first minus in
      rw (no_integer s behind, decimal-unsigned s behind ∙ ap (λ (t : Bool). scaled t (b ∷ d) 0 z) sign ∙ is)

  text_figures : (minus : Bool) → Figures (minus_of minus ++ text)
  unfolding every is_name_byte is_digit
  text_figures minus =
      figures_front b (d ++ code "E" ∷ signed_digits z) (every_first is_digit b d e) minus
      (every_append is_name_byte (b ∷ d) (code "E" ∷ signed_digits z) (every_weaker is_digit is_name_byte digit_name (b ∷ d) e)
      (figures_names (integer_figures z)))

-- ---- the significant digits, and the power

-- where trimming leaves all, no zero stands in front, and none goes at the end
untrimmed : (b : ℕ) (d : List ℕ) → trim is_zero (b ∷ d) ≡ b ∷ d
    → (is_zero b ≡ false) × (trim_end is_zero (b ∷ d) ≡ b ∷ d)
unfolding trim trim_start
untrimmed b d e = go (is_zero b) refl
  where
    go : (u : Bool) → is_zero b ≡ u → (is_zero b ≡ false) × (trim_end is_zero (b ∷ d) ≡ b ∷ d)
    go true x =
        let cut : trim is_zero d ≡ b ∷ d = rw x at e in
        let long : length (trim is_zero d) ≡ suc (length d) = ap length cut in
        absurd (omega (arith, shorter is_zero d))
    go false x = (x, rw x at e)

scaled-some : (minus : Bool) (b : ℕ) (d : List ℕ) (z : ℤ) → trim is_zero (b ∷ d) ≡ b ∷ d
    → scaled minus (b ∷ d) 0 z ≡ decimal_number minus (Finite z) (b ∷ d)
unfolding scaled trim_start
scaled-some minus b d z e =
    let n : suc (length d) - suc (length d) ≡ 0 = omega arith in
    let (first, kept) = untrimmed b d e in
    rw (first, kept, n, -ℤ-+ℤ_cancel z (pos 0))

scaled-none : (minus : Bool) → scaled minus (code "0" ∷ []) 0 (pos 0) ≡ decimal_number minus (Finite (pos 0)) []
unfolding scaled trim_start trim_end is_zero
scaled-none minus = refl

significant_parts : (d : List ℕ) → is_significant d ≡ true → (every is_digit d ≡ true) × (trim is_zero d ≡ d)
unfolding is_significant
significant_parts d e =
    let both = and_both (every is_digit d) (same (trim is_zero d) d) e in
    (both.0, same_eq (trim is_zero d) d both.1)

power_fits : (b : ℕ) (d : List ℕ) (z : ℤ) → is_power (b ∷ d) z ≡ true → size_of z ≤ max_exponent
power_fits b d (pos n) e = leb-true n max_exponent e
power_fits b d (negsuc n) e = leb-true (suc n) max_exponent e

zero_digit : every is_digit (code "0" ∷ []) ≡ true
unfolding every is_digit
zero_digit = refl

-- a decimal's text is read as that decimal
pub decimal_number_lem : (minus : Bool) (d : List ℕ) (z : ℤ) → is_significant d ≡ true → is_power d z ≡ true
    → read_number (decimal_text minus d z) ≡ decimal_number minus (Finite z) d
unfolding decimal_digits digits_before
decimal_number_lem minus [] (pos n) e p =
    let is : n ≡ 0 = eqb-true n 0 p in
    rw is (number_read (code "0") [] zero_digit (pos 0) (omega arith) minus [] (scaled-none minus))
decimal_number_lem minus [] (negsuc n) e p = absurd (false≢true p)
decimal_number_lem minus (b ∷ d) z e p =
    let (digits, kept) = significant_parts (b ∷ d) e in
    number_read b d digits z (power_fits b d z p) minus (b ∷ d) (scaled-some minus b d z kept)

pub decimal_figures : (minus : Bool) (d : List ℕ) (z : ℤ) → is_significant d ≡ true → is_power d z ≡ true
    → Figures (decimal_text minus d z)
unfolding decimal_digits digits_before
decimal_figures minus [] (pos n) e p = text_figures (code "0") [] zero_digit (pos 0) (omega arith) minus
decimal_figures minus [] (negsuc n) e p = absurd (false≢true p)
decimal_figures minus (b ∷ d) z e p = text_figures b d (significant_parts (b ∷ d) e).0 z (power_fits b d z p) minus
