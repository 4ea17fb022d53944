-- Decimals (SPECIFICATION 7; FITS Standard 4.2.4): digits with at most one point and perhaps an exponent, or a word.
use Prim.Native.Char.{code}
use Rattle.std.specs.Prelude.{ℕ, ◌+◌, ◌-◌, min, Bool, cond, ◌&&◌, ◌||◌, List}
use Rattle.std.specs.Prelude.{[], ◌∷◌, ◌++◌, map, eqb, leb, ℤ, pos, ◌+ℤ◌, ◌-ℤ◌, length, Option, Some, None}
use Rattle.text.specs.Bytes.{ascii, is_digit, is_zero}
use Rattle.text.specs.Same.{same}
use Rattle.text.specs.Trim.{leading, trim_start, trim_end}
use Rattle.numbers.specs.declared.Size.TheVariants.{Finite, Infinite, Nan}
use Rattle.numbers.specs.declared.Number.{Number}
use Rattle.numbers.specs.Signs.{is_negative, unsigned, signed_of}
use Rattle.numbers.specs.Digits.{is_empty, is_digits, digits_value}
use Rattle.numbers.specs.Answers.{decimal_number, invalid}

-- ---- digits with at most one point

-- the digits after a point at the front
unfoldable pub fraction_of : List ℕ → List ℕ
fraction_of [] = []
fraction_of (b ∷ s) = cond (eqb b (code ".")) (leading is_digit s) []

-- what follows that point and its digits
unfoldable pub after_fraction : List ℕ → List ℕ
after_fraction [] = []
after_fraction (b ∷ s) = cond (eqb b (code ".")) (trim_start is_digit s) (b ∷ s)

-- the digits before the point and after it
abbrev pub digits_of : List ℕ → List ℕ
digits_of s = leading is_digit s ++ fraction_of (trim_start is_digit s)

-- ---- perhaps an e or E, an optional sign and at least one digit

-- the letter of an exponent
unfoldable pub is_mark : ℕ → Bool
is_mark b = eqb b (code "e") || eqb b (code "E")

-- a written exponent beyond this counts as this
abbrev pub max_exponent : ℕ
max_exponent = 99999

-- what stands behind the letter
unfoldable pub written_of : List ℕ → Option ℤ
written_of s = cond (is_digits (unsigned s)) (Some (signed_of (is_negative s) (min (digits_value (unsigned s)) max_exponent))) None

-- what follows the digits: no text is the exponent 0
unfoldable pub exponent_of : List ℕ → Option ℤ
exponent_of [] = Some (pos 0)
exponent_of (b ∷ s) = cond (is_mark b) (written_of s) None

-- ---- the decimal record

-- zero has no digits, and power 0
abbrev pub power_of : List ℕ → ℤ → ℤ
power_of [] power = pos 0
power_of (b ∷ s) power = power

-- digits, so many of them after the point, and an exponent: significant digits have a zero at neither end
unfoldable pub scaled : Bool → List ℕ → ℕ → ℤ → Number
scaled minus digits places exponent =
    let rest = trim_start is_zero digits in
    let significant = trim_end is_zero rest in
    let zeros = length rest - length significant in
    decimal_number minus (Finite (power_of significant (exponent -ℤ pos places +ℤ pos zeros))) significant

-- at least one digit, and an exponent that is none or well written; or else another answer
abbrev pub with_exponent : Option ℤ → Bool → List ℕ → ℕ → Number → Number
with_exponent None minus digits places other = other
with_exponent (Some e) minus digits places other = cond (is_empty digits) other (scaled minus digits places e)

-- a text without its sign as a finite decimal_number, or else another answer
unfoldable pub finite_of : Bool → List ℕ → Number → Number
finite_of minus s other =
    let rest = trim_start is_digit s in
    with_exponent (exponent_of (after_fraction rest)) minus (digits_of s) (length (fraction_of rest)) other

-- ---- or inf, infinity, nan in any letter case after the sign

-- a capital letter as a small one
unfoldable pub lowered : ℕ → ℕ
lowered b = cond (leb (code "A") b && leb b (code "Z")) (b + (code "a" - code "A")) b

-- a text is a word in any letter case
unfoldable pub is_word : List ℕ → List ℕ → Bool
is_word word s = same (map lowered s) word

-- a text as a decimal
unfoldable pub decimal_of : List ℕ → Number
decimal_of s =
    let minus = is_negative s in
    let t = unsigned s in
    cond (is_word (ascii "inf") t || is_word (ascii "infinity") t) (decimal_number minus Infinite [])
    (cond (is_word (ascii "nan") t) (decimal_number minus Nan [])
    (finite_of minus t (invalid s)))
