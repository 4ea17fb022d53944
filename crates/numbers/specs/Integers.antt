-- Integers (SPECIFICATION 7; FITS Standard 4.2.3): an optional sign and digits, fitting 64 signed bits.
use Rattle.std.specs.Prelude.{ℕ, cond, ◌&&◌, List}
use Rattle.numbers.specs.declared.Number.{Number}
use Rattle.numbers.specs.Signs.{is_negative, unsigned, signed_of, fits64}
use Rattle.numbers.specs.Digits.{is_digits, digits_value}
use Rattle.numbers.specs.Answers.{whole_of, invalid}

-- a text as an integer
unfoldable pub integer_of : List ℕ → Number
integer_of s =
    let minus = is_negative s in
    let digits = unsigned s in
    cond (is_digits digits && fits64 minus (digits_value digits)) (whole_of (signed_of minus (digits_value digits))) (invalid s)
