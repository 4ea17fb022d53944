-- The tries (SPECIFICATION 7): an integer, else a decimal, else a decimal with every D made an E,
-- else invalid, holding that altered text. The standard's exponents have the letter E or D (FITS Standard 4.2.4).
use Rattle.std.specs.Prelude.{ℕ, List, map}
use Rattle.text.specs.Bytes.{d_to_e}
use Rattle.numbers.specs.declared.Number.{Number}
use Rattle.numbers.specs.Answers.{◌or_else◌}
use Rattle.numbers.specs.Integers.{integer_of}
use Rattle.numbers.specs.Decimals.{decimal_of}

-- a value text as a number
unfoldable pub read_number : List ℕ → Number
read_number s = integer_of s or_else decimal_of s or_else decimal_of (map d_to_e s)
