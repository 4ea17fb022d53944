-- Numbers as text: integers, and finite decimals by their digits and a power of ten.
use Prim.Native.Char.{code}
use Rattle.std.specs.Prelude.{ℕ, zero, suc, ◌+◌, ◌/◌, ◌%◌, Bool, true, false, cond, List, [], ◌∷◌, ◌++◌, ltb, ℤ, pos, negsuc}
use Rattle.text.specs.Bytes.{ascii}

-- the character of a digit
abbrev pub digit_byte : ℕ → ℕ
digit_byte n = code "0" + n

-- the digits of n, the least last, before what stands behind them; a number has fewer digits than one more than itself
unfoldable pub digits_before : ℕ → ℕ → List ℕ → List ℕ
digits_before zero n behind = behind
digits_before (suc more) n behind =
    cond (ltb n 10) (digit_byte n ∷ behind) (digits_before more (n / 10) (digit_byte (n % 10) ∷ behind))

-- no zero stands in front, but 0 is "0"
unfoldable pub decimal_digits : ℕ → List ℕ
decimal_digits n = digits_before (suc n) n []

-- the sign of a number that is negative or not
abbrev pub minus_of : Bool → List ℕ
minus_of true = ascii "-"
minus_of false = []

-- an integer
abbrev pub signed_digits : ℤ → List ℕ
signed_digits (pos n) = decimal_digits n
signed_digits (negsuc n) = minus_of true ++ decimal_digits (suc n)

-- what stands behind the digits of a decimal: the letter of its power of ten, and the power
abbrev pub power_text : ℕ → ℤ → List ℕ
power_text letter power = letter ∷ signed_digits power

-- a finite decimal without its sign; zero, which has no digits, is 0, the letter, 0
abbrev pub finite_text : ℕ → List ℕ → ℤ → List ℕ
finite_text letter [] power = ascii "0" ++ letter ∷ ascii "0"
finite_text letter (d ∷ digits) power = (d ∷ digits) ++ power_text letter power
