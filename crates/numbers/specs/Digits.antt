-- Digits (SPECIFICATION 7; FITS Standard 4.2.3), and the number that they write.
use Prim.Native.Char.{code}
use Rattle.std.specs.Prelude.{ℕ, ◌+◌, ◌*◌, ◌-◌, Bool, true, false, List, [], ◌∷◌}
use Rattle.text.specs.Bytes.{is_digit}
use Rattle.text.specs.Trim.{trim_start}

-- no bytes
abbrev pub is_empty : List ℕ → Bool
is_empty [] = true
is_empty (b ∷ s) = false

-- one digit or more, and nothing else
unfoldable pub is_digits : List ℕ → Bool
is_digits [] = false
is_digits (b ∷ s) = is_empty (trim_start is_digit (b ∷ s))

-- what a digit counts
abbrev pub digit_of : ℕ → ℕ
digit_of b = b - code "0"

-- the number that digits write behind those of n
unfoldable pub digits_value_from : ℕ → List ℕ → ℕ
digits_value_from n [] = n
digits_value_from n (b ∷ s) = digits_value_from (n * 10 + digit_of b) s

-- the number that digits write
abbrev pub digits_value : List ℕ → ℕ
digits_value s = digits_value_from 0 s
