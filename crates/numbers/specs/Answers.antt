-- What reading a number answers (SPECIFICATION 7).
use Rattle.std.specs.Prelude.{ℕ, Bool, true, false, cond, List, [], ℤ}
use Rattle.text.specs.Text.{text_of}
use Rattle.numbers.specs.declared.Size.{Size}
use Rattle.numbers.specs.declared.Value.{Value}
use Rattle.numbers.specs.declared.Value.TheVariants.{Integer, Float, Logical, String, Undefined, Invalid}
use Rattle.numbers.specs.declared.Number.{Number}

-- an integer
abbrev pub whole_of : ℤ → Number
whole_of z = record { value = Integer z; text = text_of [] }

-- the decimal record: its sign, its size with the power of ten, and its significant digits
abbrev pub decimal_number : Bool → Size → List ℕ → Number
decimal_number minus size digits = record { value = Float minus size; text = text_of digits }

-- not a number, holding the text that was tried
abbrev pub invalid : List ℕ → Number
invalid s = record { value = Invalid; text = text_of s }

-- anything but invalid
abbrev pub is_read : Value → Bool
is_read (Integer z) = true
is_read (Float minus size) = true
is_read (Logical b) = true
is_read String = true
is_read Undefined = true
is_read Invalid = false

-- the first try, or the second where the first read nothing
infixr 20 ◌or_else◌
abbrev pub ◌or_else◌ : Number → Number → Number
a or_else b = cond (is_read a.value) a b
