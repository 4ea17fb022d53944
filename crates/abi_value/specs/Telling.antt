-- What the C boundary says of a value, a unit's end, a wrong length and a column.
use Rattle.std.specs.Prelude.{ℕ, ◌≡◌, Bool, false, cond, ℤ, pos, None, Option, Some}
use Rattle.laws.specs.Lending.{Lent}
use Rattle.numbers.specs.declared.Size.{Size}
use Rattle.numbers.specs.declared.Size.TheVariants.{Finite, Infinite, Nan}
use Rattle.numbers.specs.declared.Value.{Value}
use Rattle.numbers.specs.declared.Value.TheVariants.{Integer, Float, Logical, String, Undefined, Invalid}
use Rattle.abi_value.specs.declared.Told.{Told}

-- a kind, whether it is true or negative, and its integer or power of ten
abbrev pub told : ℕ → Bool → ℤ → Told
told kind flag number = record { kind = kind; flag = flag; number = number }

abbrev pub size_told : Bool → Size → Told
size_told minus (Finite power) = told 2 minus power
size_told minus Infinite = told 3 minus (pos 0)
size_told minus Nan = told 4 minus (pos 0)

abbrev pub value_told : Value → Told
value_told (Integer z) = told 1 false z
value_told (Float minus size) = size_told minus size
value_told (Logical t) = told 5 t (pos 0)
value_told String = told 6 false (pos 0)
value_told Undefined = told 7 false (pos 0)
value_told Invalid = told 8 false (pos 0)

-- 1 for true and 0 for false
abbrev pub bit_of : Bool → ℕ
bit_of t = cond t 1 0

-- the answer to a slice of another length than the one asked for: no refusal has this number
abbrev pub wrong_length : ℕ
wrong_length = 255

-- the end of a unit, which starts at byte 1; 0 where there is none
abbrev pub unit_end : Option (ℕ × ℕ) → ℕ
unit_end (Some (from, to)) = to
unit_end None = 0

-- an answer, and the lent start after it
pub record UnitOutcome : Type 0 where
  pub answer : ℕ
  pub start : ℕ

-- the end of a unit, and where it starts; 0 where there is none, and the start stays
abbrev pub unit_told : Option (ℕ × ℕ) → ℕ → UnitOutcome
unit_told (Some (from, to)) start = record { answer = to; start = from }
unit_told None start = record { answer = 0; start = start }

-- what reading a unit past a space leaves, where x is its place and r the answer
abbrev pub UnitLeft : Option (ℕ × ℕ) → Lent ℕ → ℕ → Type 0
UnitLeft x start r = ◌≡◌ {A = UnitOutcome} (record { answer = r; start = start.left }) (unit_told x start.was)

-- what a lent column holds behind a refusal: the byte of the refused card; where the refusal has none the column stays
abbrev pub column_after : Option ℕ → ℕ → ℕ
column_after (Some byte) was = byte
column_after None was = was
