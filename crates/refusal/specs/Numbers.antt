-- The numbers of the refusals (SPECIFICATION 2.1).
use Rattle.std.specs.Prelude.{ℕ, None, Option, Some, Result, Ok, Err}
use Rattle.refusal.specs.declared.Refusal.{Refusal}
use Rattle.refusal.specs.declared.Refusal.TheVariants.{HighByte, OddByte, StringNotClosed, StringNotOpened, Complex, NoEquals}
use Rattle.refusal.specs.declared.Refusal.TheVariants.{NoName, ExtensionNotQuoted, HeaderLength, NoEnd, NameNotFound}
use Rattle.refusal.specs.declared.Refusal.TheVariants.{BufferShort, Limits, PixelCount, TileEnds, FsAboveTop, BadCursor}
use Rattle.refusal.specs.declared.Refusal.TheVariants.{UnwritableName, UnwritableValue, BlockShort}
use Rattle.refusal.specs.declared.Fault.{Fault}

-- the number of each case; none has 11
abbrev pub number_of : Refusal → ℕ
number_of HighByte = 1
number_of OddByte = 2
number_of StringNotClosed = 3
number_of StringNotOpened = 4
number_of Complex = 5
number_of NoEquals = 6
number_of NoName = 7
number_of ExtensionNotQuoted = 8
number_of HeaderLength = 9
number_of NoEnd = 10
number_of NameNotFound = 12
number_of BufferShort = 13
number_of Limits = 14
number_of PixelCount = 15
number_of TileEnds = 16
number_of FsAboveTop = 17
number_of BadCursor = 18
number_of UnwritableName = 19
number_of UnwritableValue = 20
number_of BlockShort = 21

-- the fault that carries a refusal: alone, and with the byte of the card at which it is met
abbrev pub fault_of : Refusal → Fault
fault_of why = record { why = why; column = None }

abbrev pub fault_at : Refusal → ℕ → Fault
fault_at why byte = record { why = why; column = Some byte }

-- a fault with the column that its refusal has by f, and a fault without its column
abbrev pub placed : (Refusal → Option ℕ) → Fault → Fault
placed f fault = record { why = fault.why; column = f fault.why }

abbrev pub unplaced : Fault → Fault
unplaced fault = fault_of fault.why

-- an answer with the column beside its refusal, if it is one
abbrev pub answer_placed : {A : Type 0} → (Refusal → Option ℕ) → Result A Fault → Result A Fault
answer_placed f (Ok a) = Ok a
answer_placed f (Err fault) = Err (placed f fault)
