-- The lines that the program `cards` prints (SPECIFICATION 13).
use Prim.Native.Char.{code}
use Rattle.std.specs.Prelude.{ℕ, ◌≤◌, ◌≡◌, Bool, cond, List, [], ◌∷◌, ◌++◌, ltb, leb, length, None, Option, Some}
use Rattle.std.proofs.lemmas.List.Edits.{sets}
use Rattle.refusal.specs.declared.Fault.{Fault}
use Rattle.refusal.specs.Numbers.{number_of}
use Rattle.text.specs.Bytes.{ascii, line_feed}
use Rattle.numbers.specs.declared.Size.{Size}
use Rattle.numbers.specs.declared.Size.TheVariants.{Finite, Infinite, Nan}
use Rattle.numbers.specs.declared.Value.{Value}
use Rattle.numbers.specs.declared.Value.TheVariants.{Integer, Float, Logical, String, Undefined, Invalid}
use Rattle.numerals.specs.Numerals.{decimal_digits, minus_of, signed_digits, finite_text}

-- ---- an entry: name, kind, reading, and how many cards bear the name, with single spaces

abbrev pub kind_letter : Value → ℕ
kind_letter (Integer z) = code "I"
kind_letter (Float minus size) = code "D"
kind_letter (Logical b) = code "L"
kind_letter String = code "S"
kind_letter Undefined = code "U"
kind_letter Invalid = code "X"

-- a float without its sign; a finite one has its power behind the letter e
abbrev pub size_of : Size → List ℕ → List ℕ
size_of (Finite power) digits = finite_text (code "e") digits power
size_of Infinite digits = ascii "inf"
size_of Nan digits = ascii "nan"

abbrev pub logical_of : Bool → List ℕ
logical_of b = cond b (ascii "T") (ascii "F")

-- the reading of a value, with a decimal's digits and the text of a string or an invalid value
abbrev pub reading_of : Value → List ℕ → List ℕ → List ℕ
reading_of (Integer z) digits text = signed_digits z
reading_of (Float minus size) digits text = minus_of minus ++ size_of size digits
reading_of (Logical b) digits text = logical_of b
reading_of String digits text = text
reading_of Undefined digits text = []
reading_of Invalid digits text = text

-- where there is nothing to read, the line ends at the letter
abbrev pub spaced_reading : List ℕ → List ℕ
spaced_reading [] = []
spaced_reading (b ∷ s) = ascii " " ++ b ∷ s

-- x and the number, where it is above 1
abbrev pub times_part : ℕ → List ℕ
times_part n = cond (ltb 1 n) (ascii " x" ++ decimal_digits n) []

unfoldable pub entry_line : List ℕ → Value → List ℕ → List ℕ → ℕ → List ℕ
entry_line name v digits text n =
    name ++ ascii " " ++ kind_letter v ∷ spaced_reading (reading_of v digits text) ++ times_part n ++ line_feed ∷ []

-- the line without the number, which is that of a name that one card bears
unfoldable pub plain_line : List ℕ → Value → List ℕ → List ℕ → List ℕ
plain_line name v digits text = name ++ ascii " " ++ kind_letter v ∷ spaced_reading (reading_of v digits text) ++ line_feed ∷ []

abbrev pub PlainOnce : Type 0
PlainOnce =
    (name : List ℕ) (v : Value) (digits text : List ℕ) (n : ℕ) → n ≤ 1
    → entry_line name v digits text n ≡ plain_line name v digits text

-- ---- the count, and a refusal

unfoldable pub count_line : ℕ → List ℕ
count_line n = decimal_digits n ++ ascii " keywords" ++ line_feed ∷ []

-- the byte of the card, behind a colon, where the refusal has a column
abbrev pub column_part : Option ℕ → List ℕ
column_part (Some byte) = ascii ":" ++ decimal_digits byte
column_part None = []

unfoldable pub refused_line : Fault → ℕ → List ℕ
refused_line fault card =
    ascii "refused " ++ decimal_digits (number_of fault.why) ++ ascii " at " ++ decimal_digits card ++ column_part fault.column
    ++ line_feed ∷ []

-- no line is longer than its text and so many bytes
abbrev pub line_room : ℕ
line_room = 321

-- ---- a line in a lent buffer

-- an answer, and the lent buffer after it
pub record LineOutcome : Type 0 where
  pub answer : Option ℕ
  pub content : List ℕ

abbrev pub line_outcome : Option ℕ → List ℕ → LineOutcome
line_outcome answer content = record { answer = answer; content = content }

-- the line at the front where it fits, and bytes beyond it stay; otherwise the buffer is untouched
unfoldable pub laid : List ℕ → List ℕ → LineOutcome
laid line out =
    cond (leb (length line) (length out)) (line_outcome (Some (length line)) (sets out 0 line)) (line_outcome None out)
