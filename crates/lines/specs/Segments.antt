-- The segments that an entry's line is put together from, behind its name: a head, a middle and a tail. The line feed is last.
use Prim.Native.Char.{code}
use Rattle.std.specs.Prelude.{ℕ, ◌≤◌, ◌≡◌, Bool, true, false, cond, List, [], length}
use Rattle.text.specs.declared.Text.{Text}
use Rattle.text.specs.Bytes.{ascii}
use Rattle.text.specs.Text.{text_of}
use Rattle.numbers.specs.declared.Size.{Size}
use Rattle.numbers.specs.declared.Size.TheVariants.{Finite, Infinite, Nan}
use Rattle.numbers.specs.declared.Value.{Value}
use Rattle.numbers.specs.declared.Value.TheVariants.{Integer, Float, Logical, String, Undefined, Invalid}
use Rattle.numerals.specs.Numerals.{signed_digits, power_text}
use Rattle.lines.specs.Lines.{logical_of}

-- the letter, the space and the sign; `empty` says that there is no text
abbrev pub line_head : Value → Bool → List ℕ
line_head (Integer z) empty = ascii " I "
line_head (Float minus size) empty = cond minus (ascii " D -") (ascii " D ")
line_head (Logical b) empty = ascii " L "
line_head String empty = cond empty (ascii " S") (ascii " S ")
line_head Undefined empty = ascii " U"
line_head Invalid empty = cond empty (ascii " X") (ascii " X ")

-- the middle, whose length nothing here bounds: the digits of a decimal, a text, or nothing
abbrev pub middle_of : Value → List ℕ → List ℕ → List ℕ
middle_of (Integer z) digits text = []
middle_of (Float minus (Finite power)) digits text = digits
middle_of (Float minus Infinite) digits text = []
middle_of (Float minus Nan) digits text = []
middle_of (Logical b) digits text = []
middle_of String digits text = text
middle_of Undefined digits text = []
middle_of Invalid digits text = text

-- what stands behind the digits of a float; `empty` says that it has none
abbrev pub size_tail : Size → Bool → List ℕ
size_tail (Finite power) true = ascii "0e0"
size_tail (Finite power) false = power_text (code "e") power
size_tail Infinite empty = ascii "inf"
size_tail Nan empty = ascii "nan"

-- what stands behind the middle
abbrev pub reading_tail : Value → Bool → List ℕ
reading_tail (Integer z) empty = signed_digits z
reading_tail (Float minus size) empty = size_tail size empty
reading_tail (Logical b) empty = logical_of b
reading_tail String empty = []
reading_tail Undefined empty = []
reading_tail Invalid empty = []

-- the longest tail is a power: its letter, a minus and 20 digits
abbrev pub tail_room : ℕ
tail_room = 22

-- a tail as a text, in which there is room for the number of cards behind it
pub record IsTail (t : Text) (tail : List ℕ) : Type 0 where
  pub made : t ≡ text_of tail
  pub short : length tail ≤ tail_room

-- three texts of 80 bytes and the line feed
abbrev pub segment_room : ℕ
segment_room = 241
