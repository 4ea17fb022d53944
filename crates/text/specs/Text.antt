-- A text in an array: its bytes, then zeros. So a text has one array, and `text_of` of two texts are equal only where the texts are.
use Rattle.std.specs.Prelude.{ℕ, ◌-◌, List, ◌++◌, length, replicate, take}
use Rattle.text.specs.declared.Text.{Text}

-- the size of the arrays: a card's
abbrev pub size : ℕ
size = 80

-- numbers, then a mark in every place up to n
unfoldable pub filled : ℕ → ℕ → List ℕ → List ℕ
filled mark n v = v ++ replicate (n - length v) mark

-- bytes, then zeros up to n
abbrev pub padded : ℕ → List ℕ → List ℕ
padded n v = filled 0 n v

abbrev pub text_of : List ℕ → Text
text_of v = record { bytes = padded size v; len = length v }

-- the bytes that a text holds: a length beyond the array takes all of it
abbrev pub bytes_of : Text → List ℕ
bytes_of t = take t.len t.bytes
