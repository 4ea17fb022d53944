-- Strings (SPECIFICATION 6; the standard, 4.2.1.1): an empty string differs from one of spaces alone.
use Rattle.std.specs.Prelude.{ℕ, Bool, cond, List, [], ◌∷◌, eqb, Result, Ok, Err}
use Prim.Native.Char.{code}
use Rattle.text.specs.declared.Text.{Text}
use Rattle.refusal.specs.declared.Fault.{Fault}
use Rattle.refusal.specs.declared.Refusal.TheVariants as R
use Rattle.refusal.specs.Numbers.{fault_of}
use Rattle.text.specs.Bytes.{is_space}
use Rattle.text.specs.Trim.{trim_end}
use Rattle.text.specs.Ends.{stem, ends_with}
use Rattle.text.specs.Text.{text_of}

abbrev pub is_quote : ℕ → Bool
is_quote b = eqb b (code "'")

-- a text, or one space where it is empty
abbrev pub or_space : List ℕ → List ℕ
or_space [] = code " " ∷ []
or_space (b ∷ s) = b ∷ s

-- what stands within the quotes, as the string's text
unfoldable pub settled_of : List ℕ → List ℕ
settled_of [] = []
settled_of (b ∷ s) = or_space (trim_end is_space (b ∷ s))

abbrev pub reads : List ℕ → Result Text Fault
reads s = Ok (text_of (settled_of s))

-- after an opening quote, and without one
unfoldable pub opened : List ℕ → Result Text Fault
opened s = cond (ends_with (code "'") s) (reads (stem s)) (Err (fault_of R.StringNotClosed))

unfoldable pub unopened : List ℕ → Result Text Fault
unopened s = cond (ends_with (code "'") s) (Err (fault_of R.StringNotOpened)) (reads s)

unfoldable pub string_of : List ℕ → Result Text Fault
string_of [] = reads []
string_of (b ∷ s) = cond (is_quote b) (opened s) (unopened (b ∷ s))
