-- The six kinds of value (SPECIFICATION 5; the standard, 4.2).
use Rattle.std.specs.Prelude.{ℕ, Bool, true, false, cond, ◌||◌, List, [], ◌∷◌, eqb, Err, Ok, Option, None, Result}
use Prim.Native.Char.{code}
use Rattle.refusal.specs.declared.Fault.{Fault}
use Rattle.refusal.specs.declared.Refusal.TheVariants as R
use Rattle.refusal.specs.Numbers.{fault_of, answer_placed}
use Rattle.text.specs.declared.Text.{Text}
use Rattle.text.specs.Bytes.{is_digit}
use Rattle.text.specs.Text.{text_of, bytes_of}
use Rattle.splitting.specs.declared.Halves.{Halves}
use Rattle.splitting.specs.Split.{split_of}
use Rattle.splitting.specs.Strings.{string_of}
use Rattle.splitting.specs.Columns.{text_column}
use Rattle.numbers.specs.declared.Value.{Value}
use Rattle.numbers.specs.declared.Value.TheVariants.{Integer, Float, Logical, String, Undefined, Invalid}
use Rattle.numbers.specs.Numbers.{read_number}
use Rattle.value.specs.declared.ValueRead.{ValueRead}
use Rattle.value.specs.declared.Start.{Start}
use Rattle.value.specs.declared.Start.TheVariants.{Quote, Truth, Number, Complex, Else}

-- a sign, a point or a digit
unfoldable pub starts_number : ℕ → Bool
starts_number b = eqb b (code "+") || (eqb b (code "-") || (eqb b (code ".") || is_digit b))

-- what the first byte says: a quote, T, F, ( or the start of a number
unfoldable pub start_of : ℕ → Start
start_of b =
    cond (eqb b (code "'")) Quote
    (cond (eqb b (code "T")) (Truth true)
    (cond (eqb b (code "F")) (Truth false)
    (cond (eqb b (code "(")) Complex
    (cond (starts_number b) Number
    Else))))

-- undefined and invalid have no comment
abbrev pub keeps_comment : Value → Bool
keeps_comment (Integer z) = true
keeps_comment (Float minus size) = true
keeps_comment (Logical t) = true
keeps_comment String = true
keeps_comment Undefined = false
keeps_comment Invalid = false

-- a value with its text, and its comment where it keeps one
abbrev pub value_as : Value → Text → Option Text → ValueRead
value_as v text comment = record { value = v; text = text; comment = cond (keeps_comment v) comment None }

-- a value text that begins with a quote
abbrev pub by_quotes : Result Text Fault → Option Text → Result ValueRead Fault
by_quotes (Ok s) comment = Ok (value_as String s comment)
by_quotes (Err fault) comment = Err fault

unfoldable pub of_string : Text → Option Text → Result ValueRead Fault
of_string v comment = by_quotes (string_of (bytes_of v)) comment

-- a value text that begins as a number does
unfoldable pub of_number : Text → Option Text → ValueRead
of_number v comment = let r = read_number (bytes_of v) in value_as r.value r.text comment

-- by what the first byte of the value text v says; an invalid value holds the whole raw text
abbrev pub by_start : Start → Text → List ℕ → Option Text → Result ValueRead Fault
by_start Quote v raw comment = of_string v comment
by_start (Truth t) v raw comment = Ok (value_as (Logical t) (text_of []) comment)
by_start Number v raw comment = Ok (of_number v comment)
by_start Complex v raw comment = Err (fault_of R.Complex)
by_start Else v raw comment = Ok (value_as Invalid (text_of raw) comment)

-- empty text is undefined
abbrev pub by_bytes : List ℕ → Text → List ℕ → Option Text → Result ValueRead Fault
by_bytes [] v raw comment = Ok (value_as Undefined (text_of []) comment)
by_bytes (b ∷ s) v raw comment = by_start (start_of b) v raw comment

unfoldable pub value_with : Text → List ℕ → Option Text → Result ValueRead Fault
value_with v raw comment = by_bytes (bytes_of v) v raw comment

-- by how the raw text splits: a refused split is handed up
abbrev pub by_parts : Result Halves Fault → List ℕ → Result ValueRead Fault
by_parts (Ok h) raw = value_with h.value raw h.comment
by_parts (Err fault) raw = Err fault

-- the value in a raw text
unfoldable pub value_of : List ℕ → Result ValueRead Fault
value_of raw = by_parts (split_of raw) raw

-- the value in a raw text that stands on its card from byte `from` on, with the column beside a refusal
abbrev pub value_from : ℕ → List ℕ → Result ValueRead Fault
value_from from raw = answer_placed (text_column from raw) (value_of raw)
