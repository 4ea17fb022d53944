-- The refusals of a value text, and the value with the column beside a refusal.
use Rattle.std.specs.Prelude.{Err, Ok, Option, Result}
use Prim.Native.Nat.{ℕ}
use mathlib.Core.Path.{◌≡◌, refl}
use mathlib.Core.List.{List, [], ◌∷◌}
use Rattle.refusal.specs.declared.Fault.{Fault}
use Rattle.refusal.specs.Numbers.{answer_placed}
use Rattle.refusal.proofs.Placing.{RefusedBy, answer_alike, refused-weaker}
use Rattle.text.specs.declared.Text.{Text}
use Rattle.text.specs.Text.{bytes_of}
use Rattle.splitting.specs.declared.Halves.{Halves}
use Rattle.splitting.specs.Split.{split_of}
use Rattle.splitting.specs.Strings.{string_of}
use Rattle.splitting.specs.Columns.{first_byte, text_column, at_byte}
use Rattle.splitting.proofs.Refusing.{Led, complex, InText, string_led, OfText, of_text, led_first}
use Rattle.value.specs.declared.Start.{Start}
use Rattle.value.specs.declared.Start.TheVariants.{Quote, Truth, Number, Complex, Else}
use Rattle.value.specs.declared.ValueRead.{ValueRead}
use Rattle.value.specs.Values.{by_quotes, of_string, of_number, by_start, by_bytes, value_with, by_parts, value_of, start_of}

-- ---- a value text is refused at its first byte alone

with_led : (v : Text) (raw : List ℕ) (comment : Option Text) → RefusedBy Led (value_with v raw comment)
unfolding value_with of_string of_number
with_led v raw comment = by_bytes_lem (bytes_of v)
  where
    by_quotes_lem : (q : Result Text Fault) → RefusedBy Led q → RefusedBy Led (by_quotes q comment)
    by_quotes_lem (Ok s) h = tt
    by_quotes_lem (Err x) h = h

    by_start_lem : (k : Start) → RefusedBy Led (by_start k v raw comment)
    by_start_lem Quote = by_quotes_lem (string_of (bytes_of v)) (string_led (bytes_of v))
    by_start_lem (Truth t) = tt
    by_start_lem Number = tt
    by_start_lem Complex = complex
    by_start_lem Else = tt

    by_bytes_lem : (s : List ℕ) → RefusedBy Led (by_bytes s v raw comment)
    by_bytes_lem [] = tt
    by_bytes_lem (b ∷ s) = by_start_lem (start_of b)

-- a string with the column beside a refusal gives the value with it
pub quotes_placed : (first : ℕ) (q : Result Text Fault) (comment : Option Text)
    → by_quotes (answer_placed (at_byte first) q) comment ≡ answer_placed (at_byte first) (by_quotes q comment)
quotes_placed first (Ok s) comment = refl
quotes_placed first (Err x) comment = refl

-- ---- a text that is split

-- what is made of the split of a text that begins at byte `first`
abbrev pub parts_placed_lem : ℕ → Result Halves Fault → List ℕ → Result ValueRead Fault
parts_placed_lem first (Ok h) raw = answer_placed (at_byte first) (value_with h.value raw h.comment)
parts_placed_lem first (Err x) raw = Err x

pub parts_placed : (from : ℕ) (raw : List ℕ) (a : Result Halves Fault)
    → parts_placed_lem (first_byte from raw) (answer_placed (text_column from raw) a) raw
    ≡ answer_placed (text_column from raw) (by_parts a raw)
parts_placed from raw (Ok h) =
    answer_alike (at_byte (first_byte from raw)) (text_column from raw) Led (led_first from raw) (value_with h.value raw h.comment)
    (with_led h.value raw h.comment)
parts_placed from raw (Err x) = refl

-- ---- what holds of the refusals of a text holds of those of its value

pub value_by : (P : Fault → Type 0) (raw : List ℕ) → OfText P raw → RefusedBy P (value_of raw)
unfolding value_of
value_by P raw o = go (split_of raw) o.split
  where
    go : (a : Result Halves Fault) → RefusedBy P a → RefusedBy P (by_parts a raw)
    go (Ok h) u = refused-weaker Led P o.first (value_with h.value raw h.comment) (with_led h.value raw h.comment)
    go (Err x) u = u

-- a raw text is refused by 2, or at its first byte
pub value_in-text : (raw : List ℕ) → RefusedBy InText (value_of raw)
value_in-text raw = value_by InText raw (of_text raw)
