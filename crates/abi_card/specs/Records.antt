-- What the C boundary writes: a card as a record of 248 bytes and a number, or the column of a refusal.
use Rattle.std.specs.Prelude.{ℕ, min, ◌≡◌, Bool, false, cond, ◌&&◌, List, [], ◌∷◌, ◌++◌, eqb, ℤ, pos, length}
use Rattle.std.specs.Prelude.{is_some, Option, None, Some, Err, Ok, Result}
use Rattle.laws.specs.Lending.{Lent}
use Rattle.refusal.specs.Numbers.{number_of}
use Rattle.text.specs.declared.Text.{Text}
use Rattle.text.specs.Text.{text_of}
use Rattle.card.specs.declared.Card.{Card}
use Rattle.card.specs.declared.Card.TheVariants as C
use Rattle.card.specs.declared.CardRead.{CardRead}
use Rattle.card.specs.Cards.{card_of}
use Rattle.abi_value.specs.declared.Told.{Told}
use Rattle.abi_value.specs.Telling.{told, value_told, bit_of, wrong_length, column_after}
use Rattle.refusal.specs.declared.Fault.{Fault}

-- ---- a card in numbers

-- the number of a card's class
abbrev pub class_number : Card → ℕ
class_number (C.Value v) = 1
class_number C.Continuation = 2
class_number C.Xtension = 3
class_number C.Comment = 4
class_number C.History = 5
class_number (C.Hierarch v) = 6
class_number C.Space = 7
class_number C.End = 8
class_number C.Undefined = 9

-- a card without a value has kind 0
abbrev pub card_told : Card → Told
card_told (C.Value v) = value_told v
card_told (C.Hierarch v) = value_told v
card_told C.Continuation = told 0 false (pos 0)
card_told C.Xtension = told 0 false (pos 0)
card_told C.Comment = told 0 false (pos 0)
card_told C.History = told 0 false (pos 0)
card_told C.Space = told 0 false (pos 0)
card_told C.End = told 0 false (pos 0)
card_told C.Undefined = told 0 false (pos 0)

-- ---- the record

-- a length in a byte
abbrev pub byte_of : ℕ → ℕ
byte_of n = min n 255

-- the text of a comment, which is empty where there is none
abbrev pub text_in : Option Text → Text
text_in (Some text) = text
text_in None = text_of []

-- the eight numbers in front
abbrev pub record_head : CardRead → Told → List ℕ
record_head r t =
    class_number r.card ∷ t.kind ∷ bit_of t.flag ∷ bit_of (is_some r.comment)
    ∷ byte_of r.name.len ∷ byte_of r.text.len ∷ byte_of (text_in r.comment).len ∷ 0 ∷ []

-- then the name, the text and the comment, 80 bytes each
abbrev pub record_of : CardRead → List ℕ
record_of r = record_head r (card_told r.card) ++ r.name.bytes ++ r.text.bytes ++ (text_in r.comment).bytes

-- ---- what reading a card answers, and leaves in lent memory

-- an answer, and the lent record, number and column after it
pub record CardOutcome : Type 0 where
  pub answer : ℕ
  pub content : List ℕ
  pub number : ℤ
  pub column : ℕ

abbrev pub card_outcome : ℕ → List ℕ → ℤ → ℕ → CardOutcome
card_outcome answer content number column = record { answer = answer; content = content; number = number; column = column }

-- 0, with the card's record and number; a refusal answers its own number, with its column, and leaves all else as it was
abbrev pub recorded_as : Result CardRead Fault → List ℕ → ℤ → ℕ → CardOutcome
recorded_as (Ok r) out number column = card_outcome 0 (record_of r) (card_told r.card).number column
recorded_as (Err fault) out number column = card_outcome (number_of fault.why) out number (column_after fault.column column)

-- the lengths that are asked for: a card's and a record's
unfoldable pub is_card_fit : List ℕ → List ℕ → Bool
is_card_fit card out = eqb (length card) 80 && eqb (length out) 248

abbrev pub card_into : List ℕ → List ℕ → ℤ → ℕ → CardOutcome
card_into card out number column =
    cond (is_card_fit card out) (recorded_as (card_of card) out number column)
    (card_outcome wrong_length out number column)

-- what reading a card leaves of a record, a number and a column that are lent, where r is the answer
abbrev pub CardLeft : List ℕ → Lent (List ℕ) → Lent ℤ → Lent ℕ → ℕ → Type 0
CardLeft card out number column r =
    card_outcome r out.left number.left column.left ≡ card_into card out.was number.was column.was
