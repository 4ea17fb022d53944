-- What the C boundary writes of a header: where END stands, an entry's value and its comment, the list of its names, and a name.
use Rattle.std.specs.Prelude.{ℕ, ◌≡◌, Bool, cond, ◌&&◌, List, [], ◌∷◌, eqb, ℤ, length, set, Err, Ok, Result}
use Rattle.laws.specs.Lending.{Lent}
use Rattle.refusal.specs.Numbers.{number_of}
use Rattle.text.specs.Text.{size}
use Rattle.abi_value.specs.declared.Told.{Told}
use Rattle.abi_value.specs.Telling.{value_told, bit_of, wrong_length, column_after}
use Rattle.numbers.specs.declared.Value.{Value}
use Rattle.entries.specs.declared.NoEntry.{NoEntry}
use Rattle.entries.specs.declared.NoEntry.TheVariants as N
use Rattle.entries.specs.declared.ValueHalf.{ValueHalf}
use Rattle.entries.specs.Halves.{ValueOutcome, CommentOutcome}
use Rattle.listing.specs.declared.Listing.{Listing}
use Rattle.listing.specs.Listing.{places}
use Rattle.naming.specs.Naming.{NameOutcome}
use Rattle.finding.specs.declared.Stop.{Stop}
use Rattle.refusal.specs.declared.Fault.{Fault}

-- ---- where END stands

-- an answer, and the lent card's number and column after it
pub record HeaderOutcome : Type 0 where
  pub answer : ℕ
  pub card : ℕ
  pub column : ℕ

-- 0, with the number of END; or the refusal's number, with the number of the card at which the header is refused and its column
abbrev pub header_told : Result ℕ Stop → ℕ → HeaderOutcome
header_told (Ok end) column = record { answer = 0; card = end; column = column }
header_told (Err s) column =
    record { answer = number_of s.fault.why; card = s.card; column = column_after s.fault.column column }

-- what saying where END stands leaves, where x is what the header is read as and r the answer
abbrev pub HeaderLeft : Result ℕ Stop → Lent ℕ → Lent ℕ → ℕ → Type 0
HeaderLeft x card column r =
    ◌≡◌ {A = HeaderOutcome} (record { answer = r; card = card.left; column = column.left }) (header_told x column.was)

-- ---- the value of an entry

-- how many numbers it has
abbrev pub number_count : ℕ
number_count = 5

-- 0; the value's kind and flag; the lengths of text and digits
abbrev pub numbers_of : Told → ValueHalf → List ℕ
numbers_of t r = 0 ∷ t.kind ∷ bit_of t.flag ∷ r.text ∷ r.digits.len ∷ []

-- 0, or the refusal's number
abbrev pub value_said : Result Value NoEntry → ℕ
value_said (Ok v) = 0
value_said (Err (N.Header s)) = number_of s.fault.why
value_said (Err (N.Refused f)) = number_of f.why

-- a refused header leaves the card's number in the first place; 12 and 13 leave the room that is wanted in that of the text's length
abbrev pub numbers_after : Result Value NoEntry → ValueHalf → List ℕ → List ℕ
numbers_after (Ok v) r o = numbers_of (value_told v) r
numbers_after (Err (N.Header s)) r o = set o 0 s.card
numbers_after (Err (N.Refused f)) r o = set o 3 r.text

-- a decimal's digits, then zeros; a refusal leaves all as it was
abbrev pub digits_after : Result Value NoEntry → ValueHalf → List ℕ → List ℕ
digits_after (Ok v) r d = r.digits.bytes
digits_after (Err (N.Header s)) r d = d
digits_after (Err (N.Refused f)) r d = d

-- the integer or the power of ten; a refusal leaves it as it was
abbrev pub number_after : Result Value NoEntry → ℤ → ℤ
number_after (Ok v) z = (value_told v).number
number_after (Err (N.Header s)) z = z
number_after (Err (N.Refused f)) z = z

-- the column of a refusal; otherwise it stays as it was
abbrev pub value_column : Result Value NoEntry → ℕ → ℕ
value_column (Ok v) column = column
value_column (Err (N.Header s)) column = column_after s.fault.column column
value_column (Err (N.Refused f)) column = column_after f.column column

-- an answer, and the lent memory after it
pub record ValueMemory : Type 0 where
  pub answer : ℕ
  pub text : List ℕ
  pub digits : List ℕ
  pub numbers : List ℕ
  pub number : ℤ
  pub column : ℕ

-- what was read of a value, told to lent digits, numbers, a number and a column
abbrev pub value_stored : ValueOutcome → List ℕ → List ℕ → ℤ → ℕ → ValueMemory
value_stored x digits out number column =
    record {
      answer = value_said x.answer.answer;
      text = x.text;
      digits = digits_after x.answer.answer x.answer digits;
      numbers = numbers_after x.answer.answer x.answer out;
      number = number_after x.answer.answer number;
      column = value_column x.answer.answer column;
    }

-- the lengths that are asked for: those of digits and numbers
abbrev pub value_fits : List ℕ → List ℕ → Bool
value_fits digits out = eqb (length digits) size && eqb (length out) number_count

-- with other lengths nothing is read, and all stays as it was
abbrev pub value_into : Bool → ValueOutcome → List ℕ → List ℕ → List ℕ → ℤ → ℕ → ValueMemory
value_into fit x text digits out number column =
    cond fit (value_stored x digits out number column)
    (record { answer = wrong_length; text = text; digits = digits; numbers = out; number = number; column = column })

-- what looking a name's value up, or reading an entry's, leaves: `read` says what is read with the lent buffer, and r is the answer
abbrev pub ValueLeft : (List ℕ → ValueOutcome) → Lent (List ℕ) → Lent (List ℕ) → Lent (List ℕ) → Lent ℤ → Lent ℕ → ℕ → Type 0
ValueLeft read text digits out number column r =
    ◌≡◌ {A = ValueMemory}
    (record {
      answer = r;
      text = text.left;
      digits = digits.left;
      numbers = out.left;
      number = number.left;
      column = column.left;
    })
    (value_into (value_fits digits.was out.was) (read text.was) text.was digits.was out.was number.was column.was)

-- ---- the comment of an entry

-- an answer, and the lent memory after it
pub record CommentMemory : Type 0 where
  pub answer : ℕ
  pub comment : List ℕ
  pub commented : ℕ
  pub bytes : ℕ
  pub card : ℕ
  pub column : ℕ

-- 0, with whether there is a comment and its length; or the refusal's number, with the card's number and the column of a refused header,
-- or the room that is wanted
abbrev pub comment_stored : Result Bool NoEntry → ℕ → List ℕ → ℕ → ℕ → ℕ → ℕ → CommentMemory
comment_stored (Ok there) n comment commented bytes card column =
    record { answer = 0; comment = comment; commented = bit_of there; bytes = n; card = card; column = column }
comment_stored (Err (N.Header s)) n comment commented bytes card column =
    record {
      answer = number_of s.fault.why;
      comment = comment;
      commented = commented;
      bytes = bytes;
      card = s.card;
      column = column_after s.fault.column column;
    }
comment_stored (Err (N.Refused f)) n comment commented bytes card column =
    record {
      answer = number_of f.why;
      comment = comment;
      commented = commented;
      bytes = n;
      card = card;
      column = column_after f.column column;
    }

-- what looking a name's comment up, or reading an entry's, leaves: `read` says what is read with the lent buffer, and r is the answer
abbrev pub CommentLeft : (List ℕ → CommentOutcome) → Lent (List ℕ) → Lent ℕ → Lent ℕ → Lent ℕ → Lent ℕ → ℕ → Type 0
CommentLeft read comment commented bytes card column r =
    let x = read comment.was in
    ◌≡◌ {A = CommentMemory}
    (record {
      answer = r;
      comment = comment.left;
      commented = commented.left;
      bytes = bytes.left;
      card = card.left;
      column = column.left;
    })
    (comment_stored x.answer.answer x.answer.comment x.comment commented.was bytes.was card.was column.was)

-- ---- a list of names

-- an answer, and the lent memory after it
pub record ListOutcome : Type 0 where
  pub answer : ℕ
  pub first : List ℕ
  pub last : List ℕ
  pub times : List ℕ
  pub count : ℕ
  pub column : ℕ

abbrev pub list_outcome : ℕ → List ℕ → List ℕ → List ℕ → ℕ → ℕ → ListOutcome
list_outcome answer first last times count column =
    record { answer = answer; first = first; last = last; times = times; count = count; column = column }

-- 0, with the places and the number of names; or the refusal's number, with the card's number as the count and its column
abbrev pub list_told : Result ℕ Stop → Listing → List ℕ → List ℕ → List ℕ → ℕ → ListOutcome
list_told (Ok end) x first last times column =
    list_outcome 0 x.first x.last x.times x.count column
list_told (Err s) x first last times column =
    list_outcome (number_of s.fault.why) first last times s.card (column_after s.fault.column column)

-- the lengths that are asked for: those of first cards, last entries and numbers
abbrev pub list_fits : List ℕ → List ℕ → List ℕ → Bool
list_fits first last times = eqb (length first) places && eqb (length last) places && eqb (length times) places

-- with other lengths nothing is read, and all stays as it was
abbrev pub list_into : Bool → Listing → List ℕ → List ℕ → List ℕ → ℕ → ℕ → ListOutcome
list_into fit x first last times count column =
    cond fit (list_told x.header x first last times column)
    (list_outcome wrong_length first last times count column)

-- what listing leaves, where x is the list and r the answer
abbrev pub ListLeft : Listing → Lent (List ℕ) → Lent (List ℕ) → Lent (List ℕ) → Lent ℕ → Lent ℕ → ℕ → Type 0
ListLeft x first last times count column r =
    list_outcome r first.left last.left times.left count.left column.left
    ≡ list_into (list_fits first.was last.was times.was) x first.was last.was times.was count.was column.was

-- ---- a name

-- an answer, and the lent memory after it
pub record NamedOutcome : Type 0 where
  pub answer : ℕ
  pub name : List ℕ
  pub bytes : ℕ
  pub column : ℕ

-- 0, with the length of the name; or the refusal's number, with its column, and the length stays as it was
abbrev pub name_told : Result ℕ Fault → List ℕ → ℕ → ℕ → NamedOutcome
name_told (Ok n) name bytes column = record { answer = 0; name = name; bytes = n; column = column }
name_told (Err f) name bytes column =
    record { answer = number_of f.why; name = name; bytes = bytes; column = column_after f.column column }

-- what reading a name leaves: `read` says what is read with the lent buffer, and r is the answer
abbrev pub NameLeft : (List ℕ → NameOutcome) → Lent (List ℕ) → Lent ℕ → Lent ℕ → ℕ → Type 0
NameLeft read name bytes column r =
    let x = read name.was in
    ◌≡◌ {A = NamedOutcome}
    (record { answer = r; name = name.left; bytes = bytes.left; column = column.left })
    (name_told x.answer x.name bytes.was column.was)
