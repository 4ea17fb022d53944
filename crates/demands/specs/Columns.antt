-- The column stands beside the answers and changes none of them (SPECIFICATION 2.4). Without it each answer is the one that the cards give
-- when they are read without columns (`unplacedOf`). Where a card is refused, the column is the one that its bytes give (`columnOf`).
use Rattle.std.specs.Prelude.{ℕ, ◌<◌, ◌≤◌, ◌≡◌, List, map, length, Err, None, Ok, Option, Result, Some, Bool}
use Rattle.refusal.specs.declared.Fault.{Fault}
use Rattle.refusal.specs.Numbers.{number_of, unplaced}
use Rattle.card.specs.Columns.{column_of}
use Rattle.card.specs.Cards.{unplaced_of, card_of}
use Rattle.roles.specs.Roles.{Role, role_read}
use Rattle.roles.specs.Cards.{cards_of, card_no}
use Rattle.finding.specs.declared.Stop.{Stop}
use Rattle.finding.specs.Finding.{stop_at, header_by, header_of, last_of, find_by, find_of}
use Rattle.joining.specs.Lookup.{lookup}
use Rattle.numbers.specs.declared.Value.{Value}
use Rattle.entries.specs.declared.NoEntry.{NoEntry}
use Rattle.entries.specs.declared.NoEntry.TheVariants as N
use Rattle.entries.specs.Answers.{Looked, LookupOutcome, left_by, looked_up, lookup_of, entry_by, entry_of}
use Rattle.entries.specs.Halves.{Sought, stops, missing, holds, sought_in, named, numbered_by, numbered}
use Rattle.entries.specs.Halves.{ValueOutcome, value_left, value_in, CommentOutcome, comment_left, comment_half, comment_in}
use Rattle.listing.specs.declared.Listing.{Listing}
use Rattle.listing.specs.Listing.{by_header, list_of}
use Rattle.naming.specs.Naming.{NameOutcome, naming_by, named_by, name_at}

-- ---- answers without the column: the refusal stands alone, and all else is as it was

-- of a card, and of a name
abbrev pub alone : {A : Type 0} → Result A Fault → Result A Fault
alone (Ok a) = Ok a
alone (Err x) = Err (unplaced x)

-- of a header, and of finding a name in it
abbrev pub stop_alone : Stop → Stop
stop_alone s = stop_at (unplaced s.fault) s.card

abbrev pub header_alone : {A : Type 0} → Result A Stop → Result A Stop
header_alone (Ok a) = Ok a
header_alone (Err s) = Err (stop_alone s)

-- of a lookup, and of an entry by its card
abbrev pub answer_alone : Result Value NoEntry → Result Value NoEntry
answer_alone (Ok v) = Ok v
answer_alone (Err (N.Header s)) = Err (N.Header (stop_alone s))
answer_alone (Err (N.Refused x)) = Err (N.Refused (unplaced x))

abbrev pub looked_alone : Looked → Looked
looked_alone r =
    record { answer = answer_alone r.answer; digits = r.digits; commented = r.commented; text = r.text; comment = r.comment }

abbrev pub outcome_alone : LookupOutcome → LookupOutcome
outcome_alone o = left_by (looked_alone o.answer) o.text o.comment

-- of what a header holds for its reader, and of the two halves by it
abbrev pub sought_alone : Sought → Sought
sought_alone (stops s) = stops (stop_alone s)
sought_alone missing = missing
sought_alone (holds v) = holds v

abbrev pub value_alone : ValueOutcome → ValueOutcome
value_alone o =
    value_left (record { answer = answer_alone o.answer.answer; digits = o.answer.digits; text = o.answer.text }) o.text

abbrev pub comment_answer_alone : Result Bool NoEntry → Result Bool NoEntry
comment_answer_alone (Ok there) = Ok there
comment_answer_alone (Err (N.Header s)) = Err (N.Header (stop_alone s))
comment_answer_alone (Err (N.Refused x)) = Err (N.Refused (unplaced x))

abbrev pub comment_alone : CommentOutcome → CommentOutcome
comment_alone o = comment_left (comment_half (comment_answer_alone o.answer.answer) o.answer.comment) o.comment

-- of a list
abbrev pub list_alone : Listing → Listing
list_alone x =
    record { header = header_alone x.header; first = x.first; last = x.last; times = x.times; count = x.count }

-- of a name, with its bytes
abbrev pub naming_alone : NameOutcome → NameOutcome
naming_alone o = naming_by (alone o.answer) o.name

-- ---- a card

-- without its column the card is the one that is read without columns
abbrev pub CardAlone : Type 0
CardAlone = (c : List ℕ) → alone (card_of c) ≡ unplaced_of c

-- ---- a header

-- what each card is to the header, read without columns
abbrev pub unplaced_roles : List ℕ → List Role
unplaced_roles h = map (λ (c : List ℕ). role_read (unplaced_of c)) (cards_of h)

-- the header by those roles
abbrev pub unplaced_header : List ℕ → Result ℕ Stop
unplaced_header h = header_by (length h) (unplaced_roles h)

-- without its column a header's answer is that one
abbrev pub HeaderAlone : Type 0
HeaderAlone = (h : List ℕ) → header_alone (header_of h) ≡ unplaced_header h

-- ---- what is answered of a header, with the same lent buffers

-- finding a name
abbrev pub FindAlone : Type 0
FindAlone = (h name : List ℕ) → header_alone (find_of h name) ≡ find_by (unplaced_header h) (last_of name (unplaced_roles h))

-- looking a name up
abbrev pub LookupAlone : Type 0
LookupAlone =
    (h name text comment : List ℕ)
    → outcome_alone (lookup_of h name text comment) ≡ looked_up (unplaced_header h) (unplaced_roles h) name text comment

-- reading the entry at card i
abbrev pub EntryAlone : Type 0
EntryAlone =
    (h : List ℕ) (i : ℕ) (text comment : List ℕ)
    → outcome_alone (entry_of h i text comment) ≡ entry_by (length h) (unplaced_roles h) i text comment

-- what the header holds for its reader, by which both halves of a lookup and of an entry are given
abbrev pub NamedAlone : Type 0
NamedAlone = (h name : List ℕ) → sought_alone (named h name) ≡ sought_in (unplaced_header h) (lookup name (unplaced_roles h))

abbrev pub NumberedAlone : Type 0
NumberedAlone = (h : List ℕ) (i : ℕ) → sought_alone (numbered h i) ≡ numbered_by (length h) (unplaced_roles h) i

-- and the halves by it
abbrev pub ValueAlone : Type 0
ValueAlone = (x : Sought) (text : List ℕ) → value_alone (value_in x text) ≡ value_in (sought_alone x) text

abbrev pub CommentAlone : Type 0
CommentAlone = (x : Sought) (comment : List ℕ) → comment_alone (comment_in x comment) ≡ comment_in (sought_alone x) comment

-- listing the names
abbrev pub ListAlone : Type 0
ListAlone = (h : List ℕ) → list_alone (list_of h) ≡ by_header (unplaced_header h) (unplaced_roles h)

-- reading the name at card i
abbrev pub NameAlone : Type 0
NameAlone =
    (h : List ℕ) (i : ℕ) (name : List ℕ) → naming_alone (name_at h i name) ≡ named_by (length h) (unplaced_roles h) i name

-- ---- where the column stands

-- a byte of a card
pub record OnCard (x : Option ℕ) : Type 0 where
  pub byte : ℕ
  pub is : x ≡ Some byte
  pub within : byte < 80

-- the column is the one that the bytes of card c give, so a refusal that is not of a card has none; 1 to 8 always have one
pub record ColumnAt (c : List ℕ) (x : Fault) : Type 0 where
  pub column : x.column ≡ column_of c x.why
  pub within : number_of x.why ≤ 8 → OnCard x.column

-- of a card of 80 bytes
abbrev pub CardColumn : Type 0
CardColumn = (c : List ℕ) (x : Fault) → length c ≡ 80 → card_of c ≡ Err x → ColumnAt c x

-- of a header, and of finding a name in it: by the card at which it is refused
abbrev pub header_column : {A : Type 0} → List ℕ → Result A Stop → Type 0
header_column h (Ok a) = Unit {0}
header_column h (Err s) = ColumnAt (card_no h s.card) s.fault

abbrev pub HeaderColumn : Type 0
HeaderColumn = (h : List ℕ) → header_column h (header_of h)

abbrev pub FindColumn : Type 0
FindColumn = (h name : List ℕ) → header_column h (find_of h name)

-- of a lookup and of an entry by its card: 12 and 13 have none
abbrev pub answer_column : List ℕ → Result Value NoEntry → Type 0
answer_column h (Ok v) = Unit {0}
answer_column h (Err (N.Header s)) = ColumnAt (card_no h s.card) s.fault
answer_column h (Err (N.Refused x)) = x.column ≡ None

abbrev pub LookupColumn : Type 0
LookupColumn = (h name text comment : List ℕ) → answer_column h (lookup_of h name text comment).answer.answer

abbrev pub EntryColumn : Type 0
EntryColumn = (h : List ℕ) (i : ℕ) (text comment : List ℕ) → answer_column h (entry_of h i text comment).answer.answer

-- of what a header holds for its reader: either half gives the refusal that stops it, and 12 and 13 have no column
abbrev pub sought_column : List ℕ → Sought → Type 0
sought_column h (stops s) = ColumnAt (card_no h s.card) s.fault
sought_column h missing = Unit {0}
sought_column h (holds v) = Unit {0}

abbrev pub NamedColumn : Type 0
NamedColumn = (h name : List ℕ) → sought_column h (named h name)

abbrev pub NumberedColumn : Type 0
NumberedColumn = (h : List ℕ) (i : ℕ) → sought_column h (numbered h i)

-- of the name at card i
abbrev pub name_column : List ℕ → Result ℕ Fault → Type 0
name_column c (Ok n) = Unit {0}
name_column c (Err x) = ColumnAt c x

abbrev pub NameColumn : Type 0
NameColumn = (h : List ℕ) (i : ℕ) (name : List ℕ) → name_column (card_no h i) (name_at h i name).answer
