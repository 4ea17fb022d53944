-- What a card is to its header (SPECIFICATION 3 and 9).
use Rattle.std.specs.Prelude.{ℕ, Bool, true, false, cond, List, [], Err, Ok, Result, Option, None, Some}
use Rattle.refusal.specs.declared.Fault.{Fault}
use Rattle.text.specs.declared.Text.{Text}
use Rattle.text.specs.Text.{bytes_of}
use Rattle.numbers.specs.declared.Value.{Value}
use Rattle.numbers.specs.declared.Value.TheVariants.{Integer, Float, Logical, String, Undefined, Invalid}
use Rattle.card.specs.declared.Card.TheVariants as C
use Rattle.card.specs.declared.CardRead.{CardRead}
use Rattle.card.specs.Cards.{card_of}
use Rattle.roles.specs.declared.Role.{Role as Told}
use Rattle.roles.specs.declared.Role.TheVariants.{Entry, More, Neutral, Last}
use Rattle.card.specs.declared.Card.{Card}

-- a comment, or none: a comment may be present and empty
abbrev pub Comment : Type 0
Comment = Option (List ℕ)

-- the words of an entry: its text, its comment, and whether it is a string that may be continued
pub record Words : Type 0 where
  pub text : List ℕ
  pub comment : Comment
  pub joins : Bool

-- what an entry holds: its kind with the number or truth, a decimal's digits, and its words
pub record Held : Type 0 where
  pub value : Value
  pub digits : List ℕ
  pub words : Words

pub data Role : Type 0 where
  -- a value, HIERARCH or XTENSION card, with its name
  entry : List ℕ → Held → Role
  -- a CONTINUE card
  more : List ℕ → Comment → Role
  -- a comment, history, space or undefined card
  neutral : Role
  -- END
  last : Role
  -- a card that is refused
  refused : Fault → Role

-- ---- the role by the class of a card

-- the values that CONTINUE cards may be joined to
abbrev pub is_string : Value → Bool
is_string (Integer z) = false
is_string (Float minus size) = false
is_string (Logical t) = false
is_string String = true
is_string Undefined = false
is_string Invalid = false

-- the stored XTENSION text is a string that is never open
abbrev pub role_by : Card → Told
role_by (C.Value v) = Entry v (is_string v)
role_by (C.Hierarch v) = Entry v (is_string v)
role_by C.Xtension = Entry String false
role_by C.Continuation = More
role_by C.Comment = Neutral
role_by C.History = Neutral
role_by C.Space = Neutral
role_by C.Undefined = Neutral
role_by C.End = Last

-- by what the card was read as
abbrev pub told_of : Result Card Fault → Result Told Fault
told_of (Ok card) = Ok (role_by card)
told_of (Err fault) = Err fault

-- ---- the same over lists

-- the values whose text is a lookup's
abbrev pub has_text : Value → Bool
has_text (Integer z) = false
has_text (Float minus size) = false
has_text (Logical t) = false
has_text String = true
has_text Undefined = false
has_text Invalid = true

-- the values whose text is a decimal's digits
abbrev pub has_digits : Value → Bool
has_digits (Integer z) = false
has_digits (Float minus size) = true
has_digits (Logical t) = false
has_digits String = false
has_digits Undefined = false
has_digits Invalid = false

abbrev pub comment_of : Bool → List ℕ → Comment
comment_of true c = Some c
comment_of false c = None

-- the comment of a card
abbrev pub comment_read : Option Text → Comment
comment_read (Some c) = Some (bytes_of c)
comment_read None = None

-- the words of an entry by its own card
abbrev pub words_in : Value → Bool → CardRead → Words
words_in v joins r =
    record { text = cond (has_text v) (bytes_of r.text) []; comment = comment_read r.comment; joins = joins }

-- a value and its words, as its card has them
abbrev pub held_of : Value → Bool → CardRead → Held
held_of v joins r = record { value = v; digits = cond (has_digits v) (bytes_of r.text) []; words = words_in v joins r }

abbrev pub role_in : Told → CardRead → Role
role_in (Entry v joins) r = entry (bytes_of r.name) (held_of v joins r)
role_in More r = more (bytes_of r.text) (comment_read r.comment)
role_in Neutral r = neutral
role_in Last r = last

-- the role of a card as it is read
abbrev pub role_read : Result CardRead Fault → Role
role_read (Ok r) = role_in (role_by r.card) r
role_read (Err f) = refused f

-- the role of a card by its bytes
abbrev pub role_of : List ℕ → Role
role_of c = role_read (card_of c)
