-- What the two halves of a lookup answer, each with its own lent buffer (SPECIFICATION 10): the value with its text, and the comment.
use Rattle.std.specs.Prelude.{ℕ, cond, List, [], leb, length, drop, Err, Ok, Result, Option, None, Some, Bool}
use Rattle.std.proofs.lemmas.List.Edits.{sets}
use Rattle.refusal.specs.declared.Refusal.TheVariants as R
use Rattle.refusal.specs.Numbers.{fault_of}
use Rattle.numbers.specs.declared.Value.{Value}
use Rattle.text.specs.Text.{text_of}
use Rattle.roles.specs.Roles.{Comment, Held, Role}
use Rattle.roles.specs.Cards.{roles_of, is_bad_length}
use Rattle.joining.specs.Lookup.{lookup}
use Rattle.finding.specs.declared.Stop.{Stop}
use Rattle.finding.specs.Finding.{stop_at, header_of}
use Rattle.entries.specs.declared.NoEntry.{NoEntry}
use Rattle.entries.specs.declared.NoEntry.TheVariants as N
use Rattle.entries.specs.declared.ValueHalf.{ValueHalf}
use Rattle.entries.specs.declared.CommentHalf.{CommentHalf}
use Rattle.entries.specs.Answers.{is_there, bytes_in, entry_head, met_head}

-- ---- what a header holds for its reader

-- it is refused at a card; or it has no such entry; or this one, joined
pub data Sought : Type 0 where
  stops : Stop → Sought
  missing : Sought
  holds : Held → Sought

abbrev pub held_in : Option Held → Sought
held_in None = missing
held_in (Some v) = holds v

-- for a name: header refusals come first
abbrev pub sought_in : Result ℕ Stop → Option Held → Sought
sought_in (Err s) v = stops s
sought_in (Ok i) v = held_in v

unfoldable pub named : List ℕ → List ℕ → Sought
named h name = sought_in (header_of h) (lookup name (roles_of h))

-- for a card's number, whatever stands elsewhere in the header: a refused card that is met comes first
abbrev pub unless_stopped : Option Stop → Option Held → Sought
unless_stopped None v = held_in v
unless_stopped (Some s) v = stops s

-- the entry that cards begin with, the first of which has number i
abbrev pub numbered_from : List Role → ℕ → Sought
numbered_from roles i = unless_stopped (met_head roles i) (entry_head roles)

-- the entry at card i of a header of n bytes, by the roles of its cards; a header of a bad length has none
abbrev pub numbered_by : ℕ → List Role → ℕ → Sought
numbered_by n roles i = cond (is_bad_length n) (stops (stop_at (fault_of R.HeaderLength) 0)) (numbered_from (drop i roles) i)

unfoldable pub numbered : List ℕ → ℕ → Sought
numbered h i = numbered_by (length h) (roles_of h) i

-- ---- the value's half: kind, number or truth, digits and text

-- an answer, and the lent buffer for the text after it
pub record ValueOutcome : Type 0 where
  pub answer : ValueHalf
  pub text : List ℕ

abbrev pub value_left : ValueHalf → List ℕ → ValueOutcome
value_left r text = record { answer = r; text = text }

-- a refusal has no reading beside it; n is the room that is wanted, 0 for all refusals but 13
abbrev pub no_value : NoEntry → ℕ → ValueHalf
no_value a n = record { answer = Err a; digits = text_of []; text = n }

-- the text at the front of the buffer, and bytes beyond its length stay; 13 where the buffer is shorter, and it stays as it was
abbrev pub value_laid : Value → List ℕ → List ℕ → List ℕ → ValueOutcome
value_laid v digits s text =
    cond (leb (length s) (length text))
    (value_left (record { answer = Ok v; digits = text_of digits; text = length s }) (sets text 0 s))
    (value_left (no_value (N.Refused (fault_of R.BufferShort)) (length s)) text)

-- all refusals leave the buffer untouched; 12 where there is no entry
unfoldable pub value_in : Sought → List ℕ → ValueOutcome
value_in (stops s) text = value_left (no_value (N.Header s) 0) text
value_in missing text = value_left (no_value (N.Refused (fault_of R.NameNotFound)) 0) text
value_in (holds v) text = value_laid v.value v.digits v.words.text text

-- of a name, and of the entry at card i
abbrev pub value_named : List ℕ → List ℕ → List ℕ → ValueOutcome
value_named h name text = value_in (named h name) text

abbrev pub value_numbered : List ℕ → ℕ → List ℕ → ValueOutcome
value_numbered h i text = value_in (numbered h i) text

-- ---- the comment's half: whether there is a comment, and its bytes

-- an answer, and the lent buffer for the comment after it
pub record CommentOutcome : Type 0 where
  pub answer : CommentHalf
  pub comment : List ℕ

abbrev pub comment_left : CommentHalf → List ℕ → CommentOutcome
comment_left r comment = record { answer = r; comment = comment }

abbrev pub comment_half : Result Bool NoEntry → ℕ → CommentHalf
comment_half a n = record { answer = a; comment = n }

-- a comment that is missing has length 0
abbrev pub comment_laid : Comment → List ℕ → CommentOutcome
comment_laid c comment =
    cond (leb (length (bytes_in c)) (length comment))
    (comment_left (comment_half (Ok (is_there c)) (length (bytes_in c))) (sets comment 0 (bytes_in c)))
    (comment_left (comment_half (Err (N.Refused (fault_of R.BufferShort))) (length (bytes_in c))) comment)

unfoldable pub comment_in : Sought → List ℕ → CommentOutcome
comment_in (stops s) comment = comment_left (comment_half (Err (N.Header s)) 0) comment
comment_in missing comment = comment_left (comment_half (Err (N.Refused (fault_of R.NameNotFound))) 0) comment
comment_in (holds v) comment = comment_laid v.words.comment comment

abbrev pub comment_named : List ℕ → List ℕ → List ℕ → CommentOutcome
comment_named h name comment = comment_in (named h name) comment

abbrev pub comment_numbered : List ℕ → ℕ → List ℕ → CommentOutcome
comment_numbered h i comment = comment_in (numbered h i) comment
