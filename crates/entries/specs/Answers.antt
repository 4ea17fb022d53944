-- What a lookup of both halves at once answers, and what the lent buffers then hold. The demands and the theorems on written cards are
-- stated over it; what the functions promise is in Halves, and the two halves together are this answer (`LookupHalves`).
use Rattle.std.specs.Prelude.{ℕ, suc, Bool, true, false, cond, ◌&&◌, List, [], ◌∷◌, leb, length, drop, Err, None, Ok, Option, Result, Some}
use Rattle.std.proofs.lemmas.List.Edits.{sets}
use Rattle.refusal.specs.declared.Refusal.TheVariants as R
use Rattle.refusal.specs.Numbers.{fault_of}
use Rattle.text.specs.declared.Text.{Text}
use Rattle.text.specs.Text.{text_of}
use Rattle.roles.specs.Roles.{Comment, Words, Held, Role, entry, more, neutral, last, refused}
use Rattle.roles.specs.Cards.{roles_of, is_bad_length}
use Rattle.joining.specs.Words.{opens, join_words}
use Rattle.joining.specs.Lookup.{whole, lookup}
use Rattle.finding.specs.declared.Stop.{Stop}
use Rattle.finding.specs.Finding.{stop_at, header_of}
use Rattle.numbers.specs.declared.Value.{Value}
use Rattle.entries.specs.declared.NoEntry.{NoEntry}
use Rattle.entries.specs.declared.NoEntry.TheVariants as N

-- the answer, a decimal's digits, whether there is a comment, and the lengths written to the lent buffers
pub record Looked : Type 0 where
  pub answer : Result Value NoEntry
  pub digits : Text
  pub commented : Bool
  pub text : ℕ
  pub comment : ℕ

-- an answer, and the lent buffers for text and comment after it
pub record LookupOutcome : Type 0 where
  pub answer : Looked
  pub text : List ℕ
  pub comment : List ℕ

-- what a function leaves: its answer, and the lent buffers after it
abbrev pub left_by : Looked → List ℕ → List ℕ → LookupOutcome
left_by r text comment = record { answer = r; text = text; comment = comment }

-- a comment that is missing has length 0
abbrev pub is_there : Comment → Bool
is_there None = false
is_there (Some c) = true

abbrev pub bytes_in : Comment → List ℕ
bytes_in None = []
bytes_in (Some c) = c

abbrev pub found_as : Held → Looked
found_as v =
    record {
      answer = Ok v.value;
      digits = text_of v.digits;
      commented = is_there v.words.comment;
      text = length v.words.text;
      comment = length (bytes_in v.words.comment);
    }

-- a refusal has no reading beside it
abbrev pub unread : NoEntry → Looked
unread a = record { answer = Err a; digits = text_of []; commented = false; text = 0; comment = 0 }

-- all refusals leave the buffers untouched
abbrev pub untouched : NoEntry → List ℕ → List ℕ → LookupOutcome
untouched a text comment = left_by (unread a) text comment

-- each at the front of its buffer, and bytes beyond its length stay; 13 where either buffer is shorter than the text for it
unfoldable pub written : Held → List ℕ → List ℕ → LookupOutcome
written v text comment =
    cond (leb (length v.words.text) (length text) && leb (length (bytes_in v.words.comment)) (length comment))
    (left_by (found_as v) (sets text 0 v.words.text) (sets comment 0 (bytes_in v.words.comment)))
    (untouched (N.Refused (fault_of R.BufferShort)) text comment)

-- 12 where there is no entry
abbrev pub given : Option Held → List ℕ → List ℕ → LookupOutcome
given None text comment = untouched (N.Refused (fault_of R.NameNotFound)) text comment
given (Some v) text comment = written v text comment

-- header refusals come first
abbrev pub looked_up : Result ℕ Stop → List Role → List ℕ → List ℕ → List ℕ → LookupOutcome
looked_up (Err s) roles name text comment = untouched (N.Header s) text comment
looked_up (Ok i) roles name text comment = given (lookup name roles) text comment

-- looking a name up in a header
unfoldable pub lookup_of : List ℕ → List ℕ → List ℕ → List ℕ → LookupOutcome
lookup_of h name text comment = looked_up (header_of h) (roles_of h) name text comment

-- ---- reading an entry by its card

-- the entry that a header's cards begin with, with what is joined to it
abbrev pub entry_head : List Role → Option Held
entry_head [] = None
entry_head (entry n v ∷ h) = Some (whole v h)
entry_head (more t c ∷ h) = None
entry_head (neutral ∷ h) = None
entry_head (last ∷ h) = None
entry_head (refused f ∷ h) = None

-- the entry at a place of a header's cards
abbrev pub entry_at : Option ℕ → List Role → Option Held
entry_at (Some k) roles = entry_head (drop k roles)
entry_at None roles = None

-- the refused card that is met while cards, from number j on, are joined to words: the first that comes while they are open
unfoldable pub met_on : Words → List Role → ℕ → Option Stop
met_on w [] j = None
met_on w (entry n v ∷ h) j = None
met_on w (more t c ∷ h) j = cond (opens w) (met_on (join_words w t c) h (suc j)) None
met_on w (neutral ∷ h) j = met_on w h (suc j)
met_on w (last ∷ h) j = None
met_on w (refused f ∷ h) j = cond (opens w) (Some (stop_at f j)) None

-- the refused card that reading an entry meets, where the cards begin with number i: that card, or one met while it is joined
abbrev pub met_head : List Role → ℕ → Option Stop
met_head [] i = None
met_head (entry n v ∷ h) i = met_on v.words h (suc i)
met_head (more t c ∷ h) i = None
met_head (neutral ∷ h) i = None
met_head (last ∷ h) i = None
met_head (refused f ∷ h) i = Some (stop_at f i)

-- a refused card that is met is the answer
abbrev pub unless_met : Option Stop → LookupOutcome → List ℕ → List ℕ → LookupOutcome
unless_met None o text comment = o
unless_met (Some s) o text comment = untouched (N.Header s) text comment

-- reading the entry that cards begin with, the first of which has number i
abbrev pub entry_from : List Role → ℕ → List ℕ → List ℕ → LookupOutcome
entry_from roles i text comment = unless_met (met_head roles i) (given (entry_head roles) text comment) text comment

-- reading the entry at card i of a header of n bytes, by the roles of its cards; a header of a bad length has none
abbrev pub entry_by : ℕ → List Role → ℕ → List ℕ → List ℕ → LookupOutcome
entry_by n roles i text comment =
    cond (is_bad_length n) (untouched (N.Header (stop_at (fault_of R.HeaderLength) 0)) text comment)
    (entry_from (drop i roles) i text comment)

-- reading the entry at card i, whatever stands elsewhere in the header
unfoldable pub entry_of : List ℕ → ℕ → List ℕ → List ℕ → LookupOutcome
entry_of h i text comment = entry_by (length h) (roles_of h) i text comment
