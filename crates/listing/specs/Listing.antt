-- The names of a header in the order of their first cards (SPECIFICATION 11).
use Rattle.std.specs.Prelude.{ℕ, suc, cond, List, [], ◌∷◌, ◌++◌, length, get_or, set, take, Err, None, Ok, Option, Result, Some}
use Rattle.text.specs.Same.{same}
use Rattle.text.specs.Text.{filled}
use Rattle.roles.specs.Roles.{Role, entry, more, neutral, last, refused}
use Rattle.roles.specs.Cards.{roles_of}
use Rattle.finding.specs.Finding.{header_of}
use Rattle.entries.specs.Answers.{LookupOutcome, entry_of}
use Rattle.entries.specs.Halves.{ValueOutcome, CommentOutcome, value_numbered, comment_numbered}
use Rattle.listing.specs.declared.Listing.{Listing}
use Rattle.listing.specs.declared.Listed.{Listed}
use Rattle.finding.specs.declared.Stop.{Stop}

-- the places of the table, and the mark of a free one: no card has this number
abbrev pub places : ℕ
places = 720

abbrev pub free : ℕ
free = 720

-- for each place the first card that bears its name, the last, and how many cards bear it
pub record Table : Type 0 where
  pub first : List ℕ
  pub last : List ℕ
  pub times : List ℕ

abbrev pub empty : Table
empty = record { first = []; last = []; times = [] }

-- the name that a card bears
abbrev pub name_of : Role → List ℕ
name_of (entry n v) = n
name_of (more t c) = []
name_of neutral = []
name_of last = []
name_of (refused f) = []

-- the place, from k on, whose first card bears the name
unfoldable pub place_in : List Role → List ℕ → List ℕ → ℕ → Option ℕ
place_in roles name [] k = None
place_in roles name (i ∷ is) k = cond (same (name_of (get_or roles i neutral)) name) (Some k) (place_in roles name is (suc k))

-- card i as the last entry of the name at place k, which one card more bears then
abbrev pub put_again : Table → ℕ → ℕ → Table
put_again t k i =
    record { first = t.first; last = set t.last k i; times = set t.times k (suc (get_or t.times k 0)) }

-- and as the first and last of a new name, the only card that bears it
abbrev pub put_new : Table → ℕ → Table
put_new t i = record { first = t.first ++ i ∷ []; last = t.last ++ i ∷ []; times = t.times ++ 1 ∷ [] }

-- of equal names the last entry counts, at the first one's place; a new name takes the next place: there is one for each card
abbrev pub put : Option ℕ → ℕ → Table → Table
put (Some k) i t = put_again t k i
put None i t = put_new t i

abbrev pub put_role : List Role → Role → ℕ → Table → Table
put_role roles (entry n v) i t = put (place_in roles n t.first 0) i t
put_role roles (more s c) i t = t
put_role roles neutral i t = t
put_role roles last i t = t
put_role roles (refused f) i t = t

-- cards, the first of which has number i, put into a table
unfoldable pub list_from : List Role → List Role → ℕ → Table → Table
list_from roles [] i t = t
list_from roles (r ∷ rs) i t = list_from roles rs (suc i) (put_role roles r i t)

-- the arrays: the table, then free marks, and no card bears the name of a free place
abbrev pub tabled : Result ℕ Stop → Table → Listing
tabled x t =
    record {
      header = x;
      first = filled free places t.first;
      last = filled free places t.last;
      times = filled 0 places t.times;
      count = length t.first;
    }

abbrev pub by_header : Result ℕ Stop → List Role → Listing
by_header (Ok end) roles = tabled (Ok end) (list_from roles (take end roles) 0 empty)
by_header (Err s) roles = tabled (Err s) empty

-- an answer, and the arrays beside it
abbrev pub listing_by : Listed → List ℕ → List ℕ → List ℕ → Listing
listing_by r firsts lasts borne = record { header = r.header; first = firsts; last = lasts; times = borne; count = r.count }

-- the names of a header; where it is refused all places are free
unfoldable pub list_of : List ℕ → Listing
list_of h = by_header (header_of h) (roles_of h)

-- the entry at a place of a table of last entries, which may be made up; a place that it lacks is free
unfoldable pub place_of_entry : List ℕ → List ℕ → ℕ → List ℕ → List ℕ → LookupOutcome
place_of_entry h lasts k text comment = entry_of h (get_or lasts k free) text comment

-- its two halves
unfoldable pub place_of_value : List ℕ → List ℕ → ℕ → List ℕ → ValueOutcome
place_of_value h lasts k text = value_numbered h (get_or lasts k free) text

unfoldable pub place_of_comment : List ℕ → List ℕ → ℕ → List ℕ → CommentOutcome
place_of_comment h lasts k comment = comment_numbered h (get_or lasts k free) comment
