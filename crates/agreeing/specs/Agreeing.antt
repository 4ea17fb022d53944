-- The list of a header's names agrees with lookup: for every header that is accepted both give the same answers, and any other is
-- refused by both alike. Stated over the answer of both halves at once, for a lookup and for an entry by its card; `Halves` states it
-- of each. Arrays that a caller made up are not spoken of: `placeOfEntry` reads whatever number stands in them.
use Rattle.std.specs.Prelude.{ℕ, ◌<◌, ◌≤◌, ◌≡◌, List, [], map, length, get_or, take, drop, Err, Ok, Some}
use Rattle.refusal.specs.declared.Refusal.TheVariants as R
use Rattle.refusal.specs.Numbers.{number_of, fault_of}
use Rattle.roles.specs.Roles.{Held, Role, entry, neutral}
use Rattle.roles.specs.Cards.{roles_of, card_count}
use Rattle.joining.specs.Lookup.{lookup}
use Rattle.finding.specs.declared.Stop.{Stop}
use Rattle.finding.specs.Finding.{header_of, last_of}
use Rattle.entries.specs.declared.NoEntry.TheVariants as N
use Rattle.entries.specs.Answers.{untouched, given, lookup_of, entry_head, entry_at, entry_of}
use Rattle.listing.specs.Listing.{places, free, name_of, empty, tabled, list_of, place_of_entry}
use Rattle.naming.specs.Naming.{name_written, name_at}
use Rattle.agreeing.specs.Firsts.{firsts_of, lasts_of, times_of}

-- the arrays of an accepted header hold its first cards and, for the name of each, its last entry and how many bear it; then free marks
abbrev pub Contents : Type 0
Contents =
    (h : List ℕ) (end : ℕ) → header_of h ≡ Ok end
    → list_of h
    ≡ tabled (Ok end) (record { first = firsts_of (roles_of h); last = lasts_of (roles_of h); times = times_of (roles_of h) })

-- every name has a place: an accepted header has no more names than cards, and no more cards than places
abbrev pub NamesFit : Type 0
NamesFit =
    (h : List ℕ) (end : ℕ) → header_of h ≡ Ok end
    → ((list_of h).count ≤ card_count (length h)) × (card_count (length h) ≤ places)

-- a header is refused by a number up to 10: the list has no refusal of its own
abbrev pub UpToTen : Type 0
UpToTen = (h : List ℕ) (s : Stop) → (list_of h).header ≡ Err s → number_of s.fault.why ≤ 10

-- what a name is answered is the entry at the last card that bears it: none where no card does
abbrev pub ByLast : Type 0
ByLast = (name : List ℕ) (roles : List Role) → lookup name roles ≡ entry_at (last_of name roles) roles

-- the names of the list in its order: each by the first card that bears it
abbrev pub names_listed : List ℕ → List (List ℕ)
names_listed h = map (λ (i : ℕ). name_of (get_or (roles_of h) i neutral)) (take (list_of h).count (list_of h).first)

-- the name stands at place k of the list: the first card of that place is an entry that bears it
pub record StandsAt (h name : List ℕ) (k : ℕ) : Type 0 where
  pub within : k < (list_of h).count
  pub held : Held
  pub bears : get_or (roles_of h) (get_or (list_of h).first k free) neutral ≡ entry name held

-- the name stands somewhere in the list
pub record StandsIn (h name : List ℕ) : Type 0 where
  pub place : ℕ
  pub stands : StandsAt h name place

-- the entry at a name's place is what the name is answered, with the same lent buffers: the answer and the bytes left in them
abbrev pub Agreement : Type 0
Agreement =
    (h : List ℕ) (end : ℕ) → header_of h ≡ Ok end
    → (name : List ℕ) (k : ℕ) → StandsAt h name k
    → (text comment : List ℕ) → place_of_entry h (list_of h).last k text comment ≡ lookup_of h name text comment

-- some name stands at place k
pub record PlaceTaken (h : List ℕ) (k : ℕ) : Type 0 where
  pub name : List ℕ
  pub stands : StandsAt h name k

-- each place of the list has a name
abbrev pub EachTaken : Type 0
EachTaken = (h : List ℕ) (end : ℕ) → header_of h ≡ Ok end → (k : ℕ) → k < (list_of h).count → PlaceTaken h k

-- no name stands at two places
abbrev pub Once : Type 0
Once =
    (h : List ℕ) (end : ℕ) → header_of h ≡ Ok end
    → (name : List ℕ) (j k : ℕ) → StandsAt h name j → StandsAt h name k → j ≡ k

-- the name that is read at the first card of place k, with a lent buffer, is the k-th of the list
abbrev pub NameRead : Type 0
NameRead =
    (h : List ℕ) (end : ℕ) → header_of h ≡ Ok end → (k : ℕ) → k < (list_of h).count
    → (name : List ℕ) → name_at h (get_or (list_of h).first k free) name ≡ name_written (get_or (names_listed h) k []) name

-- lookup finds a name
pub record FoundIn (h name : List ℕ) : Type 0 where
  pub held : Held
  pub is : lookup name (roles_of h) ≡ Some held

-- lookup finds every name that stands in the list
abbrev pub EachStanding : Type 0
EachStanding = (h : List ℕ) (end : ℕ) → header_of h ≡ Ok end → (name : List ℕ) → StandsIn h name → FoundIn h name

-- every name that lookup finds stands in the list
abbrev pub EachFound : Type 0
EachFound = (h : List ℕ) (end : ℕ) → header_of h ≡ Ok end → (name : List ℕ) → FoundIn h name → StandsIn h name

-- a name that stands nowhere in the list is refused with 12, and the buffers stay as they were
abbrev pub Missing : Type 0
Missing =
    (h : List ℕ) (end : ℕ) → header_of h ≡ Ok end → (name : List ℕ) → (StandsIn h name → ⊥)
    → (text comment : List ℕ) → lookup_of h name text comment ≡ untouched (N.Refused (fault_of R.NameNotFound)) text comment

-- only such a name is refused with 12
abbrev pub OnlyMissing : Type 0
OnlyMissing =
    (h : List ℕ) (end : ℕ) → header_of h ≡ Ok end → (name text comment : List ℕ)
    → (lookup_of h name text comment).answer.answer ≡ Err (N.Refused (fault_of R.NameNotFound)) → StandsIn h name → ⊥

-- a refused header is refused by both alike, at the same card: all places of the list are free, and lookup leaves the buffers
abbrev pub SameRefusal : Type 0
SameRefusal =
    (h : List ℕ) (s : Stop) → header_of h ≡ Err s
    → (list_of h ≡ tabled (Err s) empty)
    × ((name text comment : List ℕ) → lookup_of h name text comment ≡ untouched (N.Header s) text comment)

-- up to END of an accepted header an entry by its card meets no refused card: it is what stands there with what is joined to it, or 12
abbrev pub UnmetToEnd : Type 0
UnmetToEnd =
    (h : List ℕ) (end : ℕ) → header_of h ≡ Ok end → (i : ℕ) → i ≤ end
    → (text comment : List ℕ) → entry_of h i text comment ≡ given (entry_head (drop i (roles_of h))) text comment
