-- The names of a header in the order of their first cards, with the last entry of each and how many bear it: over roles, with no table
-- and no insertion.
use Rattle.std.specs.Prelude.{ℕ, suc, Bool, true, false, cond, List, [], ◌∷◌, map, get_or, None, Option, Some}
use Rattle.text.specs.Same.{same}
use Rattle.roles.specs.Roles.{Role, entry, more, neutral, last, refused}
use Rattle.finding.specs.Finding.{last_of}
use Rattle.listing.specs.Listing.{free, name_of}

-- the name is one of those
unfoldable pub is_among : List ℕ → List (List ℕ) → Bool
is_among name [] = false
is_among name (m ∷ seen) = cond (same m name) true (is_among name seen)

-- the numbers, from i on, of the entries that bear a new name: one that was not seen before them; nothing behind END counts
unfoldable pub firsts_from : List (List ℕ) → List Role → ℕ → List ℕ
firsts_from seen [] i = []
firsts_from seen (entry n v ∷ rs) i =
    cond (is_among n seen) (firsts_from seen rs (suc i)) (i ∷ firsts_from (n ∷ seen) rs (suc i))
firsts_from seen (more t c ∷ rs) i = firsts_from seen rs (suc i)
firsts_from seen (neutral ∷ rs) i = firsts_from seen rs (suc i)
firsts_from seen (last ∷ rs) i = []
firsts_from seen (refused f ∷ rs) i = firsts_from seen rs (suc i)

abbrev pub firsts_of : List Role → List ℕ
firsts_of roles = firsts_from [] roles 0

-- the number of the last entry that bears a name
abbrev pub number_at : Option ℕ → ℕ
number_at (Some i) = i
number_at None = free

abbrev pub last_number : List Role → List ℕ → ℕ
last_number roles name = number_at (last_of name roles)

-- for the name of each first card, its last
abbrev pub lasts_of : List Role → List ℕ
lasts_of roles = map (λ (i : ℕ). last_number roles (name_of (get_or roles i neutral))) (firsts_of roles)

-- how many entries bear the name; nothing behind END counts
unfoldable pub times_borne : List ℕ → List Role → ℕ
times_borne name [] = 0
times_borne name (entry n v ∷ rs) = cond (same n name) (suc (times_borne name rs)) (times_borne name rs)
times_borne name (more t c ∷ rs) = times_borne name rs
times_borne name (neutral ∷ rs) = times_borne name rs
times_borne name (last ∷ rs) = 0
times_borne name (refused f ∷ rs) = times_borne name rs

-- for the name of each first card, how many
abbrev pub times_of : List Role → List ℕ
times_of roles = map (λ (i : ℕ). times_borne (name_of (get_or roles i neutral)) roles) (firsts_of roles)
