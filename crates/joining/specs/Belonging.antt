-- Which cards belong to a name: those that bear its entry, and the CONTINUE cards joined to such an entry (demand 3).
use Rattle.std.specs.Prelude.{ℕ, Bool, false, cond, List, [], ◌∷◌, get_or}
use Rattle.text.specs.Same.{same}
use Rattle.roles.specs.Roles.{Held, Role, entry, more, neutral, last, refused}
use Rattle.joining.specs.Lookup.{is_open, joined}

-- A name with the value that it has so far.
pub record Entry : Type 0 where
  pub name : List ℕ
  pub value : Held

-- What stands open before a card: END was met, nothing is open, or this entry.
pub data Open : Type 0 where
  ended idle : Open
  held : Entry → Open

-- What a card does: it gives an entry, the one that it bears or is joined to, as it stands then; or nothing; or it stops the reading.
pub data Effect : Type 0 where
  gives : Entry → Effect
  nothing stops : Effect

abbrev pub does : Open → Role → Effect
does ended c = nothing
does idle (entry n v) = gives (record { name = n; value = v })
does idle (more t c) = nothing
does idle neutral = nothing
does idle last = stops
does idle (refused f) = nothing
does (held e) (entry n v) = gives (record { name = n; value = v })
does (held e) (more t c) = gives (record { name = e.name; value = joined e.value t c })
does (held e) neutral = nothing
does (held e) last = stops
does (held e) (refused f) = nothing

-- what it leaves open
abbrev pub leaves : Open → Effect → Open
leaves q (gives e) = cond (is_open e.value) (held e) idle
leaves q nothing = q
leaves q stops = ended

-- what each card of a header does, where q stands open before the first
unfoldable pub effects : Open → List Role → List Effect
effects q [] = []
effects q (c ∷ h) = does q c ∷ effects (leaves q (does q c)) h

abbrev pub bears : List ℕ → Effect → Bool
bears k (gives e) = same e.name k
bears k nothing = false
bears k stops = false

-- the card at place p of a header belongs to K
abbrev pub belongs : List ℕ → List Role → ℕ → Bool
belongs k h p = bears k (get_or (effects idle h) p nothing)
