-- Whether a header is accepted, and the last card that bears a name (SPECIFICATION 2 and 10).
use Rattle.std.specs.Prelude.{ℕ, suc, cond, List, [], ◌∷◌, length, Err, None, Ok, Option, Result, Some}
use Rattle.refusal.specs.declared.Fault.{Fault}
use Rattle.refusal.specs.declared.Refusal.TheVariants as R
use Rattle.refusal.specs.Numbers.{fault_of}
use Rattle.text.specs.Same.{same}
use Rattle.roles.specs.Roles.{Role, entry, more, neutral, last, refused}
use Rattle.roles.specs.Cards.{roles_of, is_bad_length}
use Rattle.finding.specs.declared.Stop.{Stop}
use Rattle.finding.specs.declared.Found.{Found}

-- a fault at a card
abbrev pub stop_at : Fault → ℕ → Stop
stop_at f i = record { fault = f; card = i }

-- ---- reading a header

-- the cards from number i on: END stops the reading, a refused card ends it, and 10 comes last, with the number of cards
unfoldable pub header_from : List Role → ℕ → Result ℕ Stop
header_from [] i = Err (stop_at (fault_of R.NoEnd) i)
header_from (entry n v ∷ h) i = header_from h (suc i)
header_from (more t c ∷ h) i = header_from h (suc i)
header_from (neutral ∷ h) i = header_from h (suc i)
header_from (last ∷ h) i = Ok i
header_from (refused f ∷ h) i = Err (stop_at f i)

-- a header of n bytes by the roles of its cards
abbrev pub header_by : ℕ → List Role → Result ℕ Stop
header_by n roles = cond (is_bad_length n) (Err (stop_at (fault_of R.HeaderLength) 0)) (header_from roles 0)

-- a header by its bytes
unfoldable pub header_of : List ℕ → Result ℕ Stop
header_of h = header_by (length h) (roles_of h)

-- ---- finding a name

-- the number of the last card that bears the name, of the cards from number i up to END; or p where there is none
unfoldable pub last_from : List ℕ → List Role → ℕ → Option ℕ → Option ℕ
last_from name [] i p = p
last_from name (entry m v ∷ h) i p = last_from name h (suc i) (cond (same m name) (Some i) p)
last_from name (more t c ∷ h) i p = last_from name h (suc i) p
last_from name (neutral ∷ h) i p = last_from name h (suc i) p
last_from name (last ∷ h) i p = p
last_from name (refused f ∷ h) i p = last_from name h (suc i) p

-- the last card that bears the name
abbrev pub last_of : List ℕ → List Role → Option ℕ
last_of name h = last_from name h 0 None

-- the header's refusal comes first
abbrev pub find_by : Result ℕ Stop → Option ℕ → Result Found Stop
find_by (Err s) p = Err s
find_by (Ok end) p = Ok (record { end = end; last = p })

-- finding a name in a header
unfoldable pub find_of : List ℕ → List ℕ → Result Found Stop
find_of h name = find_by (header_of h) (last_of name (roles_of h))
