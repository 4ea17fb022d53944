-- What a name is answered by the cards of a header (SPECIFICATION 9 and 10).
use Rattle.std.specs.Prelude.{ℕ, Bool, cond, List, [], ◌∷◌, Option, None, Some}
use Rattle.text.specs.Same.{same}
use Rattle.roles.specs.Roles.{Comment, Words, Held, Role, entry, more, neutral, last, refused}
use Rattle.joining.specs.Words.{opens, join_words}

-- words with the CONTINUE cards joined to them that follow: those that come while they are open, before another entry
unfoldable pub join_on : Words → List Role → Words
join_on w [] = w
join_on w (entry n v ∷ h) = w
join_on w (more t c ∷ h) = cond (opens w) (join_on (join_words w t c) h) w
join_on w (neutral ∷ h) = join_on w h
join_on w (last ∷ h) = w
join_on w (refused f ∷ h) = join_on w h

-- the same of what an entry holds
abbrev pub is_open : Held → Bool
is_open v = opens v.words

abbrev pub joined : Held → List ℕ → Comment → Held
joined v t c = record { value = v.value; digits = v.digits; words = join_words v.words t c }

abbrev pub whole : Held → List Role → Held
whole v h = record { value = v.value; digits = v.digits; words = join_on v.words h }

-- the first answer that there is
abbrev pub or_else : Option Held → Option Held → Option Held
or_else (Some v) w = Some v
or_else None w = w

abbrev pub if_same : List ℕ → List ℕ → Held → Option Held
if_same m n v = cond (same m n) (Some v) None

-- of equal names the last entry counts, and nothing behind END does
unfoldable pub lookup : List ℕ → List Role → Option Held
lookup n [] = None
lookup n (entry m v ∷ h) = or_else (lookup n h) (if_same m n (whole v h))
lookup n (more t c ∷ h) = lookup n h
lookup n (neutral ∷ h) = lookup n h
lookup n (last ∷ h) = None
lookup n (refused f ∷ h) = lookup n h
