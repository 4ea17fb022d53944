-- A header's bytes as its cards (SPECIFICATION 1).
use Rattle.std.specs.Prelude.{ℕ, zero, suc, ◌*◌, ◌/◌, ◌%◌, Bool, cond, ◌||◌, not}
use Rattle.std.specs.Prelude.{List, [], ◌∷◌, map, eqb, ltb, length, take, drop, replicate, Result}
use Prim.Native.Char.{code}
use Rattle.refusal.specs.declared.Fault.{Fault}
use Rattle.card.specs.declared.CardRead.{CardRead}
use Rattle.card.specs.Cards.{card_of}
use Rattle.roles.specs.Roles.{Role, role_of}

-- the first n pieces of 80 bytes
unfoldable pub cards_in : ℕ → List ℕ → List (List ℕ)
cards_in zero h = []
cards_in (suc n) h = take 80 h ∷ cards_in n (drop 80 h)

-- the cards of a header
abbrev pub cards_of : List ℕ → List (List ℕ)
cards_of h = cards_in (length h / 80) h

-- card i, and what it is to the header
abbrev pub card_no : List ℕ → ℕ → List ℕ
card_no h i = take 80 (drop (i * 80) h)

abbrev pub role_no : List ℕ → ℕ → Role
role_no h i = role_of (card_no h i)

-- what each card is to the header
abbrev pub roles_of : List ℕ → List Role
roles_of h = map role_of (cards_of h)

-- 0, not a multiple of 80, or above 57,600
unfoldable pub is_bad_length : ℕ → Bool
is_bad_length n = eqb n 0 || (not (eqb (n % 80) 0) || ltb 57600 n)

-- the number of cards: none where the length is bad
unfoldable pub card_count : ℕ → ℕ
card_count n = cond (is_bad_length n) 0 (n / 80)

-- the card with number i; one that the header lacks is blank
unfoldable pub card_at : List ℕ → ℕ → Result CardRead Fault
card_at h i = cond (ltb i (length h / 80)) (card_of (card_no h i)) (card_of (replicate 80 (code " ")))
