-- What the list says of how many cards bear a name (SPECIFICATION 11).
use Rattle.std.specs.Prelude.{ℕ, suc, ◌+◌, ◌<◌, ◌≤◌, ◌≡◌, List, [], ◌∷◌, get_or, Err, Ok, Result}
use Rattle.card.specs.declared.Card.TheVariants as C
use Rattle.card.specs.declared.CardRead.{CardRead}
use Rattle.card.specs.Cards.{card_of}
use Rattle.roles.specs.Cards.{cards_of, roles_of}
use Rattle.finding.specs.Finding.{header_of}
use Rattle.listing.specs.Listing.{places, free, list_of}
use Rattle.agreeing.specs.Firsts.{times_borne}
use Rattle.agreeing.specs.Agreeing.{StandsAt, StandsIn}
use Rattle.card.specs.declared.Card.{Card}
use Rattle.refusal.specs.declared.Fault.{Fault}

-- ---- all of them, counted from the cards

-- a value, HIERARCH or XTENSION card before the n that follow it; END is the last card that is looked at
abbrev pub and_card : Card → ℕ → ℕ
and_card (C.Value v) n = suc n
and_card (C.Hierarch v) n = suc n
and_card C.Xtension n = suc n
and_card C.Continuation n = n
and_card C.Comment n = n
and_card C.History n = n
and_card C.Space n = n
and_card C.Undefined n = n
and_card C.End n = 0

-- a refused card is none of them
abbrev pub and_read : Result CardRead Fault → ℕ → ℕ
and_read (Ok r) n = and_card r.card n
and_read (Err f) n = n

-- how many value, HIERARCH and XTENSION cards stand before END
unfoldable pub bearers_in : List (List ℕ) → ℕ
bearers_in [] = 0
bearers_in (c ∷ cards) = and_read (card_of c) (bearers_in cards)

unfoldable pub sum_of : List ℕ → ℕ
sum_of [] = 0
sum_of (n ∷ l) = n + sum_of l

-- the numbers at all places of the list add up to them
abbrev pub AddUp : Type 0
AddUp = (h : List ℕ) (end : ℕ) → header_of h ≡ Ok end → sum_of (list_of h).times ≡ bearers_in (cards_of h)

-- ---- each of them

-- the number at a name's place is how often an entry bears it
abbrev pub TimesAtPlace : Type 0
TimesAtPlace =
    (h : List ℕ) (end : ℕ) → header_of h ≡ Ok end
    → (name : List ℕ) (k : ℕ) → StandsAt h name k → get_or (list_of h).times k 0 ≡ times_borne name (roles_of h)

-- a name that stands in the list is borne once or more, and any other never
abbrev pub SomeBear : Type 0
SomeBear =
    (h : List ℕ) (end : ℕ) → header_of h ≡ Ok end
    → (name : List ℕ) → StandsIn h name → 0 < times_borne name (roles_of h)

abbrev pub NoneBear : Type 0
NoneBear =
    (h : List ℕ) (end : ℕ) → header_of h ≡ Ok end
    → (name : List ℕ) → (StandsIn h name → ⊥) → times_borne name (roles_of h) ≡ 0

-- free places hold 0, whatever the header is
abbrev pub FreeHoldNone : Type 0
FreeHoldNone = (h : List ℕ) (k : ℕ) → (list_of h).count ≤ k → k < places → get_or (list_of h).times k free ≡ 0
