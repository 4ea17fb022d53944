-- What is written reads back (SPECIFICATION 16.5).
use Rattle.std.specs.Prelude.{ℕ, ◌*◌, ◌<◌, ◌≤◌, ◌≡◌, Bool, true, false, List, [], ◌∷◌, ◌++◌, map, length, get_or, drop, Ok, None, Some}
use Rattle.text.specs.Bytes.{is_printable, every}
use Rattle.text.specs.Text.{size}
use Rattle.numbers.specs.declared.Value.{Value}
use Rattle.card.specs.declared.CardRead.{CardRead}
use Rattle.card.specs.Cards.{card_of}
use Rattle.roles.specs.Roles.{Comment, Role, entry, more, neutral, last, refused, role_of}
use Rattle.roles.specs.Cards.{cards_in, roles_of}
use Rattle.joining.specs.Lookup.{lookup}
use Rattle.entries.specs.Answers.{given, lookup_of}
use Rattle.entries.specs.Halves.{holds, named}
use Rattle.writing.specs.Written.{written_cards, held_for}
use Rattle.writing.specs.Rules.{is_name, is_writable}
use Rattle.writing.specs.Block.{write_of}
use Rattle.demands.specs.Demands.{IsAccepted}

-- a name, a value and a comment that may be written
pub record MayWrite (name : List ℕ) (v : Value) (text : List ℕ) (c : Comment) : Type 0 where
  pub named : is_name name ≡ true
  pub allowed : is_writable v text c ≡ true

-- ---- the cards themselves

-- a card of 80 printable bytes, which is accepted
pub record IsSound (card : List ℕ) : Type 0 where
  pub whole : length card ≡ size
  pub printable : every is_printable card ≡ true
  pub reading : CardRead
  pub read : card_of card ≡ Ok reading

abbrev pub EachIsSound : Type 0
EachIsSound =
    (name : List ℕ) (v : Value) (text : List ℕ) (c : Comment) → MayWrite name v text c
    → (p : ℕ) → p < length (written_cards v name text c) → IsSound (get_or (written_cards v name text c) p [])

-- there are 1 to 62 of them
abbrev pub most_cards : ℕ
most_cards = 62

abbrev pub FewCards : Type 0
FewCards =
    (name : List ℕ) (v : Value) (text : List ℕ) (c : Comment) → MayWrite name v text c
    → (1 ≤ length (written_cards v name text c)) × (length (written_cards v name text c) ≤ most_cards)

-- where n cards are answered, they are those of what may be written; they stand at the front of the block, and what follows stays
pub record AtFront (name : List ℕ) (v : Value) (text : List ℕ) (c : Comment) (old new : List ℕ) (n : ℕ) : Type 0 where
  pub may : MayWrite name v text c
  pub front : cards_in n new ≡ written_cards v name text c
  pub rest : drop (n * size) new ≡ drop (n * size) old
  pub length-kept : length new ≡ length old

abbrev pub BlockHolds : Type 0
BlockHolds =
    (name : List ℕ) (v : Value) (text : List ℕ) (c : Comment) (block : List ℕ) (n : ℕ)
    → (write_of name v text c block).answer ≡ Ok n → AtFront name v text c block (write_of name v text c block).block n

-- ---- in a header

-- roles without commentary, which neither gives nor closes an entry
unfoldable pub spoken : List Role → List Role
spoken [] = []
spoken (entry n v ∷ h) = entry n v ∷ spoken h
spoken (more t c ∷ h) = more t c ∷ spoken h
spoken (neutral ∷ h) = spoken h
spoken (last ∷ h) = last ∷ spoken h
spoken (refused f ∷ h) = refused f ∷ spoken h

-- no END among them
unfoldable pub goes_on : List Role → Bool
goes_on [] = true
goes_on (entry n v ∷ h) = goes_on h
goes_on (more t c ∷ h) = goes_on h
goes_on (neutral ∷ h) = goes_on h
goes_on (last ∷ h) = false
goes_on (refused f ∷ h) = goes_on h

-- the cards of a name stand in a header in order, before END, with at most commentary between them, and no later card bears the name
pub record StandIn (h name : List ℕ) (cards : List (List ℕ)) : Type 0 where
  pub before : List Role
  pub behind : List Role
  pub order : spoken (roles_of h) ≡ before ++ (map role_of cards ++ behind)
  pub reached : goes_on before ≡ true
  pub latest : lookup name behind ≡ None

-- What is written is answered by the lookup as the same kind, number, digits, text and comment, with any lent buffers.
abbrev pub ReadsBack : Type 0
ReadsBack =
    (name : List ℕ) (v : Value) (text : List ℕ) (c : Comment) → MayWrite name v text c
    → (h : List ℕ) → IsAccepted h → StandIn h name (written_cards v name text c)
    → (lent-text lent-comment : List ℕ) → lookup_of h name lent-text lent-comment ≡ given (Some (held_for v text c)) lent-text lent-comment

-- The header holds for its reader what is written, so each half of the lookup answers it, with its own lent buffer.
abbrev pub HalvesReadBack : Type 0
HalvesReadBack =
    (name : List ℕ) (v : Value) (text : List ℕ) (c : Comment) → MayWrite name v text c
    → (h : List ℕ) → IsAccepted h → StandIn h name (written_cards v name text c) → named h name ≡ holds (held_for v text c)
