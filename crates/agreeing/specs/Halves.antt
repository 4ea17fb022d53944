-- The list of a header's names agrees with both halves of a lookup, each with its own lent buffer. A half is given by what the header
-- holds for its reader, `named` for a name and `numbered` for a card, so that one equation between these serves both.
use Rattle.std.specs.Prelude.{ℕ, ◌≤◌, ◌≡◌, List, drop, Err, Ok}
use Rattle.roles.specs.Cards.{roles_of}
use Rattle.finding.specs.declared.Stop.{Stop}
use Rattle.finding.specs.Finding.{header_of}
use Rattle.entries.specs.Answers.{entry_head}
use Rattle.entries.specs.Halves.{stops, missing, held_in, named, numbered, value_named, comment_named}
use Rattle.listing.specs.Listing.{list_of, place_of_value, place_of_comment}
use Rattle.agreeing.specs.Agreeing.{StandsAt, StandsIn}

-- the entry at a name's place is what the name is answered, by either half: the answer and the bytes left in the buffer
abbrev pub ValueAgreement : Type 0
ValueAgreement =
    (h : List ℕ) (end : ℕ) → header_of h ≡ Ok end → (name : List ℕ) (k : ℕ) → StandsAt h name k
    → (text : List ℕ) → place_of_value h (list_of h).last k text ≡ value_named h name text

abbrev pub CommentAgreement : Type 0
CommentAgreement =
    (h : List ℕ) (end : ℕ) → header_of h ≡ Ok end → (name : List ℕ) (k : ℕ) → StandsAt h name k
    → (comment : List ℕ) → place_of_comment h (list_of h).last k comment ≡ comment_named h name comment

-- a name that stands nowhere in the list is missing, and only such a name is: both halves give 12
abbrev pub MissingNamed : Type 0
MissingNamed =
    (h : List ℕ) (end : ℕ) → header_of h ≡ Ok end → (name : List ℕ) → (StandsIn h name → ⊥) → named h name ≡ missing

abbrev pub OnlyMissingNamed : Type 0
OnlyMissingNamed =
    (h : List ℕ) (end : ℕ) → header_of h ≡ Ok end → (name : List ℕ) → named h name ≡ missing → StandsIn h name → ⊥

-- a refused header is refused by both halves, at the same card
abbrev pub RefusedNamed : Type 0
RefusedNamed = (h : List ℕ) (s : Stop) → header_of h ≡ Err s → (name : List ℕ) → named h name ≡ stops s

-- up to END of an accepted header an entry by its card meets no refused card
abbrev pub UnmetNumbered : Type 0
UnmetNumbered =
    (h : List ℕ) (end : ℕ) → header_of h ≡ Ok end → (i : ℕ) → i ≤ end
    → numbered h i ≡ held_in (entry_head (drop i (roles_of h)))
