-- Written cards in the places of a name's old ones (SPECIFICATION 16.6).
use Rattle.std.specs.Prelude.{ℕ, ◌<◌, ◌≡◌, Bool, true, false, cond, List, [], ◌∷◌, map, length, get_or, Some}
use Rattle.numbers.specs.declared.Value.{Value}
use Rattle.roles.specs.Roles.{Comment, neutral}
use Rattle.roles.specs.Cards.{cards_of, roles_of, role_no}
use Rattle.joining.specs.Belonging.{idle, effects, bears}
use Rattle.entries.specs.Answers.{given, lookup_of}
use Rattle.entries.specs.Halves.{holds, named}
use Rattle.agreeing.specs.Firsts.{times_borne}
use Rattle.writing.specs.Written.{written_cards, held_for}
use Rattle.demands.specs.Demands.{IsAccepted, is_of}
use Rattle.rereading.specs.ReadsBack.{MayWrite}

-- the cards at the places that are marked
unfoldable pub chosen : List Bool → List (List ℕ) → List (List ℕ)
chosen [] cards = []
chosen (m ∷ marks) [] = []
chosen (m ∷ marks) (c ∷ cards) = cond m (c ∷ chosen marks cards) (chosen marks cards)

-- marks at the places of a header that belong to K
abbrev pub marks_of : List ℕ → List ℕ → List Bool
marks_of k h = map (bears k) (effects idle (roles_of h))

-- the header h is g, but that new cards stand in the places that belong to K, equally many and in their order
pub record Replaces (k g h : List ℕ) (new : List (List ℕ)) : Type 0 where
  pub long : length h ≡ length g
  pub kept : (p : ℕ) → is_of k g p ≡ false → get_or (cards_of h) p [] ≡ get_or (cards_of g) p []
  pub taken : chosen (marks_of k g) (cards_of h) ≡ new

-- between two places of K stand only cards of K and commentary: no value, HIERARCH, XTENSION or CONTINUE card of another name or of none
pub record Together (k g : List ℕ) : Type 0 where
  pub between : (p q r : ℕ) → p < q → q < r → is_of k g p ≡ true → is_of k g r ≡ true
      → is_of k g q ≡ false → role_no g q ≡ neutral

-- what is certain then: the new header is accepted, the same places belong to K, every other name is answered as before with the same
-- lent buffers, and K is answered as it was written; these two also by what the headers hold for their reader, which gives both halves
-- of the lookup, each with its own lent buffer; and as many cards as before bear every other name, and one bears K
pub record IsReplaced (k : List ℕ) (v : Value) (text : List ℕ) (c : Comment) (g h : List ℕ) : Type 0 where
  pub accepted : IsAccepted h
  pub places : (p : ℕ) → is_of k g p ≡ is_of k h p
  pub others : (name : List ℕ) → (k ≡ name → ⊥)
      → (lent-text lent-comment : List ℕ) → lookup_of g name lent-text lent-comment ≡ lookup_of h name lent-text lent-comment
  pub back : (lent-text lent-comment : List ℕ)
      → lookup_of h k lent-text lent-comment ≡ given (Some (held_for v text c)) lent-text lent-comment
  pub others-named : (name : List ℕ) → (k ≡ name → ⊥) → named g name ≡ named h name
  pub back-named : named h k ≡ holds (held_for v text c)
  pub others-times : (name : List ℕ) → (k ≡ name → ⊥) → times_borne name (roles_of g) ≡ times_borne name (roles_of h)
  pub once : times_borne k (roles_of h) ≡ 1

-- Where written cards take the places of the name's old ones, which stand together, demand 3 holds for every other name and the name
-- reads back.
abbrev pub Replacing : Type 0
Replacing =
    (k : List ℕ) (v : Value) (text : List ℕ) (c : Comment) → MayWrite k v text c
    → (g h : List ℕ) → IsAccepted g → Together k g → Replaces k g h (written_cards v k text c) → IsReplaced k v text c g h
