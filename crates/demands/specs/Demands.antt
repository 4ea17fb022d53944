-- The three demands.
--
-- 1. Every header, name, tile and buffer, however damaged, gets an answer that ends. No public function has a `requires`, and a
--    check proves of each that it returns and stays within its slices: `entries::lookup_value`, `entries::lookup_comment`,
--    `entries::value_at`, `entries::comment_at`, `card::read_card`, `rice::decode` and the others that docs/PROMISES.md lists.
-- 2. Each answer, and each lent buffer after it, is a definition's. A lookup has two halves, with `valueNamed` and `commentNamed` for
--    them (crates/entries/specs/Halves.antt); the contract of each is one equation for the answer and the buffer. `Halves` beside this
--    file says that the pair of them is `lookupOf`, the answer with both buffers at once. `Columns` says that the column of a refusal
--    stands beside the answer and changes nothing of it.
-- 3. Isolation, stated here over `lookupOf`, and in `Halves` of each half: no card of K touches what another name is answered, nor the
--    names of the list and their order, nor, as `Times` says, how many cards bear another name.
use Rattle.std.specs.Prelude.{ℕ, ◌≤◌, ◌≡◌, Bool, false, List, [], length, get_or, Ok}
use Rattle.joining.specs.Belonging.{belongs}
use Rattle.roles.specs.Cards.{cards_of, roles_of}
use Rattle.finding.specs.Finding.{header_of}
use Rattle.entries.specs.Answers.{lookup_of}
use Rattle.listing.specs.Listing.{list_of, place_of_entry}
use Rattle.agreeing.specs.Agreeing.{StandsAt, names_listed}

-- the header h is accepted: its END stands at some card
pub record IsAccepted (h : List ℕ) : Type 0 where
  pub end : ℕ
  pub accepted : header_of h ≡ Ok end

-- the card at place p bears K's entry, or is a CONTINUE card joined to such an entry
abbrev pub is_of : List ℕ → List ℕ → ℕ → Bool
is_of k h p = belongs k (roles_of h) p

-- Take two accepted headers of equally many cards and a name K. If the same places belong to K in both, and all other cards are equal
-- byte for byte, then looking up any other name with the same lent buffers gives the same answer and leaves the same bytes.
abbrev pub Isolation : Type 0
Isolation =
    (g h k : List ℕ) → IsAccepted g → IsAccepted h → length (cards_of g) ≡ length (cards_of h)
    → ((p : ℕ) → is_of k g p ≡ is_of k h p)
    → ((p : ℕ) → is_of k g p ≡ false → get_or (cards_of g) p [] ≡ get_or (cards_of h) p [])
    → (name : List ℕ) → (k ≡ name → ⊥)
    → (text comment : List ℕ) → lookup_of g name text comment ≡ lookup_of h name text comment

-- ---- the cards behind END, which are not looked at, need not be equal nor equally many

-- up to END the same places belong to K in both headers, and all other cards are equal byte for byte
pub record EqualBut (k g h : List ℕ) (end : ℕ) : Type 0 where
  pub places : (p : ℕ) → p ≤ end → is_of k g p ≡ is_of k h p
  pub cards : (p : ℕ) → p ≤ end → is_of k g p ≡ false → get_or (cards_of g) p [] ≡ get_or (cards_of h) p []

-- the stronger form: two accepted headers that are equal but for K up to the first one's END
abbrev pub IsolationToEnd : Type 0
IsolationToEnd =
    (g h k : List ℕ) (a : IsAccepted g) → IsAccepted h → EqualBut k g h a.end
    → (name : List ℕ) (other : k ≡ name → ⊥) (text comment : List ℕ)
    → lookup_of g name text comment ≡ lookup_of h name text comment

-- ---- the list of names

-- the list has the same names in the same order
abbrev pub OrderKept : Type 0
OrderKept =
    (g h k : List ℕ) (a : IsAccepted g) → IsAccepted h → EqualBut k g h a.end → names_listed g ≡ names_listed h

-- the entry at another name's place, with the same lent buffers, keeps its reading
abbrev pub ReadingsKept : Type 0
ReadingsKept =
    (g h k : List ℕ) (a : IsAccepted g) → IsAccepted h → EqualBut k g h a.end
    → (name : List ℕ) → (name ≡ k → ⊥) → (i j : ℕ) → StandsAt g name i → StandsAt h name j
    → (text comment : List ℕ)
    → place_of_entry g (list_of g).last i text comment ≡ place_of_entry h (list_of h).last j text comment
