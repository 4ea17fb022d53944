-- Demands 2 and 3 for the two halves of a lookup: the value with its text, and the comment, each with its own lent buffer.
use Rattle.std.specs.Prelude.{ℕ, ◌≡◌, Bool, true, false, ◌||◌, List, [], eqb, ltb, length, get_or, Result, Err, Ok}
use Rattle.refusal.specs.Numbers.{number_of}
use Rattle.roles.specs.Cards.{cards_of}
use Rattle.numbers.specs.declared.Value.{Value}
use Rattle.entries.specs.declared.NoEntry.{NoEntry}
use Rattle.entries.specs.declared.NoEntry.TheVariants as N
use Rattle.entries.specs.Answers.{LookupOutcome, left_by, lookup_of, entry_of}
use Rattle.entries.specs.Halves.{ValueOutcome, CommentOutcome, value_named, value_numbered, comment_named, comment_numbered}
use Rattle.listing.specs.Listing.{list_of, place_of_value, place_of_comment}
use Rattle.agreeing.specs.Agreeing.{StandsAt}
use Rattle.demands.specs.Demands.{IsAccepted, is_of, EqualBut}

-- ---- demand 2: the pair of halves is the old answer

-- the answer is 13
abbrev pub is_short : Result Value NoEntry → Bool
is_short (Ok v) = false
is_short (Err (N.Header s)) = false
is_short (Err (N.Refused f)) = eqb (number_of f.why) 13

abbrev pub is_comment_short : Result Bool NoEntry → Bool
is_comment_short (Ok there) = false
is_comment_short (Err (N.Header s)) = false
is_comment_short (Err (N.Refused f)) = eqb (number_of f.why) 13

-- there is a comment
abbrev pub says_there : Result Bool NoEntry → Bool
says_there (Ok there) = there
says_there (Err (N.Header s)) = false
says_there (Err (N.Refused f)) = false

-- the two halves read as one answer, with both buffers
abbrev pub pair_of : ValueOutcome → CommentOutcome → LookupOutcome
pair_of v c =
    left_by
    (record {
      answer = v.answer.answer;
      digits = v.answer.digits;
      commented = says_there c.answer.answer;
      text = v.answer.text;
      comment = c.answer.comment;
    })
    v.text c.comment

-- the halves of what is answered with both buffers at once
pub record Halves
    (both : List ℕ → List ℕ → LookupOutcome) (value : List ℕ → ValueOutcome) (comment : List ℕ → CommentOutcome) : Type 0 where
  -- where neither gives 13 the pair is that answer, with the same bytes left
  pub paired : (text lent : List ℕ) → is_short (value text).answer.answer ≡ false
      → is_comment_short (comment lent).answer.answer ≡ false → pair_of (value text) (comment lent) ≡ both text lent
  -- that answer is 13 exactly where one of them gives 13
  pub short : (text lent : List ℕ)
      → is_short (both text lent).answer.answer
      ≡ (is_short (value text).answer.answer || is_comment_short (comment lent).answer.answer)
  -- the room beside 13 is what is wanted: another buffer is too short exactly where it is shorter than that
  pub text_room_lem : (text again : List ℕ) → is_short (value text).answer.answer ≡ true
      → is_short (value again).answer.answer ≡ ltb (length again) (value text).answer.text
  pub comment-room : (lent again : List ℕ) → is_comment_short (comment lent).answer.answer ≡ true
      → is_comment_short (comment again).answer.answer ≡ ltb (length again) (comment lent).answer.comment

-- of a name, and of the entry at card i
abbrev pub LookupHalves : Type 0
LookupHalves = (h name : List ℕ) → Halves (lookup_of h name) (value_named h name) (comment_named h name)

abbrev pub EntryHalves : Type 0
EntryHalves = (h : List ℕ) (i : ℕ) → Halves (entry_of h i) (value_numbered h i) (comment_numbered h i)

-- ---- demand 3, of whatever a header answers a name

abbrev pub Isolates : {A : Type 0} → (List ℕ → List ℕ → A) → Type 0
Isolates answer =
    (g h k : List ℕ) → IsAccepted g → IsAccepted h → length (cards_of g) ≡ length (cards_of h)
    → ((p : ℕ) → is_of k g p ≡ is_of k h p)
    → ((p : ℕ) → is_of k g p ≡ false → get_or (cards_of g) p [] ≡ get_or (cards_of h) p [])
    → (name : List ℕ) → (k ≡ name → ⊥) → answer g name ≡ answer h name

-- each half with its own buffer: the same answer, and the same bytes left
abbrev pub ValueIsolation : Type 0
ValueIsolation = (text : List ℕ) → Isolates (λ (h name : List ℕ). value_named h name text)

abbrev pub CommentIsolation : Type 0
CommentIsolation = (comment : List ℕ) → Isolates (λ (h name : List ℕ). comment_named h name comment)

-- the stronger form: the cards behind END need not be equal nor equally many
abbrev pub IsolatesToEnd : {A : Type 0} → (List ℕ → List ℕ → A) → Type 0
IsolatesToEnd answer =
    (g h k : List ℕ) (a : IsAccepted g) → IsAccepted h → EqualBut k g h a.end
    → (name : List ℕ) → (k ≡ name → ⊥) → answer g name ≡ answer h name

abbrev pub ValueIsolationToEnd : Type 0
ValueIsolationToEnd = (text : List ℕ) → IsolatesToEnd (λ (h name : List ℕ). value_named h name text)

abbrev pub CommentIsolationToEnd : Type 0
CommentIsolationToEnd = (comment : List ℕ) → IsolatesToEnd (λ (h name : List ℕ). comment_named h name comment)

-- the entry at another name's place keeps either half of its reading
abbrev pub KeepsAtPlace : {A : Type 0} → (List ℕ → List ℕ → ℕ → A) → Type 0
KeepsAtPlace answer =
    (g h k : List ℕ) (a : IsAccepted g) → IsAccepted h → EqualBut k g h a.end
    → (name : List ℕ) → (name ≡ k → ⊥) → (i j : ℕ) → StandsAt g name i → StandsAt h name j
    → answer g (list_of g).last i ≡ answer h (list_of h).last j

abbrev pub ValuesKept : Type 0
ValuesKept = (text : List ℕ) → KeepsAtPlace (λ (h lasts : List ℕ) (k : ℕ). place_of_value h lasts k text)

abbrev pub CommentsKept : Type 0
CommentsKept = (comment : List ℕ) → KeepsAtPlace (λ (h lasts : List ℕ) (k : ℕ). place_of_comment h lasts k comment)
