-- Keys of names, which are compared in place of the names, and the places of a table in the order of their keys.
use Rattle.std.specs.Prelude.{ℕ, zero, suc, ◌+◌, ◌*◌, ◌%◌, ◌<◌, ◌≤◌, ◌≡◌, Bool, true, None, Option, Some}
use Rattle.std.specs.Prelude.{false, cond, List, [], ◌∷◌, eqb, ltb, length, get_or, set, take, drop}
use Rattle.std.proofs.lemmas.List.Edits.{sets}
use Rattle.text.specs.Same.{same}
use Rattle.card.specs.Keywords.{first_high}
use Rattle.roles.specs.declared.Role.{Role}
use Rattle.roles.specs.declared.Role.TheVariants.{Entry, More, Neutral, Last}
use Rattle.listing.specs.Listing.{places}

-- a card is an entry, by its role
abbrev pub is_entry : Role → Bool
is_entry (Entry v joins) = true
is_entry More = false
is_entry Neutral = false
is_entry Last = false

-- ---- keys
-- the bytes of a word, and the words of a key
abbrev pub bytes_of_word : ℕ
bytes_of_word = 9

abbrev pub words_of_key : ℕ
words_of_key = 9

-- bytes of ASCII as the digits of a number, the first lowest: a digit is a byte + 1, and 0 is no byte
unfoldable pub word_of : List ℕ → ℕ
word_of [] = 0
word_of (b ∷ s) = word_of s * (first_high + 1) + b % first_high + 1

-- the first n words of a name
unfoldable pub first_words : ℕ → List ℕ → List ℕ
first_words zero s = []
first_words (suc n) s = word_of (take bytes_of_word s) ∷ first_words n (drop bytes_of_word s)

-- the key of a name
abbrev pub key_of : List ℕ → List ℕ
key_of s = first_words words_of_key s

-- a key comes before another by the first word in which they differ
unfoldable pub is_before : List ℕ → List ℕ → Bool
is_before [] t = false
is_before (a ∷ s) [] = false
is_before (a ∷ s) (b ∷ t) = cond (eqb a b) (is_before s t) (ltb a b)

-- ---- the places of a table
-- the key of place k
abbrev pub row_at : List ℕ → ℕ → List ℕ
row_at keys k = take words_of_key (drop (k * words_of_key) keys)

-- the key of the place that has number j in the order
abbrev pub row_in : List ℕ → List ℕ → ℕ → List ℕ
row_in keys order j = row_at keys (get_or order j 0)

-- the place, of n from k on, that has the key
unfoldable pub key_place : List ℕ → List ℕ → ℕ → ℕ → Option ℕ
key_place key keys zero k = None
key_place key keys (suc n) k = cond (same (row_at keys k) key) (Some k) (key_place key keys n (suc k))

-- place k has a number in the order
pub record Numbered (order : List ℕ) (count k : ℕ) : Type 0 where
  pub number : ℕ
  pub below : number < count
  pub there : get_or order number 0 ≡ k

-- the first count places in the order of their keys, which differ
pub record Ordered (keys order : List ℕ) (count : ℕ) : Type 0 where
  pub few : count ≤ places
  pub keys_long : length keys ≡ places * words_of_key
  pub order-long : length order ≡ places
  pub within : (j : ℕ) → j < count → get_or order j 0 < count
  pub numbered : (k : ℕ) → k < count → Numbered order count k
  pub rising : (j : ℕ) → j < count → (i : ℕ) → i < j → is_before (row_in keys order i) (row_in keys order j) ≡ true

-- the places with numbers below `at` come before the key that stands behind all places, and the others do not
pub record Parted (keys order : List ℕ) (count at : ℕ) : Type 0 where
  pub within : at ≤ count
  pub lower : (j : ℕ) → j < at → is_before (row_in keys order j) (row_at keys count) ≡ true
  pub upper : (j : ℕ) → at ≤ j → j < count → is_before (row_in keys order j) (row_at keys count) ≡ false

-- a place was put at a number, and the later ones of the first n moved up by one
pub record Slid (order : List ℕ) (at n place : ℕ) (then : List ℕ) : Type 0 where
  pub long : length then ≡ length order
  pub lower : (j : ℕ) → j < at → get_or then j 0 ≡ get_or order j 0
  pub here : get_or then at 0 ≡ place
  pub upper : (j : ℕ) → at ≤ j → j < n → get_or then (j + 1) 0 ≡ get_or order j 0

-- ---- an entry put into a table
-- the table has a free place, and no more cards bear a name than there are places
pub record Ready (count : ℕ) (first last times keys order : List ℕ) : Type 0 where
  pub ordered : Ordered keys order count
  pub first-long : length first ≡ places
  pub last-long : length last ≡ places
  pub times_long : length times ≡ places
  pub few-times : (k : ℕ) → get_or times k 0 ≤ places
  pub room : count < places

-- the number of names, with the first and the last card of each, and how many cards bear it
pub record Arrays : Type 0 where
  pub names : ℕ
  pub first : List ℕ
  pub last : List ℕ
  pub times : List ℕ

abbrev pub arrays_by : ℕ → List ℕ → List ℕ → List ℕ → Arrays
arrays_by n first last times = record { names = n; first = first; last = last; times = times }

-- card i as the last of the name at a place, or as the first and last of a name behind the others
abbrev pub arrays_at : Option ℕ → ℕ → ℕ → List ℕ → List ℕ → List ℕ → Arrays
arrays_at (Some k) i count first last times = arrays_by count first (set last k i) (set times k (get_or times k 0 + 1))
arrays_at None i count first last times = arrays_by (count + 1) (set first count i) (set last count i) (set times count 1)

-- the entry of card i was put at the place of its name's key, which stands behind the places, and they are in order
pub record Entered (name : List ℕ) (i count : ℕ) (first last times keys : List ℕ) (then : Arrays)
    (keys₁ order₁ : List ℕ) : Type 0 where
  pub put : then ≡ arrays_at (key_place (key_of name) keys count 0) i count first last times
  pub rows : keys₁ ≡ sets keys (count * words_of_key) (key_of name)
  pub ordered : Ordered keys₁ order₁ then.names
