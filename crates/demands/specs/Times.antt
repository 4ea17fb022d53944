-- Demand 3 for the number of cards that bear a name. The lookup leaves the number out; it stands here beside it. K's own may differ, as its
-- cards may: an entry and a CONTINUE card in one header, two entries in the other.
use Rattle.std.specs.Prelude.{ℕ, zero, suc, ◌≡◌, refl, true, List, [], ◌∷◌, get_or, None}
use Prim.Native.String.{String}
use Rattle.text.specs.Bytes.{ascii, is_space}
use Rattle.text.specs.Same.{same}
use Rattle.text.specs.Ends.{stem, ends_with}
use Rattle.numbers.specs.declared.Value.TheVariants.{String as Str}
use Rattle.roles.specs.Roles.{Role, entry, more, last}
use Rattle.joining.specs.Words.{ends_open, adds_nothing, join_text, opens, join_words}
use Rattle.joining.specs.Belonging.{effects, belongs}
use Rattle.roles.specs.Cards.{roles_of}
use Rattle.listing.specs.Listing.{list_of}
use Rattle.agreeing.specs.Firsts.{times_borne}
use Rattle.agreeing.specs.Agreeing.{StandsAt}
use Rattle.demands.specs.Demands.{IsAccepted, EqualBut}
use Rattle.demands.specs.Halves.{Isolates, IsolatesToEnd}

-- how often the cards of a header bear a name
abbrev pub times_in : List ℕ → List ℕ → ℕ
times_in h name = times_borne name (roles_of h)

-- any name but K is borne equally often in both headers
abbrev pub TimesIsolation : Type 0
TimesIsolation = Isolates times_in

abbrev pub TimesIsolationToEnd : Type 0
TimesIsolationToEnd = IsolatesToEnd times_in

-- the number at another name's place is kept
abbrev pub TimesKept : Type 0
TimesKept =
    (g h k : List ℕ) (a : IsAccepted g) → IsAccepted h → EqualBut k g h a.end
    → (name : List ℕ) → (name ≡ k → ⊥) → (i j : ℕ) → StandsAt g name i → StandsAt h name j
    → get_or (list_of g).times i 0 ≡ get_or (list_of h).times j 0

-- ---- why K itself is left out: the same places are K's in both of these, and it is borne once in the one and twice in the other

abbrev pub key : List ℕ
key = ascii "K"

abbrev pub key_entry : String → Role
key_entry t =
    entry key (record { value = Str; digits = []; words = record { text = ascii t; comment = None; joins = true } })

-- K = 'a&', then CONTINUE 'b' or K = 'b', then END
abbrev pub key_once : List Role
key_once = key_entry "a&" ∷ more (ascii "b") None ∷ last ∷ []

abbrev pub key_twice : List Role
key_twice = key_entry "a&" ∷ key_entry "b" ∷ last ∷ []

pub key-places : (p : ℕ) → belongs key key_once p ≡ belongs key key_twice p
unfolding effects opens ends_open stem ends_with join_words join_text adds_nothing is_space same
key-places zero = refl
key-places (suc zero) = refl
key-places (suc (suc zero)) = refl
key-places (suc (suc (suc p))) = refl

pub key-times : times_borne key key_once ∷ times_borne key key_twice ∷ [] ≡ 1 ∷ 2 ∷ []
unfolding times_borne same
key-times = refl
