-- The entry at a card's number, by what the card is: an open string, another entry, or none.
use Rattle.std.specs.Prelude.{Err, Ok, Option, None, Some}
use Prim.Native.Nat.{ℕ, suc, ◌+◌, ◌/◌, ◌<◌, ◌≤◌}
use mathlib.Core.Path.{◌≡◌, refl, sym, ap, ◌∙◌}
use mathlib.Core.Bool.{Bool, true, false, cond, true≢false, ◌&&◌}
use mathlib.Core.List.{List, [], ◌∷◌}
use lib.ListN.{length, drop}
use Rattle.laws.proofs.Truths.{and_both, and_false}
use Rattle.text.specs.Text.{bytes_of}
use Rattle.text.specs.Ends.{ends_with}
use Rattle.numbers.specs.declared.Value.{Value}
use Rattle.numbers.specs.declared.Value.TheVariants as Val
use Rattle.card.specs.declared.Card.TheVariants as C
use Rattle.card.specs.declared.CardRead.{CardRead}
use Rattle.card.specs.Cards.{card_of}
use Rattle.roles.specs.declared.Role.{Role as Told}
use Rattle.roles.specs.declared.Role.TheVariants.{Entry, More, Neutral, Last}
use Rattle.roles.specs.Roles.{Words, Held, Role, refused, has_text, is_string, words_in, held_of, role_by, role_in, role_read}
use Rattle.roles.specs.Cards.{card_no, role_no, roles_of}
use Rattle.roles.proofs.Cards.{roles_from}
use Rattle.joining.specs.Words.{ends_open, opens}
use Rattle.joining.specs.Lookup.{join_on}
use Rattle.joining.proofs.Answers.{join_on_shut}
use Rattle.finding.specs.declared.Stop.{Stop}
use Rattle.finding.specs.Finding.{stop_at}
use Rattle.entries.specs.declared.Reach.{Reach}
use Rattle.entries.specs.declared.Reach.TheVariants.{On, Ended, Met}
use Rattle.entries.specs.Answers.{met_on}
use Rattle.entries.specs.Halves.{Sought, stops, missing, holds, unless_stopped, numbered_from}
use Rattle.entries.specs.Passes.{words_of, words_at, joined_words, met_at, string_at, stop_in, IsOpenAt, BeginsWith}
use Rattle.entries.proofs.Joining.{met_shut}
use Rattle.card.specs.declared.Card.{Card}
use Rattle.refusal.specs.declared.Fault.{Fault}

-- ---- an entry that may be continued is a string
value-string : (v : Value) → is_string v ≡ true → v ≡ Val.String
value-string (Val.Integer z) e = absurd (true≢false (sym e))
value-string (Val.Float minus size) e = absurd (true≢false (sym e))
value-string (Val.Logical t) e = absurd (true≢false (sym e))
value-string Val.String e = refl
value-string Val.Undefined e = absurd (true≢false (sym e))
value-string Val.Invalid e = absurd (true≢false (sym e))

entry-string : (u v : Value) (joins : Bool) → Entry u (is_string u) ≡ Entry v joins → joins ≡ true → v ≡ Val.String
entry-string u v joins e d =
    let same : u ≡ v = cc in
    let is : is_string u ≡ joins = cc in
    value-string v (sym (ap is_string same) ∙ is ∙ d)

joins-string : (a : Card) (v : Value) (joins : Bool) → role_by a ≡ Entry v joins → joins ≡ true → v ≡ Val.String
joins-string (C.Value u) v joins e d = entry-string u v joins e d
joins-string (C.Hierarch u) v joins e d = entry-string u v joins e d
joins-string C.Xtension v joins e d = cc
joins-string C.Continuation v joins e d = cc
joins-string C.Comment v joins e d = cc
joins-string C.History v joins e d = cc
joins-string C.Space v joins e d = cc
joins-string C.End v joins e d = cc
joins-string C.Undefined v joins e d = cc

-- ---- an entry is open where its text is
empty_shut : ends_open [] ≡ false
unfolding ends_open ends_with
empty_shut = refl

own_shut : (v : Value) (joins : Bool) (p : CardRead) → (joins && ends_open (bytes_of p.text)) ≡ false → opens (words_in v joins p) ≡ false
unfolding opens
own_shut v joins p e = go (has_text v)
  where
    go : (t : Bool) → (joins && ends_open (cond t (bytes_of p.text) [])) ≡ false
    go true = e
    go false = and_false joins (ends_open []) empty_shut

own_open : (joins : Bool) (p : CardRead) → (joins && ends_open (bytes_of p.text)) ≡ true → opens (words_in Val.String joins p) ≡ true
unfolding opens
own_open joins p e = e

-- ---- what stands at a card
-- the role of a card that is read is that of its number
pub role_told : (h : List ℕ) (i : ℕ) (p : CardRead) → Ok p ≡ card_of (card_no h i) → (t : Told) → t ≡ role_by p.card
    → role_in t p ≡ role_no h i
role_told h i p is t e = ap (λ (x : Told). role_in x p) e ∙ ap role_read is

pub role-refused : (h : List ℕ) (i : ℕ) (f : Fault) → Err f ≡ card_of (card_no h i) → refused f ≡ role_no h i
role-refused h i f is = ap role_read is

abbrev string_by : Role → List Role → ℕ → Sought
string_by r rest i =
    unless_stopped (met_on (words_of r) rest (suc i)) (Some (record { value = Val.String; digits = []; words = join_on (words_of r) rest }))

-- an open string with the cards that are joined to it, by how far joining came
module _ (h : List ℕ) (i : ℕ) (r : Reach) (met : stop_in r ≡ met_at h i) where
  pub string_unmet : ((s : Stop) → r ≡ Met s → ⊥) → met_at h i ≡ None
  string_unmet o = sym met ∙ go r o
    where
      go : (r : Reach) → ((s : Stop) → r ≡ Met s → ⊥) → stop_in r ≡ None
      go On o = refl
      go Ended o = refl
      go (Met s) o = absurd (o s refl)

  abbrev string_or : Option Stop → Sought
  string_or m = unless_stopped m (Some (record { value = Val.String; digits = []; words = joined_words h i }))

  pub string-whole : ((s : Stop) → r ≡ Met s → ⊥)
      → string_at h i ≡ holds (record { value = Val.String; digits = []; words = joined_words h i })
  string-whole o = ap string_or (string_unmet o)

  pub string-met : (s : Stop) → r ≡ Met s → string_at h i ≡ stops s
  string-met s e = ap string_or (sym met ∙ ap stop_in e)

-- ---- what stands at a card's number
-- a refused card
pub numbered-refused : (h : List ℕ) (i : ℕ) → i < length h / 80 → (f : Fault) → Err f ≡ card_of (card_no h i)
    → numbered_from (drop i (roles_of h)) i ≡ stops (stop_at f i)
numbered-refused h i within f is =
    ap (λ (l : List Role). numbered_from l i)
    (roles_from h i within ∙ ap (λ (r : Role). r ∷ drop (i + 1) (roles_of h)) (sym (role-refused h i f is)))

module _ (h : List ℕ) (i : ℕ) (within : i < length h / 80) (p : CardRead) (is : Ok p ≡ card_of (card_no h i)) where
  abbrev rest : List Role
  rest = drop (i + 1) (roles_of h)

  numbered-told : (t : Told) → t ≡ role_by p.card → numbered_from (drop i (roles_of h)) i ≡ numbered_from (role_in t p ∷ rest) i
  numbered-told t e =
      ap (λ (l : List Role). numbered_from l i) (roles_from h i within ∙ ap (λ (r : Role). r ∷ rest) (sym (role_told h i p is t e)))

  -- a card that is no entry
  pub numbered-none : (t : Told) → t ≡ role_by p.card → ((v : Value) (joins : Bool) → t ≡ Entry v joins → ⊥)
      → numbered_from (drop i (roles_of h)) i ≡ missing
  numbered-none t e o = numbered-told t e ∙ go t o
    where
      go : (t : Told) → ((v : Value) (joins : Bool) → t ≡ Entry v joins → ⊥) → numbered_from (role_in t p ∷ rest) i ≡ missing
      go (Entry v joins) o = absurd (o v joins refl)
      go More o = refl
      go Neutral o = refl
      go Last o = refl

  module _ (v : Value) (joins : Bool) (told : Entry v joins ≡ role_by p.card) where
    -- an entry to which nothing is joined
    pub numbered_shut : (joins && ends_open (bytes_of p.text)) ≡ false
        → numbered_from (drop i (roles_of h)) i ≡ holds (held_of v joins p)
    numbered_shut e =
        let own = words_in v joins p in
        let shut = own_shut v joins p e in
        let held : Words → Held = λ w. record { value = v; digits = (held_of v joins p).digits; words = w } in
        numbered-told (Entry v joins) told
        ∙ ap (λ (m : Option Stop). unless_stopped m (Some (held (join_on own rest)))) (met_shut own shut rest (suc i))
        ∙ ap (λ (w : Words). holds (held w)) (join_on_shut own shut rest)

    -- an open string
    module _ (opened : (joins && ends_open (bytes_of p.text)) ≡ true) where
      string-told : Entry Val.String joins ≡ role_by p.card
      string-told =
          let joining = (and_both joins (ends_open (bytes_of p.text)) opened).0 in
          sym (ap (λ (x : Value). Entry x joins) (joins-string p.card v joins (sym told) joining)) ∙ told

      string-is : role_in (Entry Val.String joins) p ≡ role_no h i
      string-is = role_told h i p is (Entry Val.String joins) string-told

      pub numbered_open : numbered_from (drop i (roles_of h)) i ≡ string_at h i
      numbered_open =
          numbered-told (Entry Val.String joins) string-told ∙ ap (λ (r : Role). string_by r rest i) string-is

      pub open_at : length h / 80 ≤ 720 → IsOpenAt h i
      open_at few =
          record {
            card = within;
            few = few;
            opened = ap (λ (r : Role). opens (words_of r)) (sym string-is) ∙ own_open joins p opened;
          }

      pub begins : BeginsWith p (words_at h i)
      begins =
          record {
            text = ap (λ (r : Role). (words_of r).text) string-is;
            comment = ap (λ (r : Role). (words_of r).comment) string-is;
          }
