-- The column stands beside the answers: taking it away commutes with reading a header, looking up, reading an entry, listing and naming.
use Rattle.std.specs.Prelude.{Err, None, Ok, Option, Result, Some}
use Prim.Native.Nat.{ℕ, zero, suc, ◌+◌, ◌*◌, ◌/◌, ◌<◌, ◌≤◌}
use native.Mathlib.Numerals.{add-one}
use native.Mathlib.Omega.{arith}
use mathlib.Core.Path.{◌≡◌, refl, sym, ap, ap₂, subst, ◌∙◌}
use mathlib.Core.Bool.{Bool, true, false, cond, ◌&&◌}
use mathlib.Core.List.{List, [], ◌∷◌, map}
use lib.Dec.{leb}
use lib.ListN.{length, get_or, take, drop, length-drop}
use lib.Seq.{sets, get_or-drop, length-take-le}
use Rattle.refusal.specs.declared.Fault.{Fault}
use Rattle.refusal.specs.declared.Refusal.TheVariants as R
use Rattle.refusal.specs.Numbers.{number_of, fault_of, unplaced, answer_placed}
use Rattle.text.specs.Same.{same}
use Rattle.splitting.proofs.Within.{Within}
use Rattle.card.specs.declared.Card.TheVariants as C
use Rattle.card.specs.declared.CardRead.{CardRead}
use Rattle.card.specs.Columns.{column_of}
use Rattle.card.specs.Cards.{unplaced_of, card_of}
use Rattle.refusal.proofs.Placing.{RefusedBy}
use Rattle.card.proofs.Refusing.{nowhere, card-unplaced}
use Rattle.card.proofs.Within.{card-within}
use Rattle.roles.specs.Roles.{Words, Held, Role, entry, more, neutral, last, refused, role_by, role_in, role_read, role_of}
use Rattle.roles.specs.Cards.{cards_of, card_no, roles_of, is_bad_length}
use Rattle.std.proofs.lemmas.List.{drop-map}
use Rattle.roles.proofs.Cards.{role_count, role_first, roles_from, role_is}
use Rattle.roles.proofs.Placing.{role_placed_lem, role_placed}
use Rattle.joining.specs.Words.{opens, join_words}
use Rattle.joining.specs.Lookup.{join_on, whole, if_same, or_else, lookup}
use Rattle.finding.specs.declared.Stop.{Stop}
use Rattle.finding.specs.Finding.{stop_at, header_from, header_of, last_from, last_of, find_by, find_of}
use Rattle.entries.specs.Answers.{LookupOutcome, bytes_in, written, entry_head, met_on, met_head}
use Rattle.entries.specs.Halves.{Sought, stops, missing, holds, held_in, sought_in, named, unless_stopped, numbered_from, numbered}
use Rattle.entries.specs.Halves.{ValueOutcome, value_in, CommentOutcome, comment_in}
use Rattle.listing.specs.Listing.{Table, name_of, place_in, put, put_role, list_from, tabled, empty, by_header, list_of}
use Rattle.naming.specs.Naming.{NameOutcome, naming_by, unnamed, name_written, name_by, name_at}
use Rattle.agreeing.proofs.Both.{both_in, looked_both, entry_by_both, lookup_both, entry_both}
use Rattle.demands.specs.Columns.{alone, stop_alone, header_alone, outcome_alone, sought_alone, value_alone, comment_alone}
use Rattle.demands.specs.Columns.{list_alone, naming_alone, unplaced_roles, unplaced_header}
use Rattle.demands.specs.Columns.{CardAlone, HeaderAlone, FindAlone, LookupAlone, EntryAlone, NamedAlone, NumberedAlone}
use Rattle.demands.specs.Columns.{ValueAlone, CommentAlone, ListAlone, NameAlone}
use Rattle.demands.specs.Columns.{OnCard, ColumnAt, header_column, answer_column, sought_column, name_column}
use Rattle.demands.specs.Columns.{CardColumn, HeaderColumn, FindColumn, LookupColumn, EntryColumn, NamedColumn, NumberedColumn}
use Rattle.demands.specs.Columns.{NameColumn}
use Rattle.card.specs.declared.Card.{Card}

-- what holds of both cases
either : {A : Type 0} (P : A → Type 0) (b : Bool) (x y : A) → P x → P y → P (cond b x y)
either P true x y d e = d
either P false x y d e = e

-- ---- a card

-- taking the column away is placing none
alone_nowhere : (a : Result CardRead Fault) → alone a ≡ answer_placed nowhere a
alone_nowhere (Ok r) = refl
alone_nowhere (Err x) = refl

pub card_alone_lem : CardAlone
card_alone_lem c = alone_nowhere (card_of c) ∙ card-unplaced c

-- ---- roles
abbrev bare : Role → Role
bare r = role_placed_lem nowhere r

roles_bare : (cs : List (List ℕ)) → map (λ (c : List ℕ). role_read (unplaced_of c)) cs ≡ map bare (map role_of cs)
roles_bare [] = refl
roles_bare (c ∷ cs) =
    ap₂ ◌∷◌ (ap role_read (sym (card-unplaced c)) ∙ role_placed nowhere (card_of c)) (roles_bare cs)

-- ---- a header

header_bare : (rs : List Role) (i : ℕ) → header_from (map bare rs) i ≡ header_alone (header_from rs i)
unfolding header_from
header_bare [] i = refl
header_bare (entry n v ∷ rs) i = header_bare rs (suc i)
header_bare (more t c ∷ rs) i = header_bare rs (suc i)
header_bare (neutral ∷ rs) i = header_bare rs (suc i)
header_bare (last ∷ rs) i = refl
header_bare (refused x ∷ rs) i = refl

pub header_alone_lem : HeaderAlone
unfolding header_of
header_alone_lem h = go (is_bad_length (length h))
  where
    go : (b : Bool)
        → header_alone (cond b (Err (stop_at (fault_of R.HeaderLength) 0)) (header_from (roles_of h) 0))
        ≡ cond b (Err (stop_at (fault_of R.HeaderLength) 0)) (header_from (unplaced_roles h) 0)
    go true = refl
    go false = sym (header_bare (roles_of h) 0) ∙ ap (λ (rs : List Role). header_from rs 0) (sym (roles_bare (cards_of h)))

-- ---- finding a name

last_bare : (name : List ℕ) (rs : List Role) (i : ℕ) (p : Option ℕ) → last_from name (map bare rs) i p ≡ last_from name rs i p
unfolding last_from
last_bare name [] i p = refl
last_bare name (entry m v ∷ rs) i p = last_bare name rs (suc i) (cond (same m name) (Some i) p)
last_bare name (more t c ∷ rs) i p = last_bare name rs (suc i) p
last_bare name (neutral ∷ rs) i p = last_bare name rs (suc i) p
last_bare name (last ∷ rs) i p = refl
last_bare name (refused x ∷ rs) i p = last_bare name rs (suc i) p

pub find_alone : FindAlone
unfolding find_of
find_alone h name =
    go (header_of h)
    ∙ ap₂ find_by (header_alone_lem h)
    (sym (last_bare name (roles_of h) 0 None) ∙ ap (last_of name) (sym (roles_bare (cards_of h))))
  where
    go : (x : Result ℕ Stop) → header_alone (find_by x (last_of name (roles_of h))) ≡ find_by (header_alone x) (last_of name (roles_of h))
    go (Ok end) = refl
    go (Err s) = refl

-- ---- a lookup

join_bare : (w : Words) (rs : List Role) → join_on w (map bare rs) ≡ join_on w rs
unfolding join_on
join_bare w [] = refl
join_bare w (entry n v ∷ rs) = refl
join_bare w (more t c ∷ rs) = ap (λ (x : Words). cond (opens w) x w) (join_bare (join_words w t c) rs)
join_bare w (neutral ∷ rs) = join_bare w rs
join_bare w (last ∷ rs) = refl
join_bare w (refused x ∷ rs) = join_bare w rs

whole_bare : (v : Held) (rs : List Role) → whole v (map bare rs) ≡ whole v rs
whole_bare v rs =
    ap (λ (w : Words). record { value = v.value; digits = v.digits; words = w }) (join_bare v.words rs)

lookup_bare : (name : List ℕ) (rs : List Role) → lookup name (map bare rs) ≡ lookup name rs
unfolding lookup
lookup_bare name [] = refl
lookup_bare name (entry m v ∷ rs) = ap₂ or_else (lookup_bare name rs) (ap (if_same m name) (whole_bare v rs))
lookup_bare name (more t c ∷ rs) = lookup_bare name rs
lookup_bare name (neutral ∷ rs) = lookup_bare name rs
lookup_bare name (last ∷ rs) = refl
lookup_bare name (refused x ∷ rs) = lookup_bare name rs

held-alone : (o : Option Held) → sought_alone (held_in o) ≡ held_in o
held-alone None = refl
held-alone (Some v) = refl

pub named-alone : NamedAlone
unfolding named
named-alone h name =
    go (header_of h)
    ∙ ap₂ sought_in (header_alone_lem h) (sym (lookup_bare name (roles_of h)) ∙ ap (lookup name) (sym (roles_bare (cards_of h))))
  where
    go : (x : Result ℕ Stop) → sought_alone (sought_in x (lookup name (roles_of h))) ≡ sought_in (header_alone x) (lookup name (roles_of h))
    go (Ok end) = held-alone (lookup name (roles_of h))
    go (Err s) = refl

-- 12 and 13 have no column
pub value_alone_lem : ValueAlone
unfolding value_in
value_alone_lem (stops s) text = refl
value_alone_lem missing text = refl
value_alone_lem (holds v) text =
    either (λ (o : ValueOutcome). value_alone o ≡ o) (leb (length v.words.text) (length text)) _ _ refl refl

pub comment_alone_lem : CommentAlone
unfolding comment_in
comment_alone_lem (stops s) comment = refl
comment_alone_lem missing comment = refl
comment_alone_lem (holds v) comment =
    either (λ (o : CommentOutcome). comment_alone o ≡ o) (leb (length (bytes_in v.words.comment)) (length comment)) _ _ refl refl

both_alone : (x : Sought) (text comment : List ℕ) → outcome_alone (both_in x text comment) ≡ both_in (sought_alone x) text comment
unfolding written
both_alone (stops s) text comment = refl
both_alone missing text comment = refl
both_alone (holds v) text comment =
    either (λ (o : LookupOutcome). outcome_alone o ≡ o)
    (leb (length v.words.text) (length text) && leb (length (bytes_in v.words.comment)) (length comment)) _ _ refl refl

pub lookup-alone : LookupAlone
lookup-alone h name text comment =
    ap outcome_alone (lookup_both h name text comment)
    ∙ both_alone (named h name) text comment
    ∙ ap (λ (x : Sought). both_in x text comment) (named-alone h name)
    ∙ sym (looked_both text comment (unplaced_header h) (unplaced_roles h) name)

-- ---- an entry by its card

head_bare : (rs : List Role) → entry_head (map bare rs) ≡ entry_head rs
head_bare [] = refl
head_bare (entry n v ∷ rs) = ap Some (whole_bare v rs)
head_bare (more t c ∷ rs) = refl
head_bare (neutral ∷ rs) = refl
head_bare (last ∷ rs) = refl
head_bare (refused x ∷ rs) = refl

abbrev met_alone : Option Stop → Option Stop
met_alone None = None
met_alone (Some s) = Some (stop_alone s)

met_if : (b : Bool) (m n : Option Stop) → m ≡ met_alone n → cond b m None ≡ met_alone (cond b n None)
met_if true m n e = e
met_if false m n e = refl

met_on_bare : (w : Words) (rs : List Role) (j : ℕ) → met_on w (map bare rs) j ≡ met_alone (met_on w rs j)
unfolding met_on
met_on_bare w [] j = refl
met_on_bare w (entry n v ∷ rs) j = refl
met_on_bare w (more t c ∷ rs) j =
    met_if (opens w) (met_on (join_words w t c) (map bare rs) (suc j)) (met_on (join_words w t c) rs (suc j))
    (met_on_bare (join_words w t c) rs (suc j))
met_on_bare w (neutral ∷ rs) j = met_on_bare w rs (suc j)
met_on_bare w (last ∷ rs) j = refl
met_on_bare w (refused x ∷ rs) j = met_if (opens w) (Some (stop_at (unplaced x) j)) (Some (stop_at x j)) refl

met_bare : (rs : List Role) (i : ℕ) → met_head (map bare rs) i ≡ met_alone (met_head rs i)
met_bare [] i = refl
met_bare (entry n v ∷ rs) i = met_on_bare v.words rs (suc i)
met_bare (more t c ∷ rs) i = refl
met_bare (neutral ∷ rs) i = refl
met_bare (last ∷ rs) i = refl
met_bare (refused x ∷ rs) i = refl

from_bare : (rs : List Role) (i : ℕ) → sought_alone (numbered_from rs i) ≡ numbered_from (map bare rs) i
from_bare rs i = go (met_head rs i) ∙ ap₂ unless_stopped (sym (met_bare rs i)) (sym (head_bare rs))
  where
    go : (m : Option Stop) → sought_alone (unless_stopped m (entry_head rs)) ≡ unless_stopped (met_alone m) (entry_head rs)
    go None = held-alone (entry_head rs)
    go (Some s) = refl

pub numbered-alone : NumberedAlone
unfolding numbered
numbered-alone h i = go (is_bad_length (length h))
  where
    bad : Sought
    bad = stops (stop_at (fault_of R.HeaderLength) 0)

    go : (b : Bool)
        → sought_alone (cond b bad (numbered_from (drop i (roles_of h)) i)) ≡ cond b bad (numbered_from (drop i (unplaced_roles h)) i)
    go true = refl
    go false =
        from_bare (drop i (roles_of h)) i
        ∙ ap (λ (rs : List Role). numbered_from rs i)
        (sym (drop-map bare i (roles_of h)) ∙ ap (drop i) (sym (roles_bare (cards_of h))))

pub entry-alone : EntryAlone
entry-alone h i text comment =
    ap outcome_alone (entry_both h i text comment)
    ∙ both_alone (numbered h i) text comment
    ∙ ap (λ (x : Sought). both_in x text comment) (numbered-alone h i)
    ∙ sym (entry_by_both text comment (length h) (unplaced_roles h) i)

-- ---- the list, and a name

at_bare : (rs : List Role) (i : ℕ) → get_or (map bare rs) i neutral ≡ bare (get_or rs i neutral)
at_bare [] zero = refl
at_bare [] (suc i) = refl
at_bare (r ∷ rs) zero = refl
at_bare (r ∷ rs) (suc i) = at_bare rs i

name_bare : (r : Role) → name_of (bare r) ≡ name_of r
name_bare (entry n v) = refl
name_bare (more t c) = refl
name_bare neutral = refl
name_bare last = refl
name_bare (refused x) = refl

place_bare : (rs : List Role) (name is : List ℕ) (k : ℕ) → place_in (map bare rs) name is k ≡ place_in rs name is k
unfolding place_in
place_bare rs name [] k = refl
place_bare rs name (i ∷ is) k =
    ap₂ (λ (m : List ℕ) (p : Option ℕ). cond (same m name) (Some k) p)
    (ap name_of (at_bare rs i) ∙ name_bare (get_or rs i neutral)) (place_bare rs name is (suc k))

put_bare : (rs : List Role) (r : Role) (i : ℕ) (t : Table) → put_role (map bare rs) (bare r) i t ≡ put_role rs r i t
put_bare rs (entry n v) i t = ap (λ (p : Option ℕ). put p i t) (place_bare rs n t.first 0)
put_bare rs (more s c) i t = refl
put_bare rs neutral i t = refl
put_bare rs last i t = refl
put_bare rs (refused x) i t = refl

list_bare : (roles rs : List Role) (i : ℕ) (t : Table) → list_from (map bare roles) (map bare rs) i t ≡ list_from roles rs i t
unfolding list_from
list_bare roles [] i t = refl
list_bare roles (r ∷ rs) i t =
    ap (list_from (map bare roles) (map bare rs) (suc i)) (put_bare roles r i t) ∙ list_bare roles rs (suc i) (put_role roles r i t)

take_bare : (n : ℕ) (rs : List Role) → take n (map bare rs) ≡ map bare (take n rs)
take_bare zero rs = refl
take_bare (suc n) [] = refl
take_bare (suc n) (r ∷ rs) = ap (λ (l : List Role). bare r ∷ l) (take_bare n rs)

pub list_alone_lem : ListAlone
unfolding list_of
list_alone_lem h =
    go (header_of h) ∙ ap₂ (λ (x : Result ℕ Stop) (rs : List Role). by_header x rs) (header_alone_lem h) (sym (roles_bare (cards_of h)))
  where
    go : (x : Result ℕ Stop) → list_alone (by_header x (roles_of h)) ≡ by_header (header_alone x) (map bare (roles_of h))
    go (Ok end) =
        let roles = roles_of h in
        let same-cards = ap (λ (rs : List Role). list_from (map bare roles) rs 0 empty) (take_bare end roles) in
        ap (tabled (Ok end)) (sym (same-cards ∙ list_bare roles (take end roles) 0 empty))
    go (Err s) = refl

pub name_alone_lem : NameAlone
unfolding name_at name_written
name_alone_lem h i name = go (is_bad_length (length h))
  where
    by : (r : Role) → naming_alone (name_by r name) ≡ name_by (bare r) name
    by (entry own v) = either (λ (o : NameOutcome). naming_alone o ≡ o) (leb (length own) (length name)) _ _ refl refl
    by (more t c) = refl
    by neutral = refl
    by last = refl
    by (refused x) = refl

    bad : NameOutcome
    bad = unnamed (fault_of R.HeaderLength) name

    go : (b : Bool)
        → naming_alone (cond b bad (name_by (get_or (roles_of h) i neutral) name))
        ≡ cond b bad (name_by (get_or (unplaced_roles h) i neutral) name)
    go true = refl
    go false =
        by (get_or (roles_of h) i neutral)
        ∙ ap (λ (r : Role). name_by r name)
        (sym (at_bare (roles_of h) i) ∙ ap (λ (rs : List Role). get_or rs i neutral) (sym (roles_bare (cards_of h))))

-- ---- where the columns stand

on_card : (x : Option ℕ) → Within x → OnCard x
on_card (Some b) h = record { byte = b; is = refl; within = h }
on_card None h = absurd h

-- a refusal that is not of a card has none
off_card : (c : List ℕ) (x : Fault) → x.column ≡ column_of c x.why → (number_of x.why ≤ 8 → ⊥) → ColumnAt c x
off_card c x e high = record { column = e; within = λ (low : number_of x.why ≤ 8). absurd (high low) }

abbrev card_column : List ℕ → Result CardRead Fault → Type 0
card_column c (Ok r) = Unit {0}
card_column c (Err x) = ColumnAt c x

card_told_lem : (c : List ℕ) → length c ≡ 80 → card_column c (card_of c)
unfolding card_of
card_told_lem c whole = go (unplaced_of c) (card-within c whole)
  where
    go : (a : Result CardRead Fault) → RefusedBy (λ (y : Fault). Within y.column) (answer_placed (column_of c) a)
        → card_column c (answer_placed (column_of c) a)
    go (Ok r) h = tt
    go (Err x) h = record { column = refl; within = λ (low : number_of x.why ≤ 8). on_card (column_of c x.why) h }

pub card-column : CardColumn
card-column c x whole e = subst (card_column c) e (card_told_lem c whole)

-- ---- the refused cards of a header, by number
module _ (h : List ℕ) where
  abbrev role_column : ℕ → Role → Type 0
  role_column i (entry n v) = Unit {0}
  role_column i (more t c) = Unit {0}
  role_column i neutral = Unit {0}
  role_column i last = Unit {0}
  role_column i (refused x) = ColumnAt (card_no h i) x

  role_told : (i : ℕ) → i < length h / 80 → role_column i (role_of (card_no h i))
  role_told i within =
      let whole = length-take-le 80 (drop (i * 80) h) (omega (arith, length-drop (i * 80) h)) in
      go (card_of (card_no h i)) (card_told_lem (card_no h i) whole)
    where
      of_card : (card : Card) (r : CardRead) → role_column i (role_in (role_by card) r)
      of_card (C.Value v) r = tt
      of_card (C.Hierarch v) r = tt
      of_card C.Xtension r = tt
      of_card C.Continuation r = tt
      of_card C.Comment r = tt
      of_card C.History r = tt
      of_card C.Space r = tt
      of_card C.Undefined r = tt
      of_card C.End r = tt

      go : (a : Result CardRead Fault) → card_column (card_no h i) a → role_column i (role_read a)
      go (Ok r) told = of_card r.card r
      go (Err x) told = told

  -- the first of the roles from number i on is that of card i, and the others follow
  module _ (i : ℕ) (r : Role) (rs : List Role) (e : drop i (roles_of h) ≡ r ∷ rs) where
    within : i < length h / 80
    within =
        let Some : length (drop i (roles_of h)) ≡ suc (length rs) = ap length e in
        omega (arith, Some, length-drop i (roles_of h), role_count h)

    first-told : role_column i r
    first-told = subst (role_column i) (sym (role_is h i within) ∙ role_first (roles_of h) i r rs e) (role_told i within)

    follow : drop (suc i) (roles_of h) ≡ rs
    follow =
        ap (λ (k : ℕ). drop k (roles_of h)) (sym (add-one i))
        ∙ ap (drop 1) (sym (roles_from h i within))
        ∙ ap (drop 1) e

  -- a header's refusal
  from_told : (rs : List Role) (i : ℕ) → drop i (roles_of h) ≡ rs → header_column h (header_from rs i)
  unfolding header_from
  from_told [] i e = off_card (card_no h i) (fault_of R.NoEnd) refl (λ (low : 10 ≤ 8). omega arith)
  from_told (entry n v ∷ rs) i e = from_told rs (suc i) (follow i (entry n v) rs e)
  from_told (more t c ∷ rs) i e = from_told rs (suc i) (follow i (more t c) rs e)
  from_told (neutral ∷ rs) i e = from_told rs (suc i) (follow i neutral rs e)
  from_told (last ∷ rs) i e = tt
  from_told (refused x ∷ rs) i e = first-told i (refused x) rs e

  -- a refused card that an entry meets
  abbrev met_column : Option Stop → Type 0
  met_column None = Unit {0}
  met_column (Some s) = ColumnAt (card_no h s.card) s.fault

  met_on-told : (w : Words) (rs : List Role) (j : ℕ) → drop j (roles_of h) ≡ rs → met_column (met_on w rs j)
  unfolding met_on
  met_on-told w [] j e = tt
  met_on-told w (entry n v ∷ rs) j e = tt
  met_on-told w (more t c ∷ rs) j e =
      either met_column (opens w) (met_on (join_words w t c) rs (suc j)) None
      (met_on-told (join_words w t c) rs (suc j) (follow j (more t c) rs e)) tt
  met_on-told w (neutral ∷ rs) j e = met_on-told w rs (suc j) (follow j neutral rs e)
  met_on-told w (last ∷ rs) j e = tt
  met_on-told w (refused x ∷ rs) j e = either met_column (opens w) (Some (stop_at x j)) None (first-told j (refused x) rs e) tt

  met-told : (rs : List Role) (i : ℕ) → drop i (roles_of h) ≡ rs → met_column (met_head rs i)
  met-told [] i e = tt
  met-told (entry n v ∷ rs) i e = met_on-told v.words rs (suc i) (follow i (entry n v) rs e)
  met-told (more t c ∷ rs) i e = tt
  met-told (neutral ∷ rs) i e = tt
  met-told (last ∷ rs) i e = tt
  met-told (refused x ∷ rs) i e = first-told i (refused x) rs e

  -- the refusal of a bad length
  length-told : ColumnAt (card_no h 0) (fault_of R.HeaderLength)
  length-told = off_card (card_no h 0) (fault_of R.HeaderLength) refl (λ (low : 9 ≤ 8). omega arith)

-- there is no card behind the last
role_missing : (roles : List Role) (i : ℕ) → drop i roles ≡ [] → get_or roles i neutral ≡ neutral
role_missing roles i e =
    let z : i ≡ i + 0 = omega arith in
    ap (λ (k : ℕ). get_or roles k neutral) z ∙ sym (get_or-drop i roles 0 neutral) ∙ ap (λ (l : List Role). get_or l 0 neutral) e

-- ---- the statements

pub header_column_lem : HeaderColumn
unfolding header_of
header_column_lem h = go (is_bad_length (length h))
  where
    go : (b : Bool) → header_column h (cond b (Err (stop_at (fault_of R.HeaderLength) 0)) (header_from (roles_of h) 0))
    go true = length-told h
    go false = from_told h (roles_of h) 0 refl

pub find_column : FindColumn
unfolding find_of
find_column h name = go (header_of h) (header_column_lem h)
  where
    go : (x : Result ℕ Stop) → header_column h x → header_column h (find_by x (last_of name (roles_of h)))
    go (Ok end) told = tt
    go (Err s) told = told

held-told : (h : List ℕ) (o : Option Held) → sought_column h (held_in o)
held-told h None = tt
held-told h (Some v) = tt

pub named-column : NamedColumn
unfolding named
named-column h name = go (header_of h) (header_column_lem h)
  where
    go : (x : Result ℕ Stop) → header_column h x → sought_column h (sought_in x (lookup name (roles_of h)))
    go (Ok end) told = held-told h (lookup name (roles_of h))
    go (Err s) told = told

pub numbered-column : NumberedColumn
unfolding numbered
numbered-column h i = go (is_bad_length (length h))
  where
    by : (m : Option Stop) → met_column h m → sought_column h (unless_stopped m (entry_head (drop i (roles_of h))))
    by None told = held-told h (entry_head (drop i (roles_of h)))
    by (Some s) told = told

    go : (b : Bool)
        → sought_column h (cond b (stops (stop_at (fault_of R.HeaderLength) 0)) (numbered_from (drop i (roles_of h)) i))
    go true = length-told h
    go false = by (met_head (drop i (roles_of h)) i) (met-told h (drop i (roles_of h)) i refl)

both_told : (h : List ℕ) (x : Sought) (text comment : List ℕ) → sought_column h x → answer_column h (both_in x text comment).answer.answer
unfolding written
both_told h (stops s) text comment told = told
both_told h missing text comment told = refl
both_told h (holds v) text comment told =
    either (λ (o : LookupOutcome). answer_column h o.answer.answer)
    (leb (length v.words.text) (length text) && leb (length (bytes_in v.words.comment)) (length comment)) _ _ tt refl

pub lookup-column : LookupColumn
lookup-column h name text comment =
    subst (λ (o : LookupOutcome). answer_column h o.answer.answer) (sym (lookup_both h name text comment))
    (both_told h (named h name) text comment (named-column h name))

pub entry-column : EntryColumn
entry-column h i text comment =
    subst (λ (o : LookupOutcome). answer_column h o.answer.answer) (sym (entry_both h i text comment))
    (both_told h (numbered h i) text comment (numbered-column h i))

pub name_column_lem : NameColumn
unfolding name_at name_written
name_column_lem h i name = go (is_bad_length (length h))
  where
    short : (b : Bool) (own : List ℕ)
        → name_column (card_no h i)
        (cond b (naming_by (Ok (length own)) (sets name 0 own)) (unnamed (fault_of R.BufferShort) name)).answer
    short true own = tt
    short false own = off_card (card_no h i) (fault_of R.BufferShort) refl (λ (low : 13 ≤ 8). omega arith)

    missing : ColumnAt (card_no h i) (fault_of R.NameNotFound)
    missing = off_card (card_no h i) (fault_of R.NameNotFound) refl (λ (low : 12 ≤ 8). omega arith)

    by : (r : Role) → role_column h i r → name_column (card_no h i) (name_by r name).answer
    by (entry own v) told = short (leb (length own) (length name)) own
    by (more t c) told = missing
    by neutral told = missing
    by last told = missing
    by (refused x) told = told

    role : (rs : List Role) → drop i (roles_of h) ≡ rs → role_column h i (get_or (roles_of h) i neutral)
    role [] e = subst (role_column h i) (sym (role_missing (roles_of h) i e)) tt
    role (r ∷ rs) e = subst (role_column h i) (sym (role_first (roles_of h) i r rs e)) (first-told h i r rs e)

    go : (b : Bool)
        → name_column (card_no h i)
        (cond b (unnamed (fault_of R.HeaderLength) name) (name_by (get_or (roles_of h) i neutral) name)).answer
    go true = off_card (card_no h i) (fault_of R.HeaderLength) refl (λ (low : 9 ≤ 8). omega arith)
    go false = by (get_or (roles_of h) i neutral) (role (drop i (roles_of h)) refl)
