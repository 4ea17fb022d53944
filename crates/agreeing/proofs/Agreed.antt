-- The list of a header's names agrees with lookup: the cards are walked up to END with any table that is sound, and for each name
-- the last entry that the table gives changes with each card just as the place of `lastFrom` does, and how many bear it as `timesBorne`
-- counts.
use Rattle.std.specs.Prelude.{Err, None, Ok, Option, Result, Some}
use Rattle.std.proofs.lemmas.List.{get_or-map}
use Prim.Native.Nat.{ℕ, suc, ◌<◌}
use native.Mathlib.Nat.{zero-add}
use native.Mathlib.Omega.{arith}
use mathlib.Core.Path.{◌≡◌, refl, sym, ap, subst, ◌∙◌}
use mathlib.Core.Bool.{Bool, true, false, cond}
use mathlib.Core.List.{List, [], ◌∷◌, map}
use lib.ListN.{length, get_or, drop, length-map}
use lib.Seq.{ext_get_or}
use Rattle.text.specs.Same.{same}
use Rattle.text.specs.Text.{filled}
use Rattle.roles.specs.Roles.{Held, Role, entry, more, neutral, last, refused}
use Rattle.roles.specs.Cards.{roles_of}
use Rattle.joining.specs.Lookup.{lookup, whole, or_else}
use Rattle.finding.specs.declared.Stop.{Stop}
use Rattle.finding.specs.Finding.{header_of, last_from, last_of}
use Rattle.entries.specs.Answers.{entry_at}
use Rattle.entries.specs.Halves.{held_in, sought_in, named, numbered_from, numbered}
use Rattle.entries.proofs.Looking.{accepted_good, last_found, last-read}
use Rattle.listing.specs.declared.Listing.{Listing}
use Rattle.listing.specs.Listing.{places, free, Table, empty, name_of, place_in, tabled, by_header, list_of}
use Rattle.listing.proofs.Placing.{filled_at}
use Rattle.agreeing.specs.Firsts.{is_among, firsts_of, number_at, last_number, lasts_of, times_borne, times_of}
use Rattle.agreeing.specs.Agreeing.{Contents, ByLast, StandsAt, StandsIn, EachTaken, Once, FoundIn}
use Rattle.agreeing.specs.Agreeing.{EachStanding, EachFound}
use Rattle.agreeing.specs.Times.{sum_of}
use Rattle.agreeing.proofs.Places.{last_at, times_at_lem, name_no, place_of_name, last_in_table, times_in_table, hit_under, hit_named}
use Rattle.agreeing.proofs.Counting.{entries_in}
use Rattle.agreeing.proofs.Tables.{EntryNo, Sound, Seen, Comes, comes}
use Rattle.agreeing.proofs.Ending.{until_end}

sound_empty : (roles : List Role) → Sound roles empty
sound_empty roles = record { alike = refl; counted = refl; own = λ k p. absurd (omega arith); entries = λ k p. absurd (omega arith) }

seen-empty : (roles : List Role) → Seen roles [] empty
unfolding is_among place_in
seen-empty roles = record { names = λ name. refl }

-- a name that is not found has no last entry
no_last : (name : List ℕ) (rs : List Role) (i : ℕ) (p : Option ℕ) → lookup name rs ≡ None → last_from name rs i p ≡ p
unfolding lookup last_from
no_last name [] i p e = refl
no_last name (entry m v ∷ rs) i p e = go (lookup name rs) refl (same m name) e (no_last name rs (suc i))
  where
    go : (o : Option Held) → lookup name rs ≡ o → (b : Bool) → or_else o (cond b (Some (whole v rs)) None) ≡ None
        → ((q : Option ℕ) → lookup name rs ≡ None → last_from name rs (suc i) q ≡ q)
        → last_from name rs (suc i) (cond b (Some i) p) ≡ p
    go (Some w) d b x then = absurd (let z : ◌≡◌ {A = ℕ} 0 1 = cc in omega arith)
    go None d true x then = absurd (let z : ◌≡◌ {A = ℕ} 0 1 = cc in omega arith)
    go None d false x then = then p d
no_last name (more t c ∷ rs) i p e = no_last name rs (suc i) p e
no_last name (neutral ∷ rs) i p e = no_last name rs (suc i) p e
no_last name (last ∷ rs) i p e = refl
no_last name (refused f ∷ rs) i p e = no_last name rs (suc i) p e

module _ (h : List ℕ) (end : ℕ) (a : header_of h ≡ Ok end) where
  abbrev roles : List Role
  roles = roles_of h

  built : Comes roles roles [] end 0 empty
  built =
      comes roles (until_end h end a) [] 0 empty refl (sound_empty roles) (seen-empty roles)

  abbrev table : Table
  table = built.u

  -- the first card of place k, and the place of a name
  abbrev first-card : ℕ → ℕ
  first-card k = get_or table.first k free

  abbrev place : List ℕ → Option ℕ
  place name = place_of_name roles table.first name

  list_is : list_of h ≡ tabled (Ok end) table
  unfolding list_of
  list_is = ap (λ (x : Result ℕ Stop). by_header x roles) a ∙ ap (tabled (Ok end)) built.is

  -- the last entry of a name, by its place in the table
  last-is : (name : List ℕ) → last_in_table roles table name ≡ last_of name roles
  unfolding place_in
  last-is name = built.lasts name

  firsts_are : table.first ≡ firsts_of roles
  firsts_are = built.firsts

  last_at_lem : (k : ℕ) → k < length table.first → Some (get_or table.last k free) ≡ last_of (name_no roles (first-card k)) roles
  last_at_lem k p = sym (ap (λ (q : Option ℕ). last_at q table.last) (built.sound.own k p)) ∙ last-is (name_no roles (first-card k))

  -- how many bear a name, by its place in the table
  bear_is : (name : List ℕ) → times_in_table roles table name ≡ times_borne name roles
  unfolding place_in
  bear_is name = built.bear name ∙ zero-add (times_borne name roles)

  times_at : (k : ℕ) → k < length table.first → get_or table.times k 0 ≡ times_borne (name_no roles (first-card k)) roles
  times_at k p = sym (ap (λ (q : Option ℕ). times_at_lem q table.times) (built.sound.own k p)) ∙ bear_is (name_no roles (first-card k))

  -- a list that has a number for the first card of each place
  by_firsts : (l : List ℕ) (d : ℕ) (f : ℕ → ℕ) → length l ≡ length table.first
      → ((k : ℕ) → k < length table.first → get_or l k d ≡ f (first-card k)) → l ≡ map f (firsts_of roles)
  by_firsts l d f alike at =
      let long : length l ≡ length (map f table.first) = alike ∙ sym (length-map table.first f) in
      ext_get_or d l (map f table.first) long
      (λ k p.
      let q : k < length table.first = omega (arith, alike, p) in
      at k q ∙ sym (get_or-map f table.first k free d q))
      ∙ ap (map f) firsts_are

  lasts_are : table.last ≡ lasts_of roles
  lasts_are =
      by_firsts table.last free (λ (i : ℕ). last_number roles (name_of (get_or roles i neutral))) built.sound.alike
      (λ k p. ap number_at (last_at_lem k p))

  times_are : table.times ≡ times_of roles
  times_are =
      by_firsts table.times 0 (λ (i : ℕ). times_borne (name_of (get_or roles i neutral)) roles) built.sound.counted times_at

  -- together as many as there are entries
  pub times-sum : sum_of (times_of roles) ≡ entries_in roles
  unfolding sum_of
  times-sum = ap sum_of (sym times_are) ∙ built.sum ∙ zero-add (entries_in roles)

  count-is : (list_of h).count ≡ length table.first
  count-is = ap (λ (x : Listing). x.count) list_is

  -- what stands in an array of the list at a place of the table
  array_at : (part : Listing → List ℕ) (mark : ℕ) (l : List ℕ) → part (tabled (Ok end) table) ≡ filled mark places l
      → length l ≡ length table.first → (k d : ℕ) → k < length table.first → get_or (part (list_of h)) k d ≡ get_or l k d
  array_at part mark l e alike k d p =
      ap (λ (x : Listing). get_or (part x) k d) list_is
      ∙ ap (λ (x : List ℕ). get_or x k d) e
      ∙ filled_at mark places l k d (omega (arith, alike, p))

  first_in : (k : ℕ) → k < length table.first → get_or (list_of h).first k free ≡ first-card k
  first_in k p = array_at (λ (x : Listing). x.first) free table.first refl refl k free p

  last_in : (k : ℕ) → k < length table.first → get_or (list_of h).last k free ≡ get_or table.last k free
  last_in k p = array_at (λ (x : Listing). x.last) free table.last refl built.sound.alike k free p

  -- a name that stands at a place has it in the table, and the other way round
  under : (name : List ℕ) (k : ℕ) → StandsAt h name k → k < length table.first
  under name k s = omega (arith, count-is, s.within)

  place_of : (name : List ℕ) (k : ℕ) → StandsAt h name k → place name ≡ Some k
  place_of name k s =
      let p : k < length table.first = under name k s in
      let named : name_no roles (first-card k) ≡ name = ap (name_no roles) (sym (first_in k p)) ∙ ap name_of s.bears in
      ap place (sym named) ∙ built.sound.own k p

  stands_own : (k : ℕ) → k < length table.first → StandsAt h (name_no roles (first-card k)) k
  stands_own k p =
      let e : EntryNo roles (first-card k) = built.sound.entries k p in
      record {
        within = omega (arith, count-is, p);
        held = e.held;
        bears = ap (λ (i : ℕ). get_or roles i neutral) (first_in k p) ∙ e.is;
      }

  stands_at : (name : List ℕ) (k : ℕ) → place name ≡ Some k → StandsAt h name k
  stands_at name k e =
      subst (λ (m : List ℕ). StandsAt h m k) (hit_named roles name table.first k e)
      (stands_own k (hit_under roles name table.first k e))

  -- lookup by the place of a name
  lookup_by : (name : List ℕ) (p : Option ℕ) → place name ≡ p → lookup name roles ≡ entry_at (last_at p table.last) roles
  lookup_by name p e =
      sym (last_found name roles)
      ∙ ap (λ (q : Option ℕ). entry_at q roles) (sym (last-is name) ∙ ap (λ (q : Option ℕ). last_at q table.last) e)

  -- an accepted header holds what its cards give
  pub by_cards : (name : List ℕ) → named h name ≡ held_in (lookup name roles)
  unfolding named
  by_cards name = ap (λ (x : Result ℕ Stop). sought_in x (lookup name roles)) a

  by_number : (i : ℕ) → numbered h i ≡ numbered_from (drop i roles) i
  unfolding numbered
  by_number i = rw (accepted_good h end a)

  -- the card at a name's place is the last that bears the name
  last-card : (name : List ℕ) (k : ℕ) → StandsAt h name k → last_of name roles ≡ Some (get_or table.last k free)
  last-card name k s = sym (last-is name) ∙ ap (λ (q : Option ℕ). last_at q table.last) (place_of name k s)

  -- so the entry there is what the name is answered
  pub sought_at_lem : (name : List ℕ) (k : ℕ) → StandsAt h name k → numbered h (get_or (list_of h).last k free) ≡ named h name
  sought_at_lem name k s =
      let i = get_or table.last k free in
      ap (numbered h) (last_in k (under name k s))
      ∙ by_number i
      ∙ last-read name end h i a (last-card name k s)
      ∙ ap held_in (sym (lookup_by name (Some k) (place_of name k s)))
      ∙ sym (by_cards name)

  -- and the number there is how many bear the name
  pub bear_at : (name : List ℕ) (k : ℕ) → StandsAt h name k → get_or (list_of h).times k 0 ≡ times_borne name roles
  bear_at name k s =
      array_at (λ (x : Listing). x.times) 0 table.times refl built.sound.counted k 0 (under name k s)
      ∙ sym (ap (λ (q : Option ℕ). times_at_lem q table.times) (place_of name k s))
      ∙ bear_is name

  found-or : (name : List ℕ) (o : Option Held) → lookup name roles ≡ o → StandsIn h name → FoundIn h name
  found-or name (Some v) e s = record { held = v; is = e }
  found-or name None e s =
      let none-at : Some (get_or table.last s.place free) ≡ None =
      sym (ap (λ (q : Option ℕ). last_at q table.last) (place_of name s.place s.stands))
      ∙ last-is name
      ∙ no_last name roles 0 None e in
      absurd (let z : ◌≡◌ {A = ℕ} 0 1 = cc in omega arith)

  stands-or : (name : List ℕ) (p : Option ℕ) → place name ≡ p → FoundIn h name → StandsIn h name
  stands-or name (Some k) e f = record { place = k; stands = stands_at name k e }
  stands-or name None e f =
      let gone : ◌≡◌ {A = Option Held} None (Some f.held) = sym (lookup_by name None e) ∙ f.is in
      absurd (let z : ◌≡◌ {A = ℕ} 0 1 = cc in omega arith)

  missing-or : (name : List ℕ) (p : Option ℕ) → place name ≡ p → (StandsIn h name → ⊥) → lookup name roles ≡ None
  missing-or name (Some k) e s = absurd (s (record { place = k; stands = stands_at name k e }))
  missing-or name None e s = lookup_by name None e

pub by_last : ByLast
by_last name roles = sym (last_found name roles)

pub contents : Contents
contents h end a =
    list_is h end a
    ∙ (λ j. tabled (Ok end)
    (record { first = firsts_are h end a j; last = lasts_are h end a j; times = times_are h end a j }))

pub each_taken : EachTaken
each_taken h end a k p =
    let i = first-card h end a k in
    record { name = name_no (roles_of h) i; stands = stands_own h end a k (omega (arith, count-is h end a, p)) }

pub once : Once
once h end a name j k s t = let e : Some j ≡ Some k = sym (place_of h end a name j s) ∙ place_of h end a name k t in cc

pub each_standing : EachStanding
each_standing h end a name s = found-or h end a name (lookup name (roles_of h)) refl s

pub each_found : EachFound
each_found h end a name f = stands-or h end a name (place h end a name) refl f

-- a name that stands nowhere is not found
pub none_found : (h : List ℕ) (end : ℕ) → header_of h ≡ Ok end → (name : List ℕ) → (StandsIn h name → ⊥)
    → lookup name (roles_of h) ≡ None
none_found h end a name s = missing-or h end a name (place h end a name) refl s

-- all places of a refused header's list are free
pub refused_list : (h : List ℕ) (s : Stop) → header_of h ≡ Err s → list_of h ≡ tabled (Err s) empty
unfolding list_of
refused_list h s e = ap (λ (x : Result ℕ Stop). by_header x (roles_of h)) e

-- the list answers a header as it is read
pub same-header : (h : List ℕ) → (list_of h).header ≡ header_of h
same-header h = go (header_of h) refl
  where
    go : (x : Result ℕ Stop) → header_of h ≡ x → (list_of h).header ≡ x
    go (Ok end) e = ap (λ (l : Listing). l.header) (contents h end e)
    go (Err s) e = ap (λ (l : Listing). l.header) (refused_list h s e)
