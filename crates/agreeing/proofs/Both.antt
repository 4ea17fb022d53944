-- Both halves at once, by what a header holds for its reader; and what `Agreeing` states of them.
use Rattle.std.specs.Prelude.{Err, Ok, Result, Option, None, Some}
use Prim.Native.Nat.{ℕ}
use mathlib.Core.Path.{◌≡◌, refl, sym, ap, ◌∙◌}
use mathlib.Core.Bool.{Bool, true, false, cond, ◌&&◌}
use mathlib.Core.List.{List}
use lib.Dec.{leb}
use lib.ListN.{length, get_or, drop}
use lib.Seq.{sets}
use Rattle.refusal.specs.declared.Fault.{Fault}
use Rattle.refusal.specs.declared.Refusal.TheVariants as R
use Rattle.refusal.specs.Numbers.{fault_of}
use Rattle.roles.specs.Roles.{Held, Role}
use Rattle.roles.specs.Cards.{roles_of, is_bad_length}
use Rattle.joining.specs.Lookup.{lookup}
use Rattle.finding.specs.declared.Stop.{Stop}
use Rattle.finding.specs.Finding.{stop_at, header_of}
use Rattle.entries.specs.declared.NoEntry.TheVariants as N
use Rattle.entries.specs.Answers.{LookupOutcome, left_by, found_as, bytes_in, untouched, written, given, looked_up, lookup_of}
use Rattle.entries.specs.Answers.{entry_head, met_head, unless_met, entry_from, entry_by, entry_of}
use Rattle.entries.specs.Halves.{Sought, stops, missing, holds, held_in, sought_in, named}
use Rattle.entries.specs.Halves.{unless_stopped, numbered_from, numbered_by, numbered}
use Rattle.listing.specs.Listing.{free, list_of, place_of_entry}
use Rattle.agreeing.specs.Agreeing.{Agreement, Missing, OnlyMissing, SameRefusal, UnmetToEnd}
use Rattle.agreeing.proofs.Agreed.{sought_at_lem, refused_list}
use Rattle.agreeing.proofs.Halves.{missing-named, only_missing-named, refused-named}
use Rattle.agreeing.proofs.Unmet.{unmet_numbered}

abbrev pub both_in : Sought → List ℕ → List ℕ → LookupOutcome
both_in (stops s) text comment = untouched (N.Header s) text comment
both_in missing text comment = untouched (N.Refused (fault_of R.NameNotFound)) text comment
both_in (holds v) text comment = written v text comment

pub both_held : (o : Option Held) (text comment : List ℕ) → both_in (held_in o) text comment ≡ given o text comment
both_held None text comment = refl
both_held (Some v) text comment = refl

-- by any roles, and by those of a header
module _ (text comment : List ℕ) where
  pub looked_both : (x : Result ℕ Stop) (roles : List Role) (name : List ℕ)
      → looked_up x roles name text comment ≡ both_in (sought_in x (lookup name roles)) text comment
  looked_both (Ok end) roles name = sym (both_held (lookup name roles) text comment)
  looked_both (Err s) roles name = refl

  pub entry_by_both : (n : ℕ) (roles : List Role) (i : ℕ)
      → entry_by n roles i text comment ≡ both_in (numbered_by n roles i) text comment
  entry_by_both n roles i = go (is_bad_length n)
    where
      at : Option Held
      at = entry_head (drop i roles)

      bad : Stop
      bad = stop_at (fault_of R.HeaderLength) 0

      by : (m : Option Stop) → unless_met m (given at text comment) text comment ≡ both_in (unless_stopped m at) text comment
      by None = sym (both_held at text comment)
      by (Some s) = refl

      go : (b : Bool)
          → cond b (untouched (N.Header bad) text comment) (entry_from (drop i roles) i text comment)
          ≡ both_in (cond b (stops bad) (numbered_from (drop i roles) i)) text comment
      go true = refl
      go false = by (met_head (drop i roles) i)

pub lookup_both : (h name text comment : List ℕ) → lookup_of h name text comment ≡ both_in (named h name) text comment
unfolding lookup_of named
lookup_both h name text comment = looked_both text comment (header_of h) (roles_of h) name

pub entry_both : (h : List ℕ) (i : ℕ) (text comment : List ℕ) → entry_of h i text comment ≡ both_in (numbered h i) text comment
unfolding entry_of numbered
entry_both h i text comment = entry_by_both text comment (length h) (roles_of h) i

module _ (text comment : List ℕ) where
  -- equal readings are answered alike
  pub both_alike : (g h m n : List ℕ) → named g m ≡ named h n → lookup_of g m text comment ≡ lookup_of h n text comment
  both_alike g h m n e =
      lookup_both g m text comment ∙ ap (λ (x : Sought). both_in x text comment) e ∙ sym (lookup_both h n text comment)

  pub entries_alike : (g h : List ℕ) (i j : ℕ) → numbered g i ≡ numbered h j → entry_of g i text comment ≡ entry_of h j text comment
  entries_alike g h i j e =
      entry_both g i text comment ∙ ap (λ (x : Sought). both_in x text comment) e ∙ sym (entry_both h j text comment)

  pub both_told : (h name : List ℕ) (x : Sought) → named h name ≡ x → lookup_of h name text comment ≡ both_in x text comment
  both_told h name x e = lookup_both h name text comment ∙ ap (λ (y : Sought). both_in y text comment) e

  -- only a missing name is answered 12
  only_12 : (x : Sought) → (both_in x text comment).answer.answer ≡ Err (N.Refused (fault_of R.NameNotFound)) → x ≡ missing
  unfolding written
  only_12 (stops s) e = cc
  only_12 missing e = refl
  only_12 (holds v) e = go (leb (length s) (length text) && leb (length c) (length comment)) e
    where
      s : List ℕ
      s = v.words.text

      c : List ℕ
      c = bytes_in v.words.comment

      fits : LookupOutcome
      fits = left_by (found_as v) (sets text 0 s) (sets comment 0 c)

      short : LookupOutcome
      short = untouched (N.Refused (fault_of R.BufferShort)) text comment

      go : (b : Bool) → (cond b fits short).answer.answer ≡ Err (N.Refused (fault_of R.NameNotFound)) → holds v ≡ missing
      go true d = cc
      go false d =
          let fault : fault_of R.BufferShort ≡ fault_of R.NameNotFound = cc in
          let why : R.BufferShort ≡ R.NameNotFound = ap (λ (f : Fault). f.why) fault in
          cc

-- ---- the statements

pub agreement : Agreement
unfolding place_of_entry
agreement h end a name k s text comment =
    entry_both h (get_or (list_of h).last k free) text comment
    ∙ ap (λ (x : Sought). both_in x text comment) (sought_at_lem h end a name k s)
    ∙ sym (lookup_both h name text comment)

pub missing_both : Missing
missing_both h end a name s text comment = both_told text comment h name missing (missing-named h end a name s)

pub only_missing_both : OnlyMissing
only_missing_both h end a name text comment e s =
    let told = ap (λ (o : LookupOutcome). o.answer.answer) (lookup_both h name text comment) in
    only_missing-named h end a name (only_12 text comment (named h name) (sym told ∙ e)) s

pub same-refusal : SameRefusal
same-refusal h s e =
    (refused_list h s e, λ name text comment. both_told text comment h name (stops s) (refused-named h s e name))

pub unmet_to_end : UnmetToEnd
unmet_to_end h end a i p text comment =
    entry_both h i text comment
    ∙ ap (λ (x : Sought). both_in x text comment) (unmet_numbered h end a i p)
    ∙ both_held (entry_head (drop i (roles_of h))) text comment
