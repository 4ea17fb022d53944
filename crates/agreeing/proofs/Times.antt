-- What the list says of how many cards bear a name, proved.
use Rattle.std.specs.Prelude.{Err, Ok, Result, Option, None, Some}
use Prim.Native.Nat.{ℕ, suc, ◌+◌, ◌-◌, ◌<◌, ◌≤◌}
use native.Mathlib.Omega.{arith}
use mathlib.Core.Path.{◌≡◌, refl, ap, subst, ◌∙◌}
use mathlib.Core.Bool.{Bool, true, false, cond}
use mathlib.Core.List.{List, [], ◌∷◌}
use lib.ListN.{length, get_or, replicate, length-map, get_or-replicate}
use lib.Seq.{get_or-append-add}
use Rattle.text.specs.Same.{same}
use Rattle.text.specs.Text.{filled}
use Rattle.roles.specs.Roles.{Held, Role, entry, more, neutral, last, refused}
use Rattle.roles.specs.Cards.{cards_of, roles_of}
use Rattle.joining.specs.Lookup.{lookup, whole, or_else}
use Rattle.finding.specs.Finding.{header_of}
use Rattle.listing.specs.declared.Listing.{Listing}
use Rattle.listing.specs.Listing.{places, free, Table, tabled, list_of}
use Rattle.agreeing.specs.Firsts.{firsts_of, times_borne, times_of}
use Rattle.agreeing.specs.Agreeing.{FoundIn}
use Rattle.agreeing.specs.Times.{sum_of, AddUp, TimesAtPlace, SomeBear, NoneBear, FreeHoldNone}
use Rattle.agreeing.proofs.Counting.{sum-filled, entries_are}
use Rattle.agreeing.proofs.Agreed.{contents, times-sum, bear_at, each_standing, none_found, refused_list}
use Rattle.finding.specs.declared.Stop.{Stop}

pub add_up : AddUp
add_up h end a =
    ap (λ (x : Listing). sum_of x.times) (contents h end a)
    ∙ sum-filled places (times_of (roles_of h))
    ∙ times-sum h end a
    ∙ entries_are (cards_of h)

pub times-at_place : TimesAtPlace
times-at_place = bear_at

-- ---- once or more, and never
-- a number by whether there is an answer
abbrev Tells : Option Held → ℕ → Type 0
Tells None n = n ≡ 0
Tells (Some v) n = 0 < n

-- a name is found where an entry bears it
tells : (name : List ℕ) (rs : List Role) → Tells (lookup name rs) (times_borne name rs)
unfolding lookup times_borne
tells name [] = refl
tells name (entry m v ∷ rs) = go (lookup name rs) (times_borne name rs) (same m name) (tells name rs)
  where
    go : (o : Option Held) (n : ℕ) (b : Bool) → Tells o n → Tells (or_else o (cond b (Some (whole v rs)) None)) (cond b (suc n) n)
    go (Some w) n true p = omega arith
    go (Some w) n false p = p
    go None n true p = omega arith
    go None n false p = p
tells name (more t c ∷ rs) = tells name rs
tells name (neutral ∷ rs) = tells name rs
tells name (last ∷ rs) = refl
tells name (refused f ∷ rs) = tells name rs

told : (name : List ℕ) (rs : List Role) (o : Option Held) → lookup name rs ≡ o → Tells o (times_borne name rs)
told name rs o e = subst (λ (x : Option Held). Tells x (times_borne name rs)) e (tells name rs)

pub not_borne : (name : List ℕ) (rs : List Role) → lookup name rs ≡ None → times_borne name rs ≡ 0
not_borne name rs e = told name rs None e

pub some_bear : SomeBear
some_bear h end a name s =
    let f : FoundIn h name = each_standing h end a name s in
    told name (roles_of h) (Some f.held) f.is

pub none_bear : NoneBear
none_bear h end a name s = not_borne name (roles_of h) (none_found h end a name s)

-- ---- free places
filled-behind : (mark n : ℕ) (l : List ℕ) (k d : ℕ) → length l ≤ k → k < n → get_or (filled mark n l) k d ≡ mark
unfolding filled
filled-behind mark n l k d p q =
    let z : k ≡ length l + (k - length l) = omega arith in
    ap (λ (x : ℕ). get_or (filled mark n l) x d) z
    ∙ get_or-append-add l (replicate (n - length l) mark) (k - length l) d
    ∙ get_or-replicate (n - length l) (k - length l) mark d (omega arith)

module _ (h : List ℕ) (k : ℕ) (behind : (list_of h).count ≤ k) (within : k < places) where
  free_by : (x : Result ℕ Stop) (t : Table) → list_of h ≡ tabled x t → length t.times ≡ length t.first
      → get_or (list_of h).times k free ≡ 0
  free_by x t e alike =
      let count : (list_of h).count ≡ length t.first = ap (λ (l : Listing). l.count) e in
      ap (λ (l : Listing). get_or l.times k free) e
      ∙ filled-behind 0 places t.times k free (omega (arith, count, alike, behind)) within

  free_so : (x : Result ℕ Stop) → header_of h ≡ x → get_or (list_of h).times k free ≡ 0
  free_so (Ok end) a = free_by (Ok end) _ (contents h end a) (length-map (firsts_of (roles_of h)) _)
  free_so (Err s) e = free_by (Err s) _ (refused_list h s e) refl

pub free_hold_none : FreeHoldNone
free_hold_none h k behind within = free_so h k behind within (header_of h) refl
