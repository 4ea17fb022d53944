-- The name at a place of the list: it stands on the first card there, and is read from it.
use Rattle.std.specs.Prelude.{Ok}
use Rattle.std.proofs.lemmas.List.{get_or-map, get_or-take}
use Prim.Native.Nat.{ℕ, ◌-◌, ◌≤◌, ◌<◌}
use native.Mathlib.Omega.{arith}
use mathlib.Core.Path.{◌≡◌, sym, ap, ◌∙◌}
use mathlib.Core.List.{List, []}
use lib.ListN.{length, get_or, take, replicate, length-append, length-take}
use Rattle.text.specs.Text.{filled}
use Rattle.roles.specs.Roles.{Role, neutral}
use Rattle.roles.specs.Cards.{roles_of}
use Rattle.finding.specs.Finding.{header_of}
use Rattle.entries.proofs.Looking.{accepted_good}
use Rattle.listing.specs.declared.Listing.{Listing}
use Rattle.listing.specs.Listing.{places, free, name_of, list_of}
use Rattle.naming.specs.Naming.{name_written, name_by, name_at}
use Rattle.agreeing.specs.Firsts.{firsts_of}
use Rattle.agreeing.specs.Agreeing.{StandsAt, PlaceTaken, names_listed, NameRead}
use Rattle.agreeing.proofs.Agreed.{each_taken, contents}

filled-long : (mark n : ℕ) (l : List ℕ) → length l ≤ length (filled mark n l)
unfolding filled
filled-long mark n l = omega (arith, length-append l (replicate (n - length l) mark))

-- ---- the name at place k of an accepted header
module _ (h : List ℕ) (end : ℕ) (a : header_of h ≡ Ok end) where
  -- its table is long enough for every place
  pub first-long : (list_of h).count ≤ length (list_of h).first
  first-long =
      let is = contents h end a in
      let count : (list_of h).count ≡ length (firsts_of (roles_of h)) = ap (λ (x : Listing). x.count) is in
      let first : length (list_of h).first ≡ length (filled free places (firsts_of (roles_of h))) = ap
      (λ (x : Listing). length x.first) is in
      omega (arith, count, first, filled-long free places (firsts_of (roles_of h)))

  -- the name that stands at place k is the k-th
  pub name_kth : (name : List ℕ) (k : ℕ) → StandsAt h name k → get_or (names_listed h) k [] ≡ name
  name_kth name k s =
      let named : ℕ → List ℕ = λ i. name_of (get_or (roles_of h) i neutral) in
      let firsts = take (list_of h).count (list_of h).first in
      let long : k < length firsts = omega (arith, s.within, first-long, length-take (list_of h).count (list_of h).first) in
      get_or-map named firsts k free [] long
      ∙ ap named (get_or-take (list_of h).count (list_of h).first k free s.within)
      ∙ ap name_of s.bears

by_card_lem : (h : List ℕ) (end : ℕ) → header_of h ≡ Ok end → (i : ℕ) (name : List ℕ)
    → name_at h i name ≡ name_by (get_or (roles_of h) i neutral) name
unfolding name_at
by_card_lem h end a i name = rw (accepted_good h end a)

pub name-read : NameRead
name-read h end a k p name =
    let t : PlaceTaken h k = each_taken h end a k p in
    by_card_lem h end a (get_or (list_of h).first k free) name
    ∙ ap (λ (r : Role). name_by r name) t.stands.bears
    ∙ ap (λ (n : List ℕ). name_written n name) (sym (name_kth h end a t.name k t.stands))
