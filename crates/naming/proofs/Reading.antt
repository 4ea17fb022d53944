-- What reading a name comes to, by the tests of the code.
use Rattle.std.specs.Prelude.{Ok}
use Prim.Native.Nat.{ℕ, ◌/◌, ◌<◌, ◌≤◌}
use native.Mathlib.Omega.{arith}
use mathlib.Core.Path.{◌≡◌, sym, ap, ◌∙◌}
use mathlib.Core.Bool.{true, false}
use mathlib.Core.List.{List}
use borrow.Author.Tests.{le-leb, lt-leb}
use lib.ListN.{length, get_or, get_or-eq_default}
use lib.Seq.{sets}
use Rattle.refusal.specs.declared.Refusal.TheVariants as R
use Rattle.refusal.specs.Numbers.{fault_of}
use Rattle.roles.specs.Roles.{Role, neutral}
use Rattle.roles.specs.Cards.{role_no, roles_of, is_bad_length}
use Rattle.roles.proofs.Cards.{role_count, role_is}
use Rattle.naming.specs.Naming.{naming_by, unnamed, name_written, name_by, name_at}

-- ---- a name and its buffer
pub fits : (own name : List ℕ) → length own ≤ length name → naming_by (Ok (length own)) (sets name 0 own) ≡ name_written own name
unfolding name_written
fits own name h = rw (le-leb (length own) (length name) h)

pub short : (own name : List ℕ) → length name < length own → unnamed (fault_of R.BufferShort) name ≡ name_written own name
unfolding name_written
short own name h = rw (lt-leb (length own) (length name) h)

-- ---- a header and a number
module _ (h : List ℕ) (i : ℕ) (name : List ℕ) where
  pub bad : is_bad_length (length h) ≡ true → unnamed (fault_of R.HeaderLength) name ≡ name_at h i name
  unfolding name_at
  bad e = rw e

  good : is_bad_length (length h) ≡ false → name_by (get_or (roles_of h) i neutral) name ≡ name_at h i name
  unfolding name_at
  good e = rw e

  -- a card that the header lacks bears none
  pub past : is_bad_length (length h) ≡ false → length h / 80 ≤ i → unnamed (fault_of R.NameNotFound) name ≡ name_at h i name
  past e p =
      let long : length (roles_of h) ≤ i = omega (arith, role_count h) in
      sym (ap (λ (r : Role). name_by r name) (get_or-eq_default (roles_of h) neutral long)) ∙ good e

  -- a card that it has decides by what it is to the header
  pub here : is_bad_length (length h) ≡ false → i < length h / 80 → name_by (role_no h i) name ≡ name_at h i name
  here e p = sym (ap (λ (r : Role). name_by r name) (role_is h i p)) ∙ good e
