-- A header's cards searched one after the other: what is left decides for the whole.
use Rattle.std.specs.Prelude.{Err, None, Ok, Option, Result, Some}
use Prim.Native.Nat.{ℕ, suc, ◌+◌, ◌/◌, ◌<◌, ◌≤◌}
use native.Mathlib.Numerals.{add-one}
use native.Mathlib.Omega.{arith}
use mathlib.Core.Path.{◌≡◌, refl, sym, ap, ◌∙◌}
use mathlib.Core.Bool.{true, false, cond}
use mathlib.Core.List.{List, ◌∷◌}
use lib.ListN.{length, drop}
use Rattle.refusal.specs.declared.Refusal.TheVariants as R
use Rattle.refusal.specs.Numbers.{fault_of}
use Rattle.text.specs.Text.{bytes_of}
use Rattle.card.specs.declared.CardRead.{CardRead}
use Rattle.roles.specs.declared.Role.{Role as Told}
use Rattle.roles.specs.declared.Role.TheVariants as T
use Rattle.roles.specs.Roles.{Role, refused, role_by, role_in, role_read}
use Rattle.roles.specs.Cards.{roles_of, role_no, is_bad_length, card_at}
use Rattle.roles.proofs.Counting.{card-here}
use Rattle.roles.proofs.Cards.{roles_from, roles_past}
use Rattle.finding.specs.declared.Stop.{Stop}
use Rattle.finding.specs.declared.Found.{Found}
use Rattle.refusal.specs.declared.Fault.{Fault}
use Rattle.finding.specs.Finding.{stop_at, header_from, header_of, last_from, last_of, find_by, find_of}
use Rattle.finding.specs.Passing.{bears_name}

-- the search among cards, the first of which has number i, where p bears the name so far
abbrev find_from : List ℕ → List Role → ℕ → Option ℕ → Result Found Stop
find_from name h i p = find_by (header_from h i) (last_from name h i p)

-- a header of a bad length, and of a good one
pub bad_found : (h name : List ℕ) → is_bad_length (length h) ≡ true → Err (stop_at (fault_of R.HeaderLength) 0) ≡ find_of h name
unfolding find_of header_of
bad_found h name e = rw e

good_found : (h name : List ℕ) → is_bad_length (length h) ≡ false → find_from name (roles_of h) 0 None ≡ find_of h name
unfolding find_of header_of
good_found h name e = rw e

-- ---- one card, by its role as the code has it
module _ (name : List ℕ) (i : ℕ) (p : Option ℕ) (r : CardRead) (h : List Role) where
  on_so : (t : Told) → (t ≡ T.Last → ⊥)
      → find_from name (role_in t r ∷ h) i p ≡ find_from name h (suc i) (cond (bears_name t (bytes_of r.name) name) (Some i) p)
  unfolding header_from last_from
  on_so (T.Entry v joins) e = refl
  on_so T.More e = refl
  on_so T.Neutral e = refl
  on_so T.Last e = absurd (e refl)

  ends_so : (t : Told) → t ≡ T.Last → Ok (record { end = i; last = p }) ≡ find_from name (role_in t r ∷ h) i p
  unfolding header_from last_from
  ends_so t e = rw e

stops_so : (name : List ℕ) (i : ℕ) (p : Option ℕ) (f : Fault) (h : List Role) → Err (stop_at f i) ≡ find_from name (refused f ∷ h) i p
unfolding header_from last_from
stops_so name i p f h = refl

-- ---- where the loop stands
pub record Reached (h name : List ℕ) (p : Option ℕ) (i : ℕ) : Type 0 where
  pub within : i ≤ length h / 80
  pub left : find_from name (drop i (roles_of h)) i p ≡ find_from name (roles_of h) 0 None

pub start : (h name : List ℕ) → Reached h name None 0
start h name = record { within = omega arith; left = refl }

module _ {h name : List ℕ} {p : Option ℕ} {i : ℕ} (S : Reached h name p i) where
  pub at_end : is_bad_length (length h) ≡ false → length h / 80 ≤ i
      → Err (stop_at (fault_of R.NoEnd) (length h / 80)) ≡ find_of h name
  unfolding header_from
  at_end good past =
      let all : length h / 80 ≡ i = omega (arith, S.within) in
      ap (λ (k : ℕ). Err (stop_at (fault_of R.NoEnd) k)) all
      ∙ sym (ap (λ (l : List Role). find_from name l i p) (roles_past h i past))
      ∙ S.left
      ∙ good_found h name good

  module _ (next : i < length h / 80) where
    abbrev rest : List Role
    rest = drop (i + 1) (roles_of h)

    here : (x : Role) → x ≡ role_no h i → find_from name (x ∷ rest) i p ≡ find_from name (roles_of h) 0 None
    here x is =
        ap (λ (y : Role). find_from name (y ∷ rest) i p) is
        ∙ sym (ap (λ (l : List Role). find_from name l i p) (roles_from h i next))
        ∙ S.left

    -- what card i is read as
    module _ (read : Result CardRead Fault) (e : read ≡ card_at h i) where
      told : (x : Result CardRead Fault) → read ≡ x → role_read x ≡ role_no h i
      told x is = ap role_read (sym is ∙ e ∙ card-here h i next)

      pub on_card : (r : CardRead) (t : Told) → read ≡ Ok r → t ≡ role_by r.card → (t ≡ T.Last → ⊥)
          → Reached h name (cond (bears_name t (bytes_of r.name) name) (Some i) p) (i + 1)
      on_card r t is d more =
          let q = cond (bears_name t (bytes_of r.name) name) (Some i) p in
          record {
            within = omega arith;
            left =
                ap (λ (k : ℕ). find_from name rest k q) (add-one i)
                ∙ sym (on_so name i p r rest t more)
                ∙ here (role_in t r) (ap (λ (x : Told). role_in x r) d ∙ told (Ok r) is);
          }

      pub on_end : is_bad_length (length h) ≡ false → (r : CardRead) (t : Told) → read ≡ Ok r → t ≡ role_by r.card → t ≡ T.Last
          → Ok (record { end = i; last = p }) ≡ find_of h name
      on_end good r t is d end =
          ends_so name i p r rest t end
          ∙ here (role_in t r) (ap (λ (x : Told). role_in x r) d ∙ told (Ok r) is)
          ∙ good_found h name good

      pub on_refused : is_bad_length (length h) ≡ false → (f : Fault) → read ≡ Err f → Err (stop_at f i) ≡ find_of h name
      on_refused good f is = stops_so name i p f rest ∙ here (refused f) (told (Err f) is) ∙ good_found h name good

-- ---- what is found says what the header is
by_refused : (x : Result ℕ Stop) (p : Option ℕ) (s : Stop) → find_by x p ≡ Err s → x ≡ Err s
by_refused (Err t) p s e = cc
by_refused (Ok i) p s e = cc

by_read : (x : Result ℕ Stop) (p : Option ℕ) (f : Found) → find_by x p ≡ Ok f → (x ≡ Ok f.end) × (p ≡ f.last)
by_read (Err t) p f e = (cc, cc)
by_read (Ok i) p f e =
    let is : ◌≡◌ {A = Found} (record { end = i; last = p }) f = cc in
    (ap (λ (x : Found). Ok x.end) is, ap (λ (x : Found). x.last) is)

module _ (h name : List ℕ) where
  pub header_refused : (s : Stop) → find_of h name ≡ Err s → header_of h ≡ Err s
  unfolding find_of
  header_refused s e = by_refused (header_of h) (last_of name (roles_of h)) s e

  pub header_read : (f : Found) → find_of h name ≡ Ok f → (header_of h ≡ Ok f.end) × (last_of name (roles_of h) ≡ f.last)
  unfolding find_of
  header_read f e = by_read (header_of h) (last_of name (roles_of h)) f e
