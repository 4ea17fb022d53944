-- The unit of a comment by both readings: by what a test says, and how the two stand to each other.
use Rattle.std.specs.Prelude.{None, Option, Some}
use Prim.Native.Nat.{ℕ, ◌+◌, ◌-◌, ◌<◌, ◌≤◌}
use Prim.Native.Char.{code}
use native.Mathlib.Numerals.{add-one}
use native.Mathlib.Omega.{arith}
use mathlib.Core.Path.{◌≡◌, refl, sym, ap, ◌∙◌}
use mathlib.Core.Bool.{Bool, true, false, cond}
use mathlib.Core.List.{List, [], ◌∷◌}
use mathlib.Core.Logic.{◌⊎◌, inl, inr, ⊎_elim}
use borrow.Author.Tests.{eq-eqb, ne_eqb, eqb-true}
use lib.Dec.{eqb}
use lib.ListN.{length, drop, get_or}
use Rattle.text.specs.Place.{place_of}
use Rattle.text.proofs.Finding.{found_within}
use Rattle.numbers.proofs.Fronts.{none, front}
use Rattle.value.specs.Units.{closed_at, unit_of, behind_one, unit_past_space, unit_bytes}
use Rattle.value.specs.Units.{SameUnit, IsUnit, at_once, past_space, ExactlyThose}

-- ---- by the first byte
module _ (s : List ℕ) (empty : length s ≡ 0) where
  pub unit_empty : unit_of s ≡ None
  unfolding unit_of
  unit_empty = ap unit_of (none s empty)

  pub past_empty : unit_past_space s ≡ None
  unfolding unit_past_space
  past_empty = ap unit_past_space (none s empty)

module _ (s : List ℕ) (any : length s ≡ 0 → ⊥) where
  pub unit_none : (get_or s 0 0 ≡ code "[" → ⊥) → unit_of s ≡ None
  unfolding unit_of
  unit_none e = ap unit_of (front s any) ∙ rw (ne_eqb _ (code "[") e)

  pub unit_some : get_or s 0 0 ≡ code "[" → unit_of s ≡ closed_at (place_of (code "]") (drop 1 s))
  unfolding unit_of
  unit_some e = ap unit_of (front s any) ∙ rw (eq-eqb _ (code "[") e)

  pub past_none : (get_or s 0 0 ≡ code " " → ⊥) → unit_past_space s ≡ unit_of s
  unfolding unit_past_space
  past_none e = ap unit_past_space (front s any) ∙ rw (ne_eqb _ (code " ") e, ← front s any)

  pub past_some : get_or s 0 0 ≡ code " " → unit_past_space s ≡ behind_one (unit_of (drop 1 s))
  unfolding unit_past_space
  past_some e = ap unit_past_space (front s any) ∙ rw (eq-eqb _ (code " ") e)

-- the ends of a place
abbrev front_of : Option (ℕ × ℕ) → ℕ
front_of (Some (from, to)) = from
front_of None = 0

abbrev end_of : Option (ℕ × ℕ) → ℕ
end_of (Some (from, to)) = to
end_of None = 0

-- a unit ends within its comment, and does not start behind its end
pub unit_within : (s : List ℕ) (from to : ℕ) → unit_of s ≡ Some (from, to) → (from ≤ to) × (to < length s)
unfolding unit_of
unit_within [] from to e = absurd (let z : ◌≡◌ {A = ℕ} 0 1 = cc in omega arith)
unit_within (b ∷ s) from to e = go (eqb b (code "[")) (place_of (code "]") s) refl e
  where
    go : (t : Bool) (p : Option ℕ) → place_of (code "]") s ≡ p → cond t (closed_at p) None ≡ Some (from, to)
        → (from ≤ to) × (to < length (b ∷ s))
    go true (Some i) d e =
        let inside = found_within (code "]") s i d in
        let start : 1 ≡ from = ap (λ (x : Option (ℕ × ℕ)). front_of x) e in
        let end : i + 1 ≡ to = ap (λ (x : Option (ℕ × ℕ)). end_of x) e in
        (omega arith, omega arith)
    go true None d e = absurd (let z : ◌≡◌ {A = ℕ} 0 1 = cc in omega arith)
    go false p d e = absurd (let z : ◌≡◌ {A = ℕ} 0 1 = cc in omega arith)

-- ---- how the two readings stand to each other

-- both read the same, or a space in front hides the unit from the first
same-or-none : (c : List ℕ) → (unit_past_space c ≡ unit_of c) ⊎ (unit_of c ≡ None)
unfolding unit_of unit_past_space
same-or-none [] = inl refl
same-or-none (b ∷ s) = go (eqb b (code " ")) refl
  where
    go : (t : Bool) → eqb b (code " ") ≡ t
        → (cond t (behind_one (unit_of s)) (unit_of (b ∷ s)) ≡ unit_of (b ∷ s)) ⊎ (unit_of (b ∷ s) ≡ None)
    go true e = inr (unit_none (b ∷ s) (λ h. omega arith) (λ h. omega (arith, eqb-true b (code " ") e)))
    go false e = inl refl

pub same_unit : SameUnit
same_unit c from to e = ⊎_elim (λ same. same ∙ e) (λ hidden. cc) (same-or-none c)

-- a place that is counted from a byte before holds the same bytes
bytes-behind : (p : Option (ℕ × ℕ)) (b : ℕ) (s : List ℕ) → unit_bytes (behind_one p) (b ∷ s) ≡ unit_bytes p s
bytes-behind (Some (from, to)) b s = let long : to + 1 - (from + 1) ≡ to - from = omega arith in rw (long, add-one from)
bytes-behind None b s = refl

all_those : (c u : List ℕ) → IsUnit c u → unit_bytes (unit_past_space c) c ≡ Some u
unfolding unit_past_space
all_those c u (at_once e) =
    ⊎_elim (λ same. ap (λ (p : Option (ℕ × ℕ)). unit_bytes p c) same ∙ e)
    (λ hidden. let clash = sym (ap (λ (p : Option (ℕ × ℕ)). unit_bytes p c) hidden) ∙ e in cc)
    (same-or-none c)
all_those c u (past_space s d e) =
    ap (λ (x : List ℕ). unit_bytes (unit_past_space x) x) d ∙ bytes-behind (unit_of s) (code " ") s ∙ e

only_those : (c u : List ℕ) → unit_bytes (unit_past_space c) c ≡ Some u → IsUnit c u
unfolding unit_of unit_past_space
only_those [] u e = at_once e
only_those (b ∷ s) u e = go (eqb b (code " ")) refl e
  where
    go : (t : Bool) → eqb b (code " ") ≡ t
        → unit_bytes (cond t (behind_one (unit_of s)) (unit_of (b ∷ s))) (b ∷ s) ≡ Some u
        → IsUnit (b ∷ s) u
    go true d e = past_space s (ap (λ (x : ℕ). x ∷ s) (eqb-true b (code " ") d)) (sym (bytes-behind (unit_of s) b s) ∙ e)
    go false d e = at_once e

pub exactly_those : ExactlyThose
exactly_those c u = (only_those c u, all_those c u)
