-- The last card that bears a name gives what the name is answered.
use Rattle.std.specs.Prelude.{Err, None, Ok, Option, Some}
use Prim.Native.Nat.{ℕ, suc, ◌+◌, ◌/◌, ◌<◌, ◌≤◌}
use native.Mathlib.Numerals.{add-one}
use native.Mathlib.Omega.{arith}
use mathlib.Core.Path.{◌≡◌, refl, sym, ap, subst, ◌∙◌}
use mathlib.Core.Bool.{Bool, true, false, cond}
use mathlib.Core.List.{List, [], ◌∷◌}
use lib.ListN.{length, drop}
use lib.Seq.{drop-drop}
use Rattle.refusal.specs.declared.Refusal.TheVariants as R
use Rattle.refusal.specs.Numbers.{fault_of}
use Rattle.text.specs.Same.{same}
use Rattle.text.proofs.Finding.{Under}
use Rattle.roles.specs.Roles.{Words, Role, entry, more, neutral, last, refused}
use Rattle.roles.specs.Cards.{roles_of, is_bad_length}
use Rattle.roles.proofs.Cards.{role_count, roles_past}
use Rattle.joining.specs.Words.{opens, join_words}
use Rattle.joining.specs.Lookup.{or_else, whole, lookup}
use Rattle.joining.proofs.Names.{or-none}
use Rattle.joining.proofs.Answers.{or_assoc}
use Rattle.finding.specs.declared.Stop.{Stop}
use Rattle.finding.specs.Finding.{stop_at, header_from, header_of, last_from, last_of}
use Rattle.entries.specs.Answers.{entry_head, entry_at, met_on, met_head}
use Rattle.entries.specs.Halves.{missing, held_in, unless_stopped, numbered_from}

-- a refused header is not accepted
apart : (s : Stop) (k : ℕ) → Err s ≡ Ok k → ⊥
apart s k d = let z : ◌≡◌ {A = ℕ} 0 1 = cc in omega arith

-- a header of a bad length is not accepted
pub accepted_good : (h : List ℕ) (k : ℕ) → header_of h ≡ Ok k → is_bad_length (length h) ≡ false
unfolding header_of
accepted_good h k e = go (is_bad_length (length h)) e
  where
    go : (b : Bool) → cond b (Err (stop_at (fault_of R.HeaderLength) 0)) (header_from (roles_of h) 0) ≡ Ok k → b ≡ false
    go true d = absurd (apart _ k d)
    go false d = refl

-- ---- the entry at a place
pub drop_next : (all : List Role) (i : ℕ) (rs : List Role) (r : Role) → drop i all ≡ r ∷ rs → drop (suc i) all ≡ rs
drop_next all i rs r e = ap (λ (k : ℕ). drop k all) (sym (add-one i)) ∙ sym (drop-drop 1 i all) ∙ ap (drop 1) e

module _ (name : List ℕ) where
  -- the last place from i on, or the place before it, gives what the rest answers, or what was answered before
  last_answers : (all rs : List Role) (i : ℕ) (p : Option ℕ) → drop i all ≡ rs
      → entry_at (last_from name rs i p) all ≡ or_else (lookup name rs) (entry_at p all)
  unfolding last_from lookup
  last_answers all [] i p e = refl
  last_answers all (entry m v ∷ rs) i p e =
      last_answers all rs (suc i) (cond (same m name) (Some i) p) (drop_next all i rs (entry m v) e)
      ∙ here (same m name)
      ∙ sym (or_assoc (lookup name rs) (cond (same m name) (Some (whole v rs)) None) (entry_at p all))
    where
      here : (b : Bool) → or_else (lookup name rs) (entry_at (cond b (Some i) p) all)
          ≡ or_else (lookup name rs) (or_else (cond b (Some (whole v rs)) None) (entry_at p all))
      here true = ap (λ (l : List Role). or_else (lookup name rs) (entry_head l)) e
      here false = refl
  last_answers all (more t c ∷ rs) i p e = last_answers all rs (suc i) p (drop_next all i rs (more t c) e)
  last_answers all (neutral ∷ rs) i p e = last_answers all rs (suc i) p (drop_next all i rs neutral e)
  last_answers all (last ∷ rs) i p e = refl
  last_answers all (refused f ∷ rs) i p e = last_answers all rs (suc i) p (drop_next all i rs (refused f) e)

  pub last_found : (roles : List Role) → entry_at (last_of name roles) roles ≡ lookup name roles
  last_found roles = last_answers roles roles 0 None refl ∙ or-none (lookup name roles)

  -- a last place is one of the header's
  last_under : (n : ℕ) (rs : List Role) (i : ℕ) (p : Option ℕ) → i + length rs ≤ n → Under n p → Under n (last_from name rs i p)
  unfolding last_from
  last_under n [] i p h u = u
  last_under n (entry m v ∷ rs) i p h u = last_under n rs (suc i) (cond (same m name) (Some i) p) (omega arith) (go (same m name))
    where
      go : (b : Bool) → Under n (cond b (Some i) p)
      go true = omega arith
      go false = u
  last_under n (more t c ∷ rs) i p h u = last_under n rs (suc i) p (omega arith) u
  last_under n (neutral ∷ rs) i p h u = last_under n rs (suc i) p (omega arith) u
  last_under n (last ∷ rs) i p h u = u
  last_under n (refused f ∷ rs) i p h u = last_under n rs (suc i) p (omega arith) u

  pub last_within : (h : List ℕ) (k : ℕ) → last_of name (roles_of h) ≡ Some k → k < length h / 80
  last_within h k e =
      let under = last_under (length h / 80) (roles_of h) 0 None (omega (arith, role_count h)) tt in
      subst (Under (length h / 80)) e under

-- beyond the cards there is no entry
pub none_past : (h : List ℕ) (i : ℕ) → length h / 80 ≤ i → missing ≡ numbered_from (drop i (roles_of h)) i
none_past h i p = sym (ap (λ (l : List Role). numbered_from l i) (roles_past h i p))

-- ---- an accepted header has no refused card before END, so joining meets none
either : (b : Bool) (m : Option Stop) → m ≡ None → cond b m None ≡ None
either true m e = e
either false m e = refl

pub accepted_unmet : (rs : List Role) (i e : ℕ) → header_from rs i ≡ Ok e → (w : Words) (j : ℕ) → met_on w rs j ≡ None
unfolding header_from met_on
accepted_unmet [] i e a w j = refl
accepted_unmet (entry n v ∷ rs) i e a w j = refl
accepted_unmet (more t c ∷ rs) i e a w j = either (opens w) _ (accepted_unmet rs (suc i) e a (join_words w t c) (suc j))
accepted_unmet (neutral ∷ rs) i e a w j = accepted_unmet rs (suc i) e a w (suc j)
accepted_unmet (last ∷ rs) i e a w j = refl
accepted_unmet (refused f ∷ rs) i e a w j = absurd (apart (stop_at f i) e a)

-- the refused card that reading the entry at a place meets
abbrev met_in : Option ℕ → List Role → Option Stop
met_in (Some k) roles = met_head (drop k roles) k
met_in None roles = None

module _ (name : List ℕ) (end : ℕ) where
  last_unmet : (all rs : List Role) (i : ℕ) (p : Option ℕ) → drop i all ≡ rs → header_from rs i ≡ Ok end
      → met_in p all ≡ None
      → met_in (last_from name rs i p) all ≡ None
  unfolding last_from header_from
  last_unmet all [] i p e a u = u
  last_unmet all (entry m v ∷ rs) i p e a u =
      last_unmet all rs (suc i) (cond (same m name) (Some i) p) (drop_next all i rs (entry m v) e) a (go (same m name))
    where
      go : (b : Bool) → met_in (cond b (Some i) p) all ≡ None
      go true = ap (λ (l : List Role). met_head l i) e ∙ accepted_unmet rs (suc i) end a v.words (suc i)
      go false = u
  last_unmet all (more t c ∷ rs) i p e a u = last_unmet all rs (suc i) p (drop_next all i rs (more t c) e) a u
  last_unmet all (neutral ∷ rs) i p e a u = last_unmet all rs (suc i) p (drop_next all i rs neutral e) a u
  last_unmet all (last ∷ rs) i p e a u = u
  last_unmet all (refused f ∷ rs) i p e a u = absurd (apart (stop_at f i) end a)

  -- so in an accepted header the entry at the last card that bears a name is what the name is answered
  pub last-read : (h : List ℕ) (k : ℕ) → header_of h ≡ Ok end → last_of name (roles_of h) ≡ Some k
      → numbered_from (drop k (roles_of h)) k ≡ held_in (entry_at (Some k) (roles_of h))
  unfolding header_of
  last-read h k a e =
      let roles = roles_of h in
      let good = accepted_good h end a in
      let read : header_from roles 0 ≡ Ok end =
      sym (ap (λ (b : Bool). cond b (Err (stop_at (fault_of R.HeaderLength) 0)) (header_from roles 0)) good) ∙ a in
      let met : met_in (Some k) roles ≡ None = ap (λ (p : Option ℕ). met_in p roles) (sym e)
      ∙ last_unmet roles roles 0 None refl read refl in
      ap (λ (m : Option Stop). unless_stopped m (entry_head (drop k roles))) met
