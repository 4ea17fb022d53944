-- END of an accepted header, by the roles of its cards.
use Rattle.std.specs.Prelude.{Err, Ok}
use Prim.Native.Nat.{ℕ, suc, ◌+◌}
use native.Mathlib.Omega.{arith}
use mathlib.Core.Path.{◌≡◌, sym, ap, subst, ◌∙◌}
use mathlib.Core.Bool.{Bool, cond}
use mathlib.Core.List.{List, [], ◌∷◌}
use Rattle.refusal.specs.declared.Refusal.TheVariants as R
use Rattle.refusal.specs.Numbers.{fault_of}
use Rattle.roles.specs.Roles.{Role, entry, more, neutral, last, refused}
use Rattle.roles.specs.Cards.{roles_of}
use Rattle.finding.specs.Finding.{stop_at, header_from, header_of}
use Rattle.entries.proofs.Looking.{accepted_good}
use Rattle.agreeing.proofs.Tables.{Until, here, past_entry, past_more, past_neutral}

record Ends (rs : List Role) (i e : ℕ) : Type 0 where
  pub k : ℕ
  pub is : e ≡ i + k
  pub until : Until k rs

ends : (rs : List Role) (i e : ℕ) → header_from rs i ≡ Ok e → Ends rs i e
unfolding header_from
ends [] i e d = absurd (let z : ◌≡◌ {A = ℕ} 0 1 = cc in omega arith)
ends (entry n v ∷ rs) i e d =
    let r : Ends rs (suc i) e = ends rs (suc i) e d in
    record { k = suc r.k; is = omega (arith, r.is); until = past_entry n v r.until }
ends (more t c ∷ rs) i e d =
    let r : Ends rs (suc i) e = ends rs (suc i) e d in
    record { k = suc r.k; is = omega (arith, r.is); until = past_more t c r.until }
ends (neutral ∷ rs) i e d =
    let r : Ends rs (suc i) e = ends rs (suc i) e d in
    record { k = suc r.k; is = omega (arith, r.is); until = past_neutral r.until }
ends (last ∷ rs) i e d = let z : i ≡ e = cc in record { k = 0; is = omega arith; until = here }
ends (refused f ∷ rs) i e d = absurd (let z : ◌≡◌ {A = ℕ} 0 1 = cc in omega arith)

module _ (h : List ℕ) (end : ℕ) (a : header_of h ≡ Ok end) where
  from_roles : header_from (roles_of h) 0 ≡ Ok end
  unfolding header_of
  from_roles =
      let bad = Err (stop_at (fault_of R.HeaderLength) 0) in
      sym (ap (λ (b : Bool). cond b bad (header_from (roles_of h) 0)) (accepted_good h end a)) ∙ a

  -- END is the first of its kind, and stands at card `end`
  pub until_end : Until end (roles_of h)
  until_end =
      let r : Ends (roles_of h) 0 end = ends (roles_of h) 0 end from_roles in
      let z : r.k ≡ end = omega (arith, r.is) in
      subst (λ (k : ℕ). Until k (roles_of h)) z r.until
