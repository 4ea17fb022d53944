-- Up to END of an accepted header no refused card stands, so an entry by its card meets none.
use Rattle.std.specs.Prelude.{Err, Ok, Option, None}
use Prim.Native.Nat.{ℕ, zero, suc, ◌+◌, ◌≤◌}
use native.Mathlib.Nat.{zero-add}
use native.Mathlib.Omega.{arith}
use mathlib.Core.Path.{◌≡◌, refl, sym, ap, ◌∙◌}
use mathlib.Core.Bool.{Bool, cond}
use mathlib.Core.List.{List, [], ◌∷◌}
use lib.ListN.{drop}
use Rattle.refusal.specs.declared.Refusal.TheVariants as R
use Rattle.refusal.specs.Numbers.{fault_of}
use Rattle.roles.specs.Roles.{Role, entry, more, neutral, last, refused}
use Rattle.roles.specs.Cards.{roles_of}
use Rattle.finding.specs.declared.Stop.{Stop}
use Rattle.finding.specs.Finding.{stop_at, header_from, header_of}
use Rattle.entries.specs.Answers.{entry_head, met_head}
use Rattle.entries.specs.Halves.{unless_stopped, numbered}
use Rattle.entries.proofs.Looking.{accepted_good, accepted_unmet}
use Rattle.agreeing.specs.Halves.{UnmetNumbered}

apart : (s : Stop) (k : ℕ) → Err s ≡ Ok k → ⊥
apart s k d = let z : ◌≡◌ {A = ℕ} 0 1 = cc in omega arith

-- the cards from number i on are those of an accepted header too
later : (rs : List Role) (i k m end : ℕ) → header_from rs k ≡ Ok end → m ≡ k + i → m ≤ end
    → header_from (drop i rs) m ≡ Ok end
unfolding header_from
later rs zero k m end a e h = let same : m ≡ k = omega arith in ap (header_from rs) same ∙ a
later [] (suc i) k m end a e h = absurd (apart (stop_at (fault_of R.NoEnd) k) end a)
later (entry n v ∷ rs) (suc i) k m end a e h = later rs i (suc k) m end a (omega arith) h
later (more t c ∷ rs) (suc i) k m end a e h = later rs i (suc k) m end a (omega arith) h
later (neutral ∷ rs) (suc i) k m end a e h = later rs i (suc k) m end a (omega arith) h
later (last ∷ rs) (suc i) k m end a e h = absurd (let same : k ≡ end = cc in omega arith)
later (refused f ∷ rs) (suc i) k m end a e h = absurd (apart (stop_at f k) end a)

-- and so the first of them is not refused, nor is a card that is joined to it
unmet : (rs : List Role) (i end : ℕ) → header_from rs i ≡ Ok end → met_head rs i ≡ None
unfolding header_from
unmet [] i end a = refl
unmet (entry n v ∷ rs) i end a = accepted_unmet rs (suc i) end a v.words (suc i)
unmet (more t c ∷ rs) i end a = refl
unmet (neutral ∷ rs) i end a = refl
unmet (last ∷ rs) i end a = refl
unmet (refused f ∷ rs) i end a = absurd (apart (stop_at f i) end a)

pub unmet_numbered : UnmetNumbered
unfolding header_of numbered
unmet_numbered h end a i p =
    let roles = roles_of h in
    let good = accepted_good h end a in
    let read : header_from roles 0 ≡ Ok end =
    sym (ap (λ (b : Bool). cond b (Err (stop_at (fault_of R.HeaderLength) 0)) (header_from roles 0)) good) ∙ a in
    let met : met_head (drop i roles) i ≡ None = unmet (drop i roles) i end (later roles i 0 i end read (sym (zero-add i)) p) in
    rw good (ap (λ (m : Option Stop). unless_stopped m (entry_head (drop i roles))) met)
