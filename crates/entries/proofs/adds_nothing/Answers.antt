-- `entries::adds_nothing` meets its contract, by the length.
use Rattle.std.proofs.Common.{◌≡◌, ℕ, List, [], ◌∷◌, length, refl, ◌∙◌, arith, true, false}
use Prim.Native.Char.{code}
use lib.Dec.{eqb}
use lib.ListN.{get_or}
use borrow.Author.Tests.{ne_eqb}
use Rattle.text.specs.Bytes.{is_space}
use Rattle.joining.specs.Words.{adds_nothing}
use Rattle.entries.proofs.adds_nothing.Goals as goal

none : (t : List ℕ) → length t ≡ 0 → true ≡ adds_nothing t
unfolding adds_nothing
none [] e = refl
none (b ∷ t) e = absurd (omega arith)

one : (t : List ℕ) → length t ≡ 1 → eqb (get_or t 0 0) (code " ") ≡ adds_nothing t
unfolding adds_nothing is_space
one [] e = absurd (omega arith)
one (b ∷ []) e = refl
one (b ∷ c ∷ t) e = absurd (omega arith)

some : (t : List ℕ) → (length t ≡ 0 → ⊥) → (length t ≡ 1 → ⊥) → false ≡ adds_nothing t
unfolding adds_nothing
some [] e d = absurd (e refl)
some (b ∷ []) e d = absurd (d refl)
some (b ∷ c ∷ t) e d = refl

pub returns-then-s-eq0 : goal.returns-then-s-eq0
returns-then-s-eq0 c = none c.args.s.now c.if-s-eq0.true

pub returns-then-s-eq1 : goal.returns-then-s-eq1
returns-then-s-eq1 c = one c.args.s.now c.if-s-eq1.true

pub returns-else-s-eq1 : goal.returns-else-s-eq1
returns-else-s-eq1 c = ne_eqb (length c.args.s.now) 1 c.if-s-eq1.false ∙ some c.args.s.now c.if-s-eq0.false c.if-s-eq1.false
