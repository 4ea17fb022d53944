-- `entries::ends_open` meets its contract: by the last byte.
use Prim.Native.Nat.{ℕ}
use native.Mathlib.Omega.{arith}
use mathlib.Core.Path.{◌≡◌, refl}
use mathlib.Core.Bool.{false}
use mathlib.Core.List.{List, [], ◌∷◌}
use lib.ListN.{length}
use Rattle.text.specs.Ends.{ends_with}
use Rattle.joining.specs.Words.{ends_open}
use Rattle.entries.proofs.ends_open.Goals as goal

nothing-open : (s : List ℕ) → length s ≡ 0 → false ≡ ends_open s
unfolding ends_open ends_with
nothing-open [] e = refl
nothing-open (b ∷ s) e = absurd (omega arith)

pub returns-then-n-eq0 : goal.returns-then-n-eq0
returns-then-n-eq0 c = nothing-open c.args.s.now c.if-n-eq0.true

pub returns : goal.returns
unfolding ends_open ends_with
returns c = refl
