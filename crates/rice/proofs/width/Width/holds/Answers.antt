-- `rice::width::Width::holds`: a negative z is -1 - k, and k is compared with how many pixels are negative. Assumes nothing.
use mathlib.Core.Path.{ap, ap₂, sym, ◌∙◌}
use Prim.Native.Nat.{ℕ}
use native.Mathlib.Omega.{arith}
use lib.Dec.{ltb}
use lib.IntN.{ℤ, nat_abs}
use Rattle.rice.specs.Widths.{in_width}
use mir.Syntax.{w32}
use Rattle.laws.proofs.Signs.{Negative, is_negative, Positive, is_positive}
use Rattle.rice.proofs.width.Width.holds.Goals as goal

-- what the code has of a negative pixel, and of another
negative : (c : goal.Then-z-lt0) → Negative w32 c.args.z
negative c = is_negative w32 _ c.ranges.z c.if-z-lt0.true

positive : (c : goal.After-mask) → Positive w32 c.args.z
positive c = is_positive w32 _ c.ranges.z c.if-z-lt0.false

pub returns-then-z-lt0 : goal.returns-then-z-lt0
unfolding in_width
returns-then-z-lt0 c =
    let a = c.args in
    ap₂ (λ (y : ℤ) (m : ℕ). ltb (nat_abs y) m) (negative c).back (omega (arith, c.negatives-below.ensures))
    ∙ sym (ap (in_width a.self) (negative c).is)

pub returns-else-z-lt0 : goal.returns-else-z-lt0
unfolding in_width
returns-else-z-lt0 c =
    let a = c.args in
    ap₂ (λ (y : ℤ) (m : ℕ). ltb (nat_abs y) m) (positive c).back
    (omega (arith, c.mask.ensures, c.negatives-below.ensures))
    ∙ sym (ap (in_width a.self) (positive c).is)
