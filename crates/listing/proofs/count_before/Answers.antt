-- `listing::count_before` meets its contract: what lies on either side of the middle place lies there with it.
use Prim.Native.Nat.{◌+◌, ◌-◌, ◌/◌}
use native.Mathlib.Omega.{arith}
use mathlib.Core.Path.{sym, ◌∙◌}
use Rattle.listing.proofs.Halving.{half-lower, half-upper}
use Rattle.listing.proofs.count_before.Goals as goal

pub loop-low-preserved-then-row_before : goal.loop-low-preserved-then-row_before
loop-low-preserved-then-row_before c =
    half-lower c.loop-low.invariant c.requires.ordered (c.loop-low.low + (c.loop-low.high - c.loop-low.low) / 2) (omega arith)
    (omega (arith, c.loop-low-test.true)) (sym c.row_before.ensures ∙ c.if-row_before.true)

pub loop-low-preserved : goal.loop-low-preserved
loop-low-preserved c =
    half-upper c.loop-low.invariant c.requires.ordered (c.loop-low.low + (c.loop-low.high - c.loop-low.low) / 2) (omega arith)
    (omega (arith, c.loop-low-test.true)) (sym c.row_before.ensures ∙ c.if-row_before.false)
