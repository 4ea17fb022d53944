-- `rice::width::Scale::raw_block`: two raw numbers a turn, and one where the block has an odd number of pixels. Assumes nothing.
use mathlib.Core.Path.{refl, ap}
use Prim.Native.Nat.{ℕ, ◌+◌, ◌<◌}
use native.Mathlib.Omega.{arith}
use lib.ListN.{length}
use Rattle.rice.proofs.RawPixels.{raw_small, raw_on, raw_end}
use Rattle.rice.proofs.width.Scale.raw_block.Goals as goal

pub store-first-requires : goal.store-first-requires
store-first-requires c =
    (c.loop-part.invariant.on.inside.1, raw_small c.args.self.width c.args.tile.now _ _ c.raw_at-a.ensures, omega arith)

pub store-level-requires : goal.store-level-requires
store-level-requires c =
    (c.store-first.ensures.upper_bound.0, raw_small c.args.self.width c.args.tile.now _ _ c.raw_at-b.ensures, omega arith)

pub loop-part-preserved : goal.loop-part-preserved
loop-part-preserved c =
    let l = c.loop-part in
    let room = c.requires.part_in_bounds in
    let first = raw_on l.invariant room _ _ _ (l.k + c.start_bytes-size.result) (l.i + 1) (omega arith) c.raw_at-a.ensures
    (c.store-first.ensures.upper_bound, c.store-first.ensures.part_after) (ap (λ (n : ℕ). l.k + n) c.start_bytes-size.ensures) refl in
    let another : l.i + 1 < length c.store-first.new.part = omega (arith, first.on.sized, l.invariant.on.sized, c.loop-part-test.true) in
    raw_on first room _ _ _ _ _ another c.raw_at-b.ensures
    (c.store-level.ensures.upper_bound, c.store-level.ensures.part_after) (omega (arith, c.start_bytes-size.ensures)) (omega arith)

pub store-level-requires-then-i-part : goal.store-level-requires-then-i-part
store-level-requires-then-i-part c =
    (c.loop-part.invariant.on.inside.1, raw_small c.args.self.width c.args.tile.now _ _ c.raw_at-a-then-i-part.ensures, omega arith)

pub returns-then-i-part : goal.returns-then-i-part
returns-then-i-part c =
    let l = c.loop-part in
    let room = c.requires.part_in_bounds in
    let last = raw_on l.invariant room _ _ _ _ _ c.if-i-part.true c.raw_at-a-then-i-part.ensures
    (c.store-level-then-i-part.ensures.upper_bound, c.store-level-then-i-part.ensures.part_after) refl refl in
    raw_end last room (omega (arith, last.on.sized, l.invariant.on.sized, c.loop-part-test.false))

pub returns-else-i-part : goal.returns-else-i-part
returns-else-i-part c = raw_end c.loop-part.invariant c.requires.part_in_bounds c.if-i-part.false
