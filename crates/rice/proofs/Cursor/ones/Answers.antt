-- `rice::Cursor::ones`: each block of one pixel goes on from what is reached. Assumes nothing.
use native.Mathlib.Omega.{arith}
use Rattle.rice.proofs.Singles.{single_small, onto-one}
use Rattle.rice.proofs.Cursor.ones.Goals as goal

pub store-level-requires : goal.store-level-requires
store-level-requires c = (c.ones.invariant.small, single_small c.in-Some.ensures, omega arith)

pub ones-preserved : goal.ones-preserved
ones-preserved c =
    let s = c.store-level.ensures in
    onto-one c.ones.invariant c.ones-test.true _ _ _ _ c.in-Some.ensures s.upper_bound.0 s.upper_bound.1 s.part_after
