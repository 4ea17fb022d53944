-- `rice::width::Scale::fours`: fours of pixels lead on from the start. Assumes nothing.
use native.Mathlib.Omega.{arith}
use Rattle.rice.proofs.Filling.{pairs_small}
use Rattle.rice.proofs.width.Scale.fours.Goals as goal

pub store_four-at-requires-clause-a_bound : goal.store_four-at-requires-clause-a_bound
store_four-at-requires-clause-a_bound c =
    let r = c.requires.tile_len_bound in
    let small = pairs_small c.args.tile.now c.loop-part.at.bit c.args.fs r.1 c.in-Some.ensures in
    (small.0, small.1, small.2, small.3, omega (arith, c.loop-part.invariant.sized, r.2))
