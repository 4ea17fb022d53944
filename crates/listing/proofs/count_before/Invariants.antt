-- The places are halved until it is known where the key stands among them.
use Rattle.std.proofs.Common.{◌-◌}
use Rattle.listing.proofs.Halving.{Halving}
use Rattle.listing.proofs.count_before.Given as goal

abbrev pub invariant-loop-low : goal.invariant-loop-low
invariant-loop-low l = Halving l.keys l.order l.count l.low l.high

abbrev pub decreases-loop-low : goal.decreases-loop-low
decreases-loop-low l = l.high - l.low
