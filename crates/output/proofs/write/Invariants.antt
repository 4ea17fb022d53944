-- The bytes that the writes took are summed, and none takes more than are left.
use Rattle.std.proofs.Common.{length, ◌-◌, ◌≤◌}
use Rattle.output.proofs.write.Given as goal

abbrev pub invariant-loop-done : goal.invariant-loop-done
invariant-loop-done g l = l.done ≤ length l.s

abbrev pub decreases-loop-done : goal.decreases-loop-done
decreases-loop-done g l = length l.s - l.done
