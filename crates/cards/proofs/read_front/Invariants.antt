-- What is read stays within the buffer, and each read that goes on takes a byte.
use Rattle.std.proofs.Common.{◌-◌, ◌≤◌, length}
use Rattle.cards.proofs.read_front.Given as goal

abbrev pub invariant-loop-done : goal.invariant-loop-done
invariant-loop-done g l = l.done ≤ length l.buffer

abbrev pub decreases-loop-done : goal.decreases-loop-done
decreases-loop-done g l = length l.buffer - l.done
