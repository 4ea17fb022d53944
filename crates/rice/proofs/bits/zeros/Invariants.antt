use Prim.Native.Nat.{◌-◌}
use Rattle.rice.proofs.ZeroRuns.{Passed}
use Rattle.rice.proofs.bits.zeros.Given as goal

abbrev pub invariant-loop-k : goal.invariant-loop-k
invariant-loop-k l = Passed l.s l.p l.n l.k

abbrev pub decreases-loop-k : goal.decreases-loop-k
decreases-loop-k l = l.n - l.k
