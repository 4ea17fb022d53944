-- Every byte so far was put as it stands, and the scan is outside a string.
use Rattle.std.proofs.Common.{◌-◌, length}
use Rattle.splitting.specs.declared.Quoting.TheVariants.{Outside}
use Rattle.splitting.specs.Scanned.{Passed}
use Rattle.splitting.proofs.stretch_of.Given as goal

abbrev pub invariant-loop-i : goal.invariant-loop-i
invariant-loop-i l = Passed l.s Outside l.i

abbrev pub decreases-loop-i : goal.decreases-loop-i
decreases-loop-i l = length l.s - l.i
