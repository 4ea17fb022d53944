-- Where the scan stands after i bytes.
use Rattle.std.proofs.Common.{◌-◌, length}
use Rattle.splitting.proofs.Scanning.{Reached}
use Rattle.splitting.proofs.scan.Given as goal

abbrev pub invariant-loop-i : goal.invariant-loop-i
invariant-loop-i l = Reached l.s l.slash l.state l.bytes l.n l.i

abbrev pub decreases-loop-i : goal.decreases-loop-i
decreases-loop-i l = length l.s - l.i
