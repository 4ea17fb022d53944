use Rattle.finding.proofs.Searching.{Reached}
use Rattle.finding.proofs.find.Given as goal

abbrev pub invariant-loop-i : goal.invariant-loop-i
invariant-loop-i l = Reached l.header l.name l.last l.i
