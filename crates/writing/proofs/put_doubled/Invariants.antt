use Rattle.writing.proofs.Cutting.{Filling}
use Rattle.writing.proofs.put_doubled.Given as goal

abbrev pub invariant-loop-b : goal.invariant-loop-b
invariant-loop-b l = Filling l.fn.s l.fn.block l.fn.at l.block l.end l.b-index
