use Rattle.writing.proofs.Cutting.{Fitted}
use Rattle.writing.proofs.fitting_length.Given as goal

abbrev pub invariant-loop-i : goal.invariant-loop-i
invariant-loop-i l = Fitted l.fn.s l.fn.room l.left l.i
