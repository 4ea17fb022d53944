-- What was put, with what is still to be put, is the name.
use Rattle.card.proofs.Naming.{Named}
use Rattle.card.proofs.dotted_name.Given as goal

abbrev pub invariant-loop-b : goal.invariant-loop-b
invariant-loop-b l = Named l.s l.bytes l.n l.gap l.b-index
