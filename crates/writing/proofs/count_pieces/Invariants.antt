use lib.ListN.{length}
use Rattle.writing.specs.Pieces.{comment_lent}
use Rattle.writing.proofs.Counting.{Counted}
use Rattle.writing.proofs.count_pieces.Given as goal

abbrev pub invariant-loop-rest : goal.invariant-loop-rest
invariant-loop-rest l = Counted (comment_lent l.fn.comment) l.fn.s l.rest l.n

abbrev pub decreases-loop-rest : goal.decreases-loop-rest
decreases-loop-rest l = length l.rest
