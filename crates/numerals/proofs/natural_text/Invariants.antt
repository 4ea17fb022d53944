use Rattle.numerals.proofs.Decimals.{Going}
use Rattle.numerals.proofs.natural_text.Given as goal

abbrev pub invariant-loop-left : goal.invariant-loop-left
invariant-loop-left l = Going l.n l.bytes l.at l.left

abbrev pub decreases-loop-left : goal.decreases-loop-left
decreases-loop-left l = l.left
