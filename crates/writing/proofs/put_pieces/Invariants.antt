use Prim.Native.Nat.{◌+◌, ◌-◌}
use Rattle.writing.specs.Pieces.{comment_lent}
use Rattle.writing.proofs.Bodies.{Going}
use Rattle.writing.proofs.put_pieces.Given as goal

abbrev pub invariant-loop : goal.invariant-loop
invariant-loop l = Going l.fn.s (comment_lent l.fn.comment) l.fn.block l.block l.rest l.at (l.fn.n + 1 - l.counter)
