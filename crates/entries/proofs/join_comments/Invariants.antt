use Rattle.std.proofs.Common.{◌≡◌, length}
use Rattle.entries.proofs.Remarks.{Keeping}
use Rattle.entries.proofs.join_comments.Given as goal

abbrev pub invariant-loop-j : goal.invariant-loop-j
invariant-loop-j l = Keeping l.string.header.now l.string.card l.held l.comments l.j × (length l.comments ≡ length l.fn.comments)
