use Rattle.std.proofs.Common.{◌≡◌, length}
use Rattle.entries.proofs.Texts.{TextGoing}
use Rattle.entries.proofs.join_texts.Given as goal

abbrev pub invariant-loop-j : goal.invariant-loop-j
invariant-loop-j l = TextGoing l.string.header.now l.string.card l.held l.texts l.j × (length l.texts ≡ length l.fn.texts)
