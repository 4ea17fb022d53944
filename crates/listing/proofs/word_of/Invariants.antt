-- The word so far is that of the bytes from k on.
use Rattle.std.proofs.Common.{◌≡◌, ◌≤◌, length, drop}
use Rattle.listing.specs.Keys.{word_of}
use Rattle.listing.proofs.word_of.Given as goal

abbrev pub invariant-loop-k : goal.invariant-loop-k
invariant-loop-k l = (l.k ≤ length l.piece) × (l.word ≡ word_of (drop l.k l.piece))
