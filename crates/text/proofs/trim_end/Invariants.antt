-- The first n bytes are trimmed as the whole is.
use Prim.Native.Nat.{◌≤◌}
use mathlib.Core.Path.{◌≡◌}
use lib.ListN.{length, take}
use Rattle.text.specs.Trim.{trim_end}
use Rattle.text.proofs.trim_end.Given as goal

abbrev pub invariant-loop-n : goal.invariant-loop-n
invariant-loop-n g l = (l.n ≤ length l.s) × (trim_end g.C.ByteClass.test (take l.n l.s) ≡ trim_end g.C.ByteClass.test l.s)

abbrev pub decreases-loop-n : goal.decreases-loop-n
decreases-loop-n g l = l.n
