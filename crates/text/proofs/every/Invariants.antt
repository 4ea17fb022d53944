use mathlib.Core.Path.{◌≡◌}
use mathlib.Core.Bool.{◌&&◌}
use lib.ListN.{drop}
use Rattle.text.specs.Bytes.{every}
use Rattle.text.proofs.every.Given as goal

abbrev pub invariant-loop-b : goal.invariant-loop-b
invariant-loop-b g l = (l.all && every g.C.ByteClass.test (drop l.b-index l.s)) ≡ every g.C.ByteClass.test l.s
