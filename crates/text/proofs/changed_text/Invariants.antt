use mathlib.Core.Path.{◌≡◌}
use mathlib.Core.List.{map}
use lib.ListN.{take}
use Rattle.text.specs.Text.{size, padded}
use Rattle.text.proofs.changed_text.Given as goal

abbrev pub invariant-loop-i : goal.invariant-loop-i
invariant-loop-i g l = l.bytes ≡ padded size (map g.C.ByteChange.change (take l.i l.part))
