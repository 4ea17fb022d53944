use Prim.Native.Nat.{◌-◌}
use Rattle.rice.specs.Easy.{Reaches}
use Rattle.rice.proofs.Cursor.run.Given as goal

abbrev pub invariant-loop-c : goal.invariant-loop-c
invariant-loop-c l =
    Reaches l.layout.scale.width l.tile l.layout.nx l.layout.nblock l.initial.c l.fn.pixels l.c l.pixels

abbrev pub decreases-loop-c : goal.decreases-loop-c
decreases-loop-c l = l.layout.nx - l.c.done
