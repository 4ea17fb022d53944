use Prim.Native.Nat.{◌-◌}
use Rattle.rice.specs.Filling.{counted}
use Rattle.rice.proofs.Blockwise.{Onto}
use Rattle.rice.proofs.Cursor.raws.Given as goal

abbrev pub invariant-raws : goal.invariant-raws
invariant-raws l =
    Onto l.scale.width l.tile l.nx l.nblock (counted l.scale.width l.initial.bit l.initial.done l.initial.level) l.fn.pixels l.pixels
    l.bit l.done l.level

abbrev pub decreases-raws : goal.decreases-raws
decreases-raws l = l.nx - l.done
