use Rattle.rice.specs.Filling.{counted}
use Rattle.rice.proofs.Blockwise.{Onto}
use Rattle.rice.proofs.Cursor.ones.Given as goal

abbrev pub invariant-ones : goal.invariant-ones
invariant-ones l =
    Onto l.scale.width l.tile l.nx 1 (counted l.scale.width l.initial.bit l.fn.self.done l.initial.level) l.fn.pixels l.pixels
    l.bit l.done l.level
