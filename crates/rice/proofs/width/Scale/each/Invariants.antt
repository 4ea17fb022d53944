use Rattle.rice.proofs.Filling.{Filled, spot_ahead}
use Rattle.rice.proofs.width.Scale.each.Given as goal

abbrev pub invariant-loop-i : goal.invariant-loop-i
invariant-loop-i l =
    Filled l.self.width l.code l.tile l.fn.part l.part (spot_ahead l.initial.a l.initial.level l.fn.start.next) l.a l.level l.i
