use Prim.Native.Nat.{◌-◌}
use lib.ListN.{length}
use Rattle.rice.specs.Filling.{Onward}
use Rattle.rice.specs.declared.width.Code.TheVariants.{Split}
use Rattle.rice.proofs.width.Scale.fours.Given as goal

abbrev pub invariant-loop-part : goal.invariant-loop-part
invariant-loop-part l = Onward l.self.width (Split l.fs) l.tile l.fn.part l.part l.initial.at l.at

abbrev pub decreases-loop-part : goal.decreases-loop-part
decreases-loop-part l = length l.fn.part - l.at.next
