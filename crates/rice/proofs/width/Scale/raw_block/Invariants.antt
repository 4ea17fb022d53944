use Prim.Native.Nat.{◌-◌}
use lib.ListN.{length}
use Rattle.rice.proofs.RawPixels.{RawStored}
use Rattle.rice.proofs.width.Scale.raw_block.Given as goal

abbrev pub invariant-loop-part : goal.invariant-loop-part
invariant-loop-part l = RawStored l.self.width l.tile l.bit l.start l.fn.part l.part l.k l.level l.i

abbrev pub decreases-loop-part : goal.decreases-loop-part
decreases-loop-part l = length l.fn.part - l.i
