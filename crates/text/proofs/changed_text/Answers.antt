use native.Mathlib.Omega.{arith}
use mathlib.Core.Path.{ap}
use lib.ListN.{length, length-take}
use Prim.Native.Nat.{◌≤◌}
use Rattle.text.specs.Text.{size}
use Rattle.text.proofs.Texts.{padded-none, changed_step}
use Rattle.text.proofs.changed_text.Goals as goal

pub loop-i-init : goal.loop-i-init
loop-i-init g c = padded-none size

pub bounds-bytes-i : goal.bounds-bytes-i
bounds-bytes-i g c = omega (arith, ap length c.first_of-part.ensures, length-take size c.args.s.now)

pub loop-i-preserved : goal.loop-i-preserved
loop-i-preserved g c =
    let small : length c.first_of-part.result.now ≤ size =
    omega (arith, ap length c.first_of-part.ensures, length-take size c.args.s.now) in
    rw (c.loop-i.invariant, c.of.ensures)
    (changed_step g.C.ByteChange.change c.first_of-part.result.now size c.loop-i.i c.loop-i-test.true small)
