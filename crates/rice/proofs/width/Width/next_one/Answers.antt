-- `rice::width::Width::next_one`: the FS field, and the code word out of what it leaves. Assumes nothing.
use Prim.Native.Nat.{◌+◌, ◌-◌, ◌*◌, ◌%◌, ◌^◌, ◌≤◌, ◌<◌}
use native.Mathlib.Omega.{arith}
use Rattle.rice.specs.Tile.{bits_in}
use Rattle.rice.proofs.Cutting.{same-told, one_told}
use Rattle.rice.proofs.width.Width.next_one.Goals as goal

pub returns-then-field-eq0 : goal.returns-then-field-eq0
returns-then-field-eq0 c =
    let s = c.args.tile.now in
    let p = c.args.bit in
    let room : p + (64 - p % 8) ≤ bits_in s = omega (arith, c.if-tile-bit.false) in
    same-told c.args.self s p (64 - p % 8) c.args.size c.window-w.result (omega arith) (omega arith) room c.window-w.ensures
    c.requires.1 c.if-field-eq0.true

pub returns : goal.returns
returns c =
    let s = c.args.tile.now in
    let p = c.args.bit in
    let room : p + (64 - p % 8) ≤ bits_in s = omega (arith, c.if-tile-bit.false) in
    let some : 0 < c.window-w.result * 2 ^ c.args.size % 2 ^ 64 = omega (arith, c.if-after-lt1.false) in
    one_told c.args.self s p (64 - p % 8) c.args.size c.window-w.result (omega arith) (omega arith) room c.window-w.ensures
    c.requires.1 c.if-field-eq0.false (omega arith) c.top_word-a.ensures some c.if-used.false
