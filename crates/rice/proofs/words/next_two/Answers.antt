-- `rice::words::next_two`: one code word, and another out of what it leaves. Assumes nothing.
use Prim.Native.Nat.{◌+◌, ◌-◌, ◌%◌, ◌≤◌, ◌<◌}
use native.Mathlib.Omega.{arith}
use Rattle.rice.specs.Tile.{bits_in}
use Rattle.rice.proofs.Cutting.{pair_told}
use Rattle.rice.proofs.words.next_two.Goals as goal

pub returns : goal.returns
returns c =
    let s = c.args.tile.now in
    let p = c.args.bit in
    let o : 0 < c.top_word-a.result.rest = omega (arith, c.if-after-lt1.false) in
    let room : p + (64 - p % 8) ≤ bits_in s = omega (arith, c.if-tile-bit.false) in
    pair_told s p (64 - p % 8) c.args.fs c.requires.1 (omega arith) room c.window.ensures
    c.top_word-a.ensures c.top_word-b.ensures o (omega (arith, c.if-used.false)) c.if-used.false
