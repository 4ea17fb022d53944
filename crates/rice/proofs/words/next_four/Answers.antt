-- `rice::words::next_four`: four code words, each but the first out of what the one before it leaves. Assumes nothing.
use Prim.Native.Nat.{◌+◌, ◌-◌, ◌%◌, ◌≤◌, ◌<◌}
use native.Mathlib.Omega.{arith}
use Rattle.rice.specs.Tile.{bits_in}
use Rattle.rice.proofs.Cutting.{four_told}
use Rattle.rice.proofs.words.next_four.Goals as goal

pub returns : goal.returns
returns c =
    let s = c.args.tile.now in
    let p = c.args.bit in
    let o : 0 < c.top_word-c.result.rest = omega (arith, c.if-after-lt1.false) in
    let room : p + (64 - p % 8) ≤ bits_in s = omega (arith, c.if-tile-bit.false) in
    four_told c.top_word-a.ensures c.top_word-b.ensures c.top_word-c.ensures c.top_word-d.ensures o
    s p (64 - p % 8) c.requires.1 (omega arith) (omega arith) room c.window.ensures c.if-used.false
