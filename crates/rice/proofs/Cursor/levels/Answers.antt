-- `rice::Cursor::levels`: as many blocks as there are fields of zeros, all their pixels the last one. Assumes nothing.
use mathlib.Core.Path.{◌≡◌}
use Prim.Native.Nat.{◌+◌, ◌-◌, ◌*◌, ◌≤◌}
use native.Mathlib.Omega.{arith}
use borrow.Author.Rules.{rules}
use borrow.Rule.Slice.PartMut.{mid_of}
use lib.ListN.{length, replicate}
use mir.Syntax.{w32}
use mir.Val.{SFits, to_z, of_z}
use mir.Facts.{to_z-of_z}
use Rattle.rice.specs.Tile.{bits_in}
use Rattle.rice.proofs.Levelling.{reach_levels}
use Rattle.rice.proofs.Cursor.levels.Goals as goal

pub returns : goal.returns
returns c =
    let a = c.args in
    let d = a.self.done in
    let e = d + c.min-many.result * a.layout.nblock in
    let looked : c.min.result ≤ bits_in a.tile.now - a.self.bit = omega (arith, c.min.ensures) in
    let fits : SFits w32 a.self.last = record { sfits = omega arith } in
    let filled : c.fill.new.self ≡ replicate (length (mid_of d (e - d) a.pixels.now)) (to_z w32 (of_z w32 a.self.last)) = search rules in
    reach_levels c.requires _ _ _ _ c.fs_bits-size.ensures looked c.zeros-zeros.ensures c.min-many.ensures _ _ (to_z-of_z fits) filled
