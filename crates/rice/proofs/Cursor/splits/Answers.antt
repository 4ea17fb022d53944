-- `rice::Cursor::splits`: each block goes on from what is reached; one in which the tile ends leaves it. Assumes nothing.
use mathlib.Core.List.{List}
use mathlib.Core.Path.{◌≡◌, refl, sym, subst, ◌∙◌}
use Prim.Native.Nat.{◌+◌, ◌-◌, ◌/◌, ◌^◌}
use native.Mathlib.Omega.{arith}
use borrow.Rule.Slice.PartMut.{mid_of}
use lib.IntN.{ℤ}
use mir.Syntax.{w32}
use mir.Val.{SFits}
use mir.Facts.{to_z-of_z}
use Rattle.std.specs.Prelude.{Err}
use Rattle.rice.specs.Filling.{raised, counted, spot_at, CameTo}
use Rattle.rice.specs.declared.width.Code.TheVariants.{Split}
use Rattle.rice.proofs.FsCodes.{code_split}
use Rattle.rice.proofs.Blockwise.{Onto, window_field, onto-block, onto-cut, onto-end}
use Rattle.rice.proofs.Cursor.splits.Goals.{else-splits-test, then-splits-test+then-tile-bit, then-splits-test+else-tile-bit+then-field-eq0}
use Rattle.rice.proofs.Cursor.splits.Goals.{then-splits-test+else-tile-bit+else-field-eq0+then-top-field}
use Rattle.rice.proofs.Cursor.splits.Goals.{then-splits-test+else-tile-bit+else-field-eq0+else-top-field+in_default}
use Rattle.rice.proofs.Cursor.splits.Goals as goal

pub splits-preserved : goal.splits-preserved
splits-preserved c =
    let w = c.args.layout.scale.width in
    let size = c.fs_bits-size.result in
    let field = c.window.result / 2 ^ (64 - size) in
    let code = code_split w field c.if-field-eq0.false (omega arith) in
    let read =
    window_field w c.args.tile.now c.splits.bit c.window.result size c.fs_bits-size.ensures c.if-tile-bit.false c.window.ensures in
    onto-block c.splits.invariant _ refl c.splits-test.true _ _ _ read code _ _ _ c.in-Ok.ensures.1 c.in-Ok.ensures.0

pub returns : goal.returns
returns c =
    let a = c.args in
    let w = a.layout.scale.width in
    let nblock = a.layout.nblock in
    let l = c.splits in
    let fits : SFits w32 a.self.last = record { sfits = omega arith } in
    let first : raised w c.level_of-level.result ≡ a.self.last = c.level_of-level.ensures.1 ∙ to_z-of_z fits in
    let Left = λ (px : List ℤ). Onto w a.tile.now a.layout.nx nblock (counted w a.self.bit a.self.done c.level_of-level.result)
    a.pixels.now px l.bit l.done l.level in
    let left : Left c.splits-test.pixels = elim c.splits-test.branch [
      | else-splits-test x ↦ subst Left (sym x.pixels-is) l.invariant
      | then-splits-test+then-tile-bit x ↦ subst Left (sym x.pixels-is) l.invariant
      | then-splits-test+else-tile-bit+then-field-eq0 x ↦ subst Left (sym x.pixels-is) l.invariant
      | then-splits-test+else-tile-bit+else-field-eq0+then-top-field x ↦ subst Left (sym x.pixels-is) l.invariant
      | then-splits-test+else-tile-bit+else-field-eq0+else-top-field+in_default x ↦
          let size = c.fs_bits-size.result in
          let field = x.window.result / 2 ^ (64 - size) in
          let code = code_split w field x.if-field-eq0.false (omega arith) in
          let read = window_field w a.tile.now l.bit x.window.result size c.fs_bits-size.ensures x.if-tile-bit.false x.window.ensures in
          let part = mid_of l.done (l.done + nblock - l.done) l.pixels in
          let short : CameTo w (Split (field - 1)) a.tile.now part x.split_block.new.part (spot_at (l.bit + size) l.level)
          (Err x.in_default.field-0) =
          subst (CameTo w (Split (field - 1)) a.tile.now part x.split_block.new.part (spot_at (l.bit + size) l.level))
          x.in_default.is x.split_block.ensures in
          subst Left (sym x.pixels-is)
          (onto-cut l.invariant _ refl x.splits-test.true _ _ _ read code _ _ short.1 short.0)
    ] in
    onto-end a.self c.level_of-level.result first left _ c.cursor.ensures
