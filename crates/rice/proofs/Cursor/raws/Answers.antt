-- `rice::Cursor::raws`: each raw block goes on from what is reached. Assumes nothing.
use mathlib.Core.Path.{◌≡◌, refl, sym, ap, ap₂, ◌∙◌}
use Prim.Native.Nat.{ℕ, ◌+◌, ◌-◌, ◌*◌, ◌/◌, ◌^◌}
use native.Mathlib.Omega.{arith}
use borrow.Rule.Slice.PartMut.{mid_of, mid_len}
use lib.ListN.{length}
use Rattle.rice.specs.Widths.{fs_top}
use Rattle.rice.specs.Filling.{raised, whole_at}
use Rattle.rice.proofs.FsCodes.{code_raw}
use Rattle.rice.proofs.Blockwise.{window_field, onto-block}
use Rattle.rice.proofs.Cursor.raws.Goals as goal

pub raws-preserved : goal.raws-preserved
raws-preserved c =
    let w = c.args.layout.scale.width in
    let n = c.args.layout.nblock in
    let l = c.raws in
    let size = c.fs_bits-size.result in
    let field = c.window.result / 2 ^ (64 - size) in
    let top : field ≡ fs_top w + 1 = c.if-window-size.false ∙ ap (λ (n : ℕ). n + 1) c.fs_top-raw.ensures in
    let code = code_raw w field (λ e. absurd (omega arith)) (omega arith) top in
    let read = window_field w c.args.tile.now l.bit c.window.result size c.fs_bits-size.ensures (omega arith) c.window.ensures in
    let long : length (mid_of l.done (l.done + n - l.done) l.pixels) ≡ n =
    mid_len l.done (l.done + n) l.pixels (omega arith) ∙ omega arith in
    let to = ap₂ (λ (a b : ℕ). l.bit + size + a * b) (sym c.bits.ensures) long in
    onto-block l.invariant _ refl c.raws-test.true _ _ _ read code _ _ _ c.raw_block-level.ensures.1
    (c.raw_block-level.ensures.0 ∙ ap (λ (p : ℕ). whole_at p (raised w c.raw_block-level.result) c.raw_block-level.new.part) to)
