-- `rice::Cursor::step`: each refusal in its turn; then the part of the pixels that the block is lent. Assumes nothing.
use mathlib.Core.Path.{◌≡◌, refl, ap, sym, subst, ◌∙◌}
use mathlib.Core.Bool.{true}
use Prim.Native.Nat.{◌-◌, ◌≤◌}
use native.Mathlib.Omega.{arith}
use borrow.Rule.Slice.PartMut.{mid_of}
use lib.ListN.{length-take, length-drop}
use Rattle.rice.specs.Widths.{in_width}
use Rattle.rice.specs.Blocks.{StepOutcome, block_of}
use Rattle.rice.specs.declared.width.Width.{Width}
use Rattle.rice.proofs.Stepping.{plan_within, kept, step_limits, step_count, step_cursor, step_done, step_block, part_back}
use Rattle.rice.proofs.FsCodes.{outcome, outcome-refused}
use Rattle.rice.proofs.Cursor.step.Goals as goal

pub returns-in_default : goal.returns-in_default
returns-in_default c =
    let a = c.args in
    let o = outcome-refused c.refused.ensures
    (step_limits a.tile.now a.nx a.nblock a.bits a.self a.pixels.now (sym c.plan.ensures ∙ c.in_default.is)) in
    record { value = o.0; pixels_after = o.1 }

pub returns-then-pixels-nx : goal.returns-then-pixels-nx
returns-then-pixels-nx c =
    let a = c.args in
    let o = outcome-refused c.refused-then-pixels-nx.ensures
    (step_count a.tile.now a.nx a.nblock a.bits a.self a.pixels.now _ (sym c.plan.ensures ∙ c.in-Some.is) c.if-pixels-nx.true) in
    record { value = o.0; pixels_after = o.1 }

pub stands-requires : goal.stands-requires
stands-requires c = let l = plan_within _ _ _ c.args.bits (sym c.plan.ensures ∙ c.in-Some.is) in (l.tile, l.block)

pub returns-then-not-stands : goal.returns-then-not-stands
returns-then-not-stands c =
    let a = c.args in
    let o = outcome-refused c.refused-then-not-stands.ensures
    (step_cursor a.tile.now a.nx a.nblock a.bits a.self a.pixels.now _ (sym c.plan.ensures ∙ c.in-Some.is) c.if-pixels-nx.false
    (sym c.stands.ensures ∙ c.if-not-stands.true)) in
    record { value = o.0; pixels_after = o.1 }

pub returns-then-done-nx : goal.returns-then-done-nx
returns-then-done-nx c =
    let a = c.args in
    let o = outcome refl (step_done a.tile.now a.nx a.nblock a.bits a.self a.pixels.now _ (sym c.plan.ensures ∙ c.in-Some.is)
    c.if-pixels-nx.false (sym c.stands.ensures ∙ c.if-not-stands.false) c.if-done-nx.true) in
    record { value = o.0; pixels_after = o.1 }

pub block_end-end-requires : goal.block_end-end-requires
block_end-end-requires c = (kept _ _ _ _ _ (sym c.stands.ensures ∙ c.if-not-stands.false)).done

pub offset_bounds-pixels-done : goal.offset_bounds-pixels-done
offset_bounds-pixels-done c =
    let l = plan_within _ _ _ c.args.bits (sym c.plan.ensures ∙ c.in-Some.is) in
    let k = kept _ _ _ _ _ (sym c.stands.ensures ∙ c.if-not-stands.false) in
    omega (arith, k.done, l.few)

pub slice_bounds-block-count : goal.slice_bounds-block-count
slice_bounds-block-count c =
    let k = kept _ _ _ _ _ (sym c.stands.ensures ∙ c.if-not-stands.false) in omega (arith, k.done)

pub slice_bounds-block-start : goal.slice_bounds-block-start
slice_bounds-block-start c =
    let k = kept _ _ _ _ _ (sym c.stands.ensures ∙ c.if-not-stands.false) in omega (arith, k.done)

pub block-requires : goal.block-requires
block-requires c =
    let l = plan_within _ _ _ c.args.bits (sym c.plan.ensures ∙ c.in-Some.is) in
    let k = kept _ _ _ _ _ (sym c.stands.ensures ∙ c.if-not-stands.false) in (
      l.tile,
      subst (λ (w : Width). in_width w c.args.self.last ≡ true) (sym c.scale.ensures) k.last,
      simp (length-take, length-drop) (omega (arith, k.done, l.few)),
    )

pub returns : goal.returns
returns c =
    let a = c.args in
    let keeps = sym c.stands.ensures ∙ c.if-not-stands.false in
    let is = step_block a.tile.now a.nx a.nblock a.bits a.self a.pixels.now _ (sym c.plan.ensures ∙ c.in-Some.is) c.if-pixels-nx.false
    keeps c.if-done-nx.false _ c.block_end-end.ensures in
    let order : a.self.done ≤ c.block_end-end.result = omega (arith, (kept _ _ _ _ _ keeps).done) in
    let part = mid_of a.self.done (c.block_end-end.result - a.self.done) a.pixels.now in
    let width = ap (λ (w : Width). block_of w a.tile.now a.self part) c.scale.ensures in
    record {
      value = c.block.ensures.value ∙ ap (λ (o : StepOutcome). o.answer) width
          ∙ sym (ap (λ (o : StepOutcome). o.answer) is);
      pixels_after = part_back _ _ _ _ _ order (c.block.ensures.part_after ∙ ap (λ (o : StepOutcome). o.content) width)
          ∙ sym (ap (λ (o : StepOutcome). o.content) is);
    }
