use Rattle.std.proofs.Common.{arith, rules}
use mathlib.Core.Path.{◌≡◌, sym, ap, ◌∙◌}
use lib.ListN.{length}
use lib.Seq.{sets}
use Rattle.writing.proofs.Cutting.{bare_doubled, fills_room, fills_on, filled-place, filled-bytes}
use Rattle.writing.proofs.put_doubled.Goals as goal

pub returns-then-not-contains-clause-value : goal.returns-then-not-contains-clause-value
returns-then-not-contains-clause-value c =
    omega (arith, ap length (bare_doubled c.args.s.now (sym c.contains.ensures.value ∙ c.if-not-contains.true)))

pub returns-then-not-contains-clause-block_after : goal.returns-then-not-contains-clause-block_after
returns-then-not-contains-clause-block_after c =
    c.put_at.ensures
    ∙ sym (ap (sets c.args.block.now c.args.at) (bare_doubled c.args.s.now (sym c.contains.ensures.value ∙ c.if-not-contains.true)))

pub put_byte-end-requires : goal.put_byte-end-requires
put_byte-end-requires c = fills_room c.loop-b.invariant c.loop-b-test.true c.requires

pub loop-b-preserved : goal.loop-b-preserved
loop-b-preserved c =
    let same : length c.put_byte-end.new.block ≡ length c.loop-b.block = search rules in
    fills_on c.loop-b.invariant c.loop-b-test.true c.put_byte-end.ensures.value same c.put_byte-end.ensures.block_after

pub returns-clause-value : goal.returns-clause-value
returns-clause-value c = filled-place c.loop-b.invariant c.loop-b-test.false

pub returns-clause-block_after : goal.returns-clause-block_after
returns-clause-block_after c = filled-bytes c.loop-b.invariant c.loop-b-test.false
