-- `text::trim_end` meets its contract: the first n bytes are trimmed as the whole is.
use native.Mathlib.Omega.{arith}
use mathlib.Core.Path.{sym, ◌∙◌}
use Rattle.text.proofs.Trimming.{end_step, end_stop, end_none}
use Rattle.text.proofs.trim_end.Goals.{then-loop-n-test+else-has, else-loop-n-test}
use Rattle.text.proofs.trim_end.Goals as goal

pub loop-n-preserved : goal.loop-n-preserved
loop-n-preserved g c =
    let v = c.loop-n.invariant in (
      omega (arith, v.0),
      end_step _ c.args.s.now c.loop-n.n (omega (arith, c.loop-n-test.true)) v.0 (sym c.has.ensures ∙ c.if-has.true) ∙ v.1,
    )

pub returns : goal.returns
returns g c =
    let s = c.args.s.now in
    let n = c.loop-n.n in
    let v = c.loop-n.invariant in
    elim c.loop-n-test.branch [
      | then-loop-n-test+else-has w ↦ end_stop _ s n (omega (arith, w.loop-n-test.true)) v.0 (sym w.has.ensures ∙ w.if-has.false)
      | else-loop-n-test w ↦ end_none _ s n (omega (arith, w.loop-n-test.false))
    ]
    ∙ v.1
