use native.Mathlib.Omega.{arith}
use mathlib.Core.Path.{sym, ap, ◌∙◌}
use lib.ListN.{length}
use Rattle.writing.proofs.Cutting.{has_quote, bare_fitting, fitted_on, fitted_stop, fitted_end}
use Rattle.writing.proofs.fitting_length.Goals as goal

pub returns-then-not-contains : goal.returns-then-not-contains
returns-then-not-contains c =
    let a = c.args in
    let bare = sym (ap has_quote c.first_of-part.ensures) ∙ sym c.contains.ensures.value ∙ c.if-not-contains.true in
    ap length (c.first_of-part.ensures ∙ sym (bare_fitting a.room a.s.now bare))

pub returns-then-left-bytes_for : goal.returns-then-left-bytes_for
returns-then-left-bytes_for c =
    fitted_stop c.loop-i.invariant c.loop-i-test.true (omega (arith, c.bytes_for.ensures))

pub loop-i-preserved : goal.loop-i-preserved
loop-i-preserved c =
    let l = c.loop-i in
    rw c.bytes_for-left.ensures (fitted_on l.invariant c.loop-i-test.true (omega (arith, c.bytes_for.ensures)))

pub returns : goal.returns
returns c = omega (arith, fitted_end c.loop-i.invariant c.loop-i-test.false)
