-- `rice::decode`: opening, then the steps. Assumes nothing.
use mathlib.Core.Path.{◌≡◌, ap, sym, ◌∙◌}
use lib.ListN.{length}
use Rattle.std.specs.Prelude.{Some, Err}
use Rattle.std.proofs.lemmas.Result.{err_from_is_err_and}
use Rattle.rice.specs.declared.Broken.{Broken}
use Rattle.rice.specs.Steps.{plan_of}
use Rattle.rice.specs.declared.width.Width.{Width}
use Rattle.rice.proofs.Decoding.{decode_limits, decode_count, decode_open, finished, finished-refused}
use Rattle.rice.proofs.Reaching.{decode_steps, opened}
use Rattle.rice.proofs.decode.Goals as goal

pub returns-in_default : goal.returns-in_default
returns-in_default c =
    let a = c.args in
    let f = finished-refused c.refused.ensures
    (decode_limits a.tile.now a.nx a.nblock a.bits a.pixels.now (sym c.plan.ensures ∙ c.in_default.is)) in
    record { value = f.0; pixels_after = f.1 }

pub returns-then-pixels-nx : goal.returns-then-pixels-nx
returns-then-pixels-nx c =
    let a = c.args in
    let f = finished-refused c.refused-then-pixels-nx.ensures
    (decode_count a.tile.now a.nx a.nblock a.bits a.pixels.now _ (sym c.plan.ensures ∙ c.in-Some.is) c.if-pixels-nx.true) in
    record { value = f.0; pixels_after = f.1 }

pub run-requires : goal.run-requires
run-requires c =
    let a = c.args in
    let plan : plan_of (length a.tile.now) a.nx a.nblock a.bits ≡ Some c.scale-scale.result.width =
    sym c.plan.ensures ∙ c.in-Some.is ∙ ap (λ (w : Width). Some w) (sym c.scale-scale.ensures) in
    opened _ _ _ _ a.bits _ _ plan c.if-pixels-nx.false (sym c.«open».ensures ∙ c.in_ok-start.was)

pub returns : goal.returns
returns c =
    let a = c.args in
    let plan : plan_of (length a.tile.now) a.nx a.nblock a.bits ≡ Some c.scale-scale.result.width =
    sym c.plan.ensures ∙ c.in-Some.is ∙ ap (λ (w : Width). Some w) (sym c.scale-scale.ensures) in
    let f = finished c.run.ensures.value (decode_steps _ a.tile.now a.nx a.nblock a.bits _ a.pixels.now plan
    c.if-pixels-nx.false (sym c.«open».ensures ∙ c.in_ok-start.was)) in
    record { value = f.0; pixels_after = c.run.ensures.pixels_after ∙ f.1 }

pub returns-in_err-start : goal.returns-in_err-start
returns-in_err-start c =
    let a = c.args in
    let p = err_from_is_err_and c.from_residual.result c.from_residual.ensures.1 in
    let f = finished (p.1 ∙ ap (λ (b : Broken). Err b) p.2)
    (decode_open a.tile.now a.nx a.nblock a.bits a.pixels.now _ (sym c.plan.ensures ∙ c.in-Some.is) c.if-pixels-nx.false _
    (sym c.«open».ensures ∙ c.in_err-start.was)) in
    record { value = f.0; pixels_after = f.1 }
