-- `entries::value_of` meets its contract: by what is sought.
use Rattle.std.proofs.Common.{◌≡◌, ℕ, List, sym, ap, ◌∙◌}
use Rattle.std.specs.Prelude.{Ok, Option, Result}
use Rattle.finding.specs.declared.Stop.{Stop}
use Rattle.entries.specs.declared.ValueHalf.{ValueHalf}
use Rattle.entries.specs.Halves.{value_left, value_in}
use Rattle.entries.specs.Passes.{sought_at}
use Rattle.entries.proofs.Texts.{stopped-value, missing-value}
use Rattle.entries.proofs.value_of.Goals as goal

-- what is sought, as an arm knows it, is the whole
by : (h text : List ℕ) {x y : Result (Option ℕ) Stop} → x ≡ y → value_in (sought_at y h) text ≡ value_in (sought_at x h) text
by h text e = sym (ap (λ (z : Result (Option ℕ) Stop). value_in (sought_at z h) text) e)

pub returns-in-Err : goal.returns-in-Err
returns-in-Err c =
    let a = c.args in
    ap (λ (v : ValueHalf). value_left v a.text.now) c.no_value.ensures
    ∙ stopped-value c.in-Err.stop a.text.now
    ∙ by a.header.now a.text.now c.in-Err.is

pub returns-in-None : goal.returns-in-None
returns-in-None c =
    let a = c.args in
    ap (λ (v : ValueHalf). value_left v a.text.now) c.value_missing.ensures
    ∙ missing-value a.text.now
    ∙ by a.header.now a.text.now (c.in-Ok.is ∙ ap (λ (o : Option ℕ). Ok o) c.in-None.is)
