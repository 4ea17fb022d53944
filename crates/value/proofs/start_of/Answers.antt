-- `value::start_of` meets its contract, test by test.
use mathlib.Core.Path.{◌∙◌, sym}
use Rattle.value.proofs.Starts.{start_quote, start_true, start_false, start_complex, start-number, start_else}
use Rattle.value.proofs.start_of.Goals as goal

pub returns-then-b-eq39 : goal.returns-then-b-eq39
returns-then-b-eq39 c = start_quote c.if-b-eq39.true

pub returns-then-b-eq84 : goal.returns-then-b-eq84
returns-then-b-eq84 c = start_true c.if-b-eq39.false c.if-b-eq84.true

pub returns-then-b-eq70 : goal.returns-then-b-eq70
returns-then-b-eq70 c = start_false c.if-b-eq39.false c.if-b-eq84.false c.if-b-eq70.true

pub returns-then-b-eq40 : goal.returns-then-b-eq40
returns-then-b-eq40 c =
    let second = c in
    start_complex second.if-b-eq39.false second.if-b-eq84.false c.if-b-eq70.false c.if-b-eq40.true

pub returns-then-starts_number : goal.returns-then-starts_number
returns-then-starts_number c =
    let last = c in
    let second = last in
    start-number second.if-b-eq39.false second.if-b-eq84.false last.if-b-eq70.false last.if-b-eq40.false
    (sym c.starts_number.ensures ∙ c.if-starts_number.true)

pub returns : goal.returns
returns c =
    let last = c in
    let second = last in
    start_else second.if-b-eq39.false second.if-b-eq84.false last.if-b-eq70.false last.if-b-eq40.false
    (sym c.starts_number.ensures ∙ c.if-starts_number.false)
