-- `value::starts_number` meets its contract, test by test.
use mathlib.Core.Path.{◌∙◌}
use Rattle.value.proofs.Starts.{plus_starts, minus_starts, point_starts, digit_starts}
use Rattle.value.proofs.starts_number.Goals as goal

pub returns-then-b-eq43 : goal.returns-then-b-eq43
returns-then-b-eq43 c = plus_starts c.if-b-eq43.true

pub returns-then-b-eq45 : goal.returns-then-b-eq45
returns-then-b-eq45 c = minus_starts c.if-b-eq43.false c.if-b-eq45.true

pub returns-then-b-eq46 : goal.returns-then-b-eq46
returns-then-b-eq46 c = point_starts c.if-b-eq43.false c.if-b-eq45.false c.if-b-eq46.true

pub returns : goal.returns
returns c =
    let third = c in
    c.is_digit.ensures ∙ digit_starts third.if-b-eq43.false third.if-b-eq45.false third.if-b-eq46.false
