-- `value::unit_past_space` meets its contract: by the first byte, and by the unit that stands behind it.
use Rattle.std.proofs.Common.{◌≡◌, ℕ, List, sym, ap, ◌∙◌, arith, drop, length-drop}
use Rattle.std.specs.Prelude.{Option}
use Rattle.text.proofs.Trimming.{take_rest}
use Rattle.value.specs.Units.{unit_of, behind_one}
use Rattle.value.proofs.Units.{past_empty, past_none, past_some, unit_within}
use Rattle.value.proofs.unit_past_space.Goals as goal

-- the unit behind the space
behind : (s t : List ℕ) {p : Option (ℕ × ℕ)} → p ≡ unit_of t → t ≡ drop 1 s → p ≡ unit_of (drop 1 s)
behind s t e is = e ∙ ap unit_of is

pub returns-then-comment-eq0 : goal.returns-then-comment-eq0
returns-then-comment-eq0 c = sym (past_empty c.args.comment.now c.if-comment-eq0.true)

pub returns-then-comment-ne32 : goal.returns-then-comment-ne32
returns-then-comment-ne32 c = c.unit.ensures ∙ sym (past_none c.args.comment.now c.if-comment-eq0.false c.if-comment-ne32.true)

pub returns-in_err-from : goal.returns-in_err-from
returns-in_err-from c =
    let s = c.args.comment.now in
    let told = sym (behind s _ c.unit-2.ensures (take_rest s 1)) ∙ c.in_err-from.was in
    c.from_residual.ensures ∙ sym (past_some s c.if-comment-eq0.false c.if-comment-ne32.false ∙ ap behind_one told)

pub overflow_add-result : goal.overflow_add-result
overflow_add-result c =
    let s = c.args.comment.now in
    let told = unit_within (drop 1 s) _ _ (sym (behind s _ c.unit-2.ensures (take_rest s 1)) ∙ c.in_ok-from.was) in
    omega (arith, told.0, told.1, length-drop 1 s)

pub overflow_add-result-2 : goal.overflow_add-result-2
overflow_add-result-2 c =
    let s = c.args.comment.now in
    let told = unit_within (drop 1 s) _ _ (sym (behind s _ c.unit-2.ensures (take_rest s 1)) ∙ c.in_ok-from.was) in
    omega (arith, told.1, length-drop 1 s)

pub returns : goal.returns
returns c =
    let s = c.args.comment.now in
    let told = sym (behind s _ c.unit-2.ensures (take_rest s 1)) ∙ c.in_ok-from.was in
    sym (past_some s c.if-comment-eq0.false c.if-comment-ne32.false ∙ ap behind_one told)
