-- `value::unit` meets its contract: by the first byte, and by where the closing bracket stands.
use Rattle.std.proofs.Common.{◌≡◌, ℕ, List, sym, ap, ◌∙◌, arith, drop, length-drop}
use Rattle.std.specs.Prelude.{Option}
use Prim.Native.Char.{code}
use Rattle.text.specs.Place.{place_of}
use Rattle.text.proofs.Trimming.{take_rest}
use Rattle.text.proofs.Finding.{found_within}
use Rattle.value.specs.Units.{closed_at}
use Rattle.value.proofs.Units.{unit_empty, unit_none, unit_some}
use Rattle.value.proofs.unit.Goals as goal

-- the place behind the bracket, as it is found in the part that is looked through
found : (s t : List ℕ) {p : Option ℕ} → p ≡ place_of (code "]") t → t ≡ drop 1 s → p ≡ place_of (code "]") (drop 1 s)
found s t e is = e ∙ ap (place_of (code "]")) is

pub returns-then-comment-eq0 : goal.returns-then-comment-eq0
returns-then-comment-eq0 c = sym (unit_empty c.args.comment.now c.if-comment-eq0.true)

pub returns-then-comment-ne91 : goal.returns-then-comment-ne91
returns-then-comment-ne91 c = sym (unit_none c.args.comment.now c.if-comment-eq0.false c.if-comment-ne91.true)

pub returns-in_err-i : goal.returns-in_err-i
returns-in_err-i c =
    let s = c.args.comment.now in
    let told = sym (found s _ c.find_byte.ensures (take_rest s 1)) ∙ c.in_err-i.was in
    c.from_residual.ensures ∙ sym (unit_some s c.if-comment-eq0.false c.if-comment-ne91.false ∙ ap closed_at told)

pub overflow_add-result : goal.overflow_add-result
overflow_add-result c =
    let s = c.args.comment.now in
    let told = sym (found s _ c.find_byte.ensures (take_rest s 1)) ∙ c.in_ok-i.was in
    omega (arith, found_within (code "]") (drop 1 s) c.in_ok-i.i told, length-drop 1 s)

pub returns : goal.returns
returns c =
    let s = c.args.comment.now in
    let told = sym (found s _ c.find_byte.ensures (take_rest s 1)) ∙ c.in_ok-i.was in
    sym (unit_some s c.if-comment-eq0.false c.if-comment-ne91.false ∙ ap closed_at told)
