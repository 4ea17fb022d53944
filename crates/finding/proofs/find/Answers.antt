-- `finding::find` meets its contract: what is left of the cards decides for the whole.
use Rattle.std.proofs.Common.{◌≡◌, ◌+◌, ◌/◌, ℕ, List, Bool, length, sym, ap, subst, ◌∙◌, cond}
use Rattle.std.specs.Prelude.{Err, Option, Some}
use Rattle.refusal.specs.declared.Fault.{Fault}
use Rattle.finding.specs.Finding.{stop_at}
use Rattle.finding.proofs.Searching.{Reached, bad_found, at_end, on_card, on_end, on_refused}
use Rattle.finding.proofs.find.Goals as goal
use Rattle.finding.proofs.find.Goals.{then-bears_name, else-bears_name}

-- what the search stands at after a card, by the test of its name
turned : (h name : List ℕ) (i : ℕ) (p q : Option ℕ) (b x : Bool) → Reached h name (cond b (Some i) p) (i + 1) → x ≡ b
    → q ≡ cond x (Some i) p → Reached h name q (i + 1)
turned h name i p q b x r e is =
    subst (λ (y : Option ℕ). Reached h name y (i + 1)) (sym (is ∙ ap (λ (z : Bool). cond z (Some i) p) e)) r

pub returns-then-is_bad_length : goal.returns-then-is_bad_length
returns-then-is_bad_length c =
    ap Err (c.stop_at.ensures ∙ ap (λ (f : Fault). stop_at f 0) c.fault_of.ensures)
    ∙ bad_found c.args.header.now c.args.name.now (sym c.is_bad_length.ensures ∙ c.if-is_bad_length.true)

pub returns-in-Err : goal.returns-in-Err
returns-in-Err c =
    let good = sym c.is_bad_length.ensures ∙ c.if-is_bad_length.false in
    ap Err c.stop_at-in-Err.ensures
    ∙ on_refused c.loop-i.invariant c.loop-i-test.true c.card_at.result c.card_at.ensures good c.in-Err.fault c.in-Err.is

pub returns-in-Last : goal.returns-in-Last
returns-in-Last c =
    let good = sym c.is_bad_length.ensures ∙ c.if-is_bad_length.false in
    on_end c.loop-i.invariant c.loop-i-test.true c.card_at.result c.card_at.ensures good _ c.role_of-role.result c.in-Ok.is
    c.role_of-role.ensures c.in-Last.is

pub loop-i-preserved : goal.loop-i-preserved
loop-i-preserved c =
    let next =
    on_card c.loop-i.invariant c.loop-i-test.true c.card_at.result c.card_at.ensures _ c.role_of-role.result c.in-Ok.is
    c.role_of-role.ensures c.in_default.not-Last
    in
    let last = λ (x : Bool). cond x (Some c.loop-i.i) c.loop-i.last in
    elim c.if-bears_name.branch [
      | then-bears_name w ↦ turned _ _ _ _ _ _ _ next c.bears_name.ensures (w.last-is ∙ sym (ap last w.if-bears_name.true))
      | else-bears_name w ↦ turned _ _ _ _ _ _ _ next c.bears_name.ensures (w.last-is ∙ sym (ap last w.if-bears_name.false))
    ]

pub returns : goal.returns
returns c =
    let good = sym c.is_bad_length.ensures ∙ c.if-is_bad_length.false in
    let n = length c.args.header.now / 80 in
    ap Err (c.stop_at-2.ensures ∙ ap (λ (f : Fault). stop_at f n) c.fault_of-2.ensures)
    ∙ at_end c.loop-i.invariant good c.loop-i-test.false
