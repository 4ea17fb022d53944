use mathlib.Core.Path.{sym, ap, ◌∙◌}
use Rattle.laws.proofs.Truths.{and_both}
use Rattle.writing.specs.Pieces.{comment_lent, text_room}
use Rattle.writing.specs.Rules.{is_short, is_comment}
use Rattle.writing.specs.Block.{WriteOutcome}
use Rattle.writing.proofs.Testing.{name-length}
use Rattle.writing.proofs.Plain.{short_tail}
use Rattle.writing.proofs.Outcomes.{name-refused, value_refused_lem, value-put}
use Rattle.writing.proofs.write.Goals as goal

pub returns-then-not-is_name : goal.returns-then-not-is_name
returns-then-not-is_name c =
    let a = c.args in
    let is = name-refused a.name.now a.value a.text.now (comment_lent a.comment) a.block.now
    (sym c.is_name.ensures ∙ c.if-not-is_name.true) in
    record {
      value = c.refused.ensures ∙ sym (ap (λ (w : WriteOutcome). w.answer) is);
      block_after = sym (ap (λ (w : WriteOutcome). w.block) is);
    }

pub returns-then-not-is_comment : goal.returns-then-not-is_comment
returns-then-not-is_comment c =
    let a = c.args in
    let is = value_refused_lem a.name.now a.value a.text.now (comment_lent a.comment) a.block.now
    (sym c.is_name.ensures ∙ c.if-not-is_name.false)
    (sym c.is_comment.ensures ∙ c.if-not-is_comment.true) in
    record {
      value = c.refused-then-not-is_comment.ensures ∙ sym (ap (λ (w : WriteOutcome). w.answer) is);
      block_after = sym (ap (λ (w : WriteOutcome). w.block) is);
    }

pub invariant_of-label : goal.invariant_of-label
invariant_of-label c =
    let o = comment_lent c.args.comment in
    let fine = and_both (is_short text_room o) (is_comment o) (sym c.is_comment.ensures ∙ c.if-not-is_comment.false) in
    record {
      name_short = name-length c.args.name.now (sym c.is_name.ensures ∙ c.if-not-is_name.false);
      comment_short = short_tail 70 o fine.0;
    }

pub returns : goal.returns
returns c =
    let a = c.args in
    let is = c.write_value.ensures
    ∙ value-put a.name.now a.value a.text.now (comment_lent a.comment) a.block.now
    (sym c.is_name.ensures ∙ c.if-not-is_name.false)
    (sym c.is_comment.ensures ∙ c.if-not-is_comment.false) in
    record {
      value = ap (λ (w : WriteOutcome). w.answer) is;
      block_after = ap (λ (w : WriteOutcome). w.block) is;
    }
