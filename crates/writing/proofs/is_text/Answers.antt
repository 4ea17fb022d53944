use mathlib.Core.Path.{sym, ◌∙◌}
use lib.ListN.{length}
use borrow.Author.Tests.{lt-leb}
use mathlib.Core.Bool.{true≢false}
use Rattle.writing.proofs.Testing.{text-long, text_odd, text-end}
use Rattle.writing.proofs.is_text.Goals as goal
use Rattle.writing.proofs.is_text.Goals.{then-s-le-TEXT_LIMIT, else-s-le-TEXT_LIMIT}

pub returns-then-are_printable : goal.returns-then-are_printable
returns-then-are_printable c =
    elim c.if-s-le-TEXT_LIMIT.branch [
      | then-s-le-TEXT_LIMIT w ↦
          c.ends_well.ensures
          ∙ sym (text-end c.args.s.now w.if-s-le-TEXT_LIMIT.true (sym w.are_printable.ensures ∙ sym w.value-is ∙ c.if-are_printable.true))
      | else-s-le-TEXT_LIMIT w ↦
          absurd (true≢false (sym c.if-are_printable.true ∙ w.value-is ∙ lt-leb (length c.args.s.now) 2000 w.if-s-le-TEXT_LIMIT.false))
    ]

pub returns-else-are_printable : goal.returns-else-are_printable
returns-else-are_printable c =
    elim c.if-s-le-TEXT_LIMIT.branch [
      | then-s-le-TEXT_LIMIT w ↦
          c.if-are_printable.false
          ∙ sym (text_odd c.args.s.now (sym w.are_printable.ensures ∙ sym w.value-is ∙ c.if-are_printable.false))
      | else-s-le-TEXT_LIMIT w ↦ c.if-are_printable.false ∙ sym (text-long c.args.s.now w.if-s-le-TEXT_LIMIT.false)
    ]
