use mathlib.Core.Path.{sym, ap, ◌∙◌}
use mathlib.Core.Bool.{true≢false}
use lib.ListN.{length}
use borrow.Author.Tests.{lt-leb}
use Rattle.writing.specs.Rules.{is_other}
use Rattle.writing.proofs.Testing.{name-long, name_odd, name_class, not-other}
use Rattle.writing.proofs.is_name.Goals as goal
use Rattle.writing.proofs.is_name.Goals.{then-name-le-NAME_ROOM, else-name-le-NAME_ROOM}

pub returns-in-Other : goal.returns-in-Other
returns-in-Other c =
    let n = c.args.name.now in
    elim c.if-name-le-NAME_ROOM.branch [
      | then-name-le-NAME_ROOM w ↦
          sym (name_class n w.if-name-le-NAME_ROOM.true (sym w.every.ensures ∙ sym w.value-is ∙ c.if-every.true)
          ∙ ap is_other (sym c.class_of.ensures ∙ c.in-Other.is))
      | else-name-le-NAME_ROOM w ↦
          absurd (true≢false (sym c.if-every.true ∙ w.value-is ∙ lt-leb (length n) 8 w.if-name-le-NAME_ROOM.false))
    ]

pub returns-in_default : goal.returns-in_default
returns-in_default c =
    let n = c.args.name.now in
    elim c.if-name-le-NAME_ROOM.branch [
      | then-name-le-NAME_ROOM w ↦
          sym (name_class n w.if-name-le-NAME_ROOM.true (sym w.every.ensures ∙ sym w.value-is ∙ c.if-every.true)
          ∙ ap is_other (sym c.class_of.ensures)
          ∙ not-other c.class_of.result c.in_default.not-Other)
      | else-name-le-NAME_ROOM w ↦
          absurd (true≢false (sym c.if-every.true ∙ w.value-is ∙ lt-leb (length n) 8 w.if-name-le-NAME_ROOM.false))
    ]

pub returns-else-every : goal.returns-else-every
returns-else-every c =
    let n = c.args.name.now in
    elim c.if-name-le-NAME_ROOM.branch [
      | then-name-le-NAME_ROOM w ↦
          c.if-every.false
          ∙ sym (name_odd n w.if-name-le-NAME_ROOM.true (sym w.every.ensures ∙ sym w.value-is ∙ c.if-every.false))
      | else-name-le-NAME_ROOM w ↦ c.if-every.false ∙ sym (name-long n w.if-name-le-NAME_ROOM.false)
    ]
