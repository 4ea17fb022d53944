use mathlib.Core.Path.{sym, ◌∙◌}
use Rattle.writing.proofs.Testing.{ends_open, ends-closed}
use Rattle.writing.proofs.ends_well.Goals as goal

pub returns-then-not-ends_with-2 : goal.returns-then-not-ends_with-2
returns-then-not-ends_with-2 c =
    let s = c.args.s.now in
    let free = sym c.ends_with-then-not-ends_with.ensures.value ∙ c.if-not-ends_with-2.true in
    rw c.if-not-ends_with-2.true (sym (rw free at (ends-closed s (sym c.ends_with.ensures.value ∙ c.if-not-ends_with.true))))

pub returns-else-not-ends_with-2 : goal.returns-else-not-ends_with-2
returns-else-not-ends_with-2 c =
    let s = c.args.s.now in
    let spaced = sym c.ends_with-then-not-ends_with.ensures.value ∙ c.if-not-ends_with-2.false in
    c.same_bytes.ensures ∙ sym (rw spaced at (ends-closed s (sym c.ends_with.ensures.value ∙ c.if-not-ends_with.true)))

pub returns-else-not-ends_with : goal.returns-else-not-ends_with
returns-else-not-ends_with c =
    rw c.if-not-ends_with.false (sym (ends_open c.args.s.now (sym c.ends_with.ensures.value ∙ c.if-not-ends_with.false)))
