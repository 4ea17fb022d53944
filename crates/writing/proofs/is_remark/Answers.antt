use mathlib.Core.Path.{refl, sym, ap, ◌∙◌}
use mathlib.Core.Bool.{not}
use Rattle.writing.proofs.Testing.{remark_odd, remark_end, ends-byte}
use Rattle.writing.proofs.is_remark.Goals as goal

pub returns-then-are_printable : goal.returns-then-are_printable
returns-then-are_printable c =
    let s = c.args.comment.now in
    ap not (c.ends_with.ensures.value ∙ ends-byte 32 refl s)
    ∙ sym (remark_end s (sym c.are_printable.ensures ∙ c.if-are_printable.true))

pub returns-else-are_printable : goal.returns-else-are_printable
returns-else-are_printable c =
    c.if-are_printable.false ∙ sym (remark_odd c.args.comment.now (sym c.are_printable.ensures ∙ c.if-are_printable.false))
