use Prim.Native.Nat.{ℕ}
use mathlib.Core.Path.{sym, ap, ◌∙◌}
use mathlib.Core.List.{List}
use Rattle.text.specs.Same.{same}
use Rattle.writing.proofs.Testing.{digits_odd, digits_ends}
use Rattle.writing.proofs.is_significant.Goals as goal

pub returns-then-every : goal.returns-then-every
returns-then-every c =
    let d = c.args.digits.now in
    c.same_bytes.ensures
    ∙ ap (λ (l : List ℕ). same l d) c.trimmed.ensures
    ∙ sym (digits_ends d (sym c.every.ensures ∙ c.if-every.true))

pub returns-else-every : goal.returns-else-every
returns-else-every c = c.if-every.false ∙ sym (digits_odd c.args.digits.now (sym c.every.ensures ∙ c.if-every.false))
