-- `lines::tail_at` meets its contract, by the sizes of a float.
use Prim.Native.Char.{code}
use native.Mathlib.Omega.{arith}
use mathlib.Core.Path.{sym, ap, ap₂, subst, ◌∙◌}
use lib.IntN.{ℤ}
use mir.Syntax.{w64}
use mir.Val.{SFits}
use mir.Facts.{to_z-of_z}
use Rattle.text.specs.Text.{text_of}
use Rattle.numerals.specs.Numerals.{power_text}
use Rattle.numerals.proofs.Decimals.{few_signed}
use Rattle.lines.specs.Segments.{size_tail, IsTail}
use Rattle.lines.proofs.tail_at.Goals as goal

pub returns-else-empty : goal.returns-else-empty
returns-else-empty c =
    let power = c.in-Finite.power in
    let fits : SFits w64 power = record { sfits = c.in-Finite.known_told-1-own.given.0.1 } in
    subst
    (IsTail c.power_text.result)
    (sym (ap₂ size_tail c.in-Finite.is c.if-empty.false))
    (record {
      made = c.power_text.ensures ∙ ap (λ (z : ℤ). text_of (power_text (code "e") z)) (to_z-of_z fits);
      short = omega (arith, few_signed power fits);
    })
