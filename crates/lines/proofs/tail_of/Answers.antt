use native.Mathlib.Omega.{arith}
use mathlib.Core.Path.{sym, ap, subst, ◌∙◌}
use lib.IntN.{ℤ}
use mir.Syntax.{w64}
use mir.Val.{SFits}
use mir.Facts.{to_z-of_z}
use Rattle.std.proofs.Common.{rules}
use Rattle.text.specs.Text.{text_of}
use Rattle.numbers.specs.declared.Value.{Value}
use Rattle.numerals.specs.Numerals.{signed_digits}
use Rattle.numerals.proofs.Decimals.{few_signed}
use Rattle.lines.specs.Segments.{reading_tail, IsTail}
use Rattle.lines.proofs.tail_of.Goals as goal

pub returns-in-Integer : goal.returns-in-Integer
returns-in-Integer c =
    let z = c.in-Integer.z in
    let fits : SFits w64 z = search rules in
    subst
    (λ (v : Value). IsTail c.integer_text.result (reading_tail v c.args.empty))
    (sym c.in-Integer.is)
    (record {
      made = c.integer_text.ensures ∙ ap (λ (y : ℤ). text_of (signed_digits y)) (to_z-of_z fits);
      short = omega (arith, few_signed z fits);
    })
