-- `lines::place_text` meets its contract: where there is a column, its text stands behind the card's digits.
use Rattle.std.specs.Prelude.{Option, Some}
use Rattle.std.proofs.Common.{sym, ap, ◌∙◌, ℕ, ◌++◌, arith}
use Rattle.text.specs.Text.{text_of}
use Rattle.numerals.specs.Numerals.{decimal_digits}
use Rattle.numerals.proofs.Decimals.{few-digits}
use Rattle.lines.specs.Lines.{column_part}
use Rattle.lines.proofs.Parts.{both_whole}
use Rattle.lines.proofs.place_text.Goals as goal

pub returns-in-Some : goal.returns-in-Some
returns-in-Some c =
    let card = c.args.card in
    let byte = c.in-Some.byte in
    c.both_of.ensures
    ∙ both_whole (decimal_digits card) (column_part (Some byte)) c.natural_text-number.ensures c.column_text.ensures
    (omega (arith, few-digits card (omega arith), few-digits byte (omega arith)))
    ∙ sym (ap (λ (k : Option ℕ). text_of (decimal_digits card ++ column_part k)) c.in-Some.is)
