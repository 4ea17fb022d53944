-- `lines::column_text` meets its contract: a colon stands before the digits.
use native.Mathlib.Omega.{arith}
use mathlib.Core.Path.{◌∙◌}
use Rattle.text.specs.Bytes.{ascii}
use Rattle.numerals.specs.Numerals.{decimal_digits}
use Rattle.numerals.proofs.Decimals.{few-digits}
use Rattle.lines.proofs.Parts.{both_whole}
use Rattle.lines.proofs.column_text.Goals as goal

pub returns : goal.returns
returns c =
    let n = c.args.byte in
    c.both_of.ensures
    ∙ both_whole (ascii ":") (decimal_digits n) c.text_of.ensures c.natural_text.ensures (omega (arith, few-digits n (omega arith)))
