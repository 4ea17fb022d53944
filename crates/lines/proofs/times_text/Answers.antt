-- `lines::times_text` meets its contract: a number of at most 20 digits fits behind its two bytes.
use native.Mathlib.Omega.{arith}
use mathlib.Core.Path.{sym, ap, ◌∙◌}
use Rattle.text.specs.Bytes.{ascii}
use Rattle.text.specs.Text.{text_of}
use Rattle.numerals.specs.Numerals.{decimal_digits}
use Rattle.numerals.proofs.Decimals.{few-digits}
use Rattle.lines.proofs.Parts.{both_whole, some-shown}
use Rattle.lines.proofs.times_text.Goals as goal

pub returns : goal.returns
returns c =
    let n = c.args.times in
    c.both_of.ensures
    ∙ both_whole (ascii " x") (decimal_digits n) c.text_of.ensures c.natural_text.ensures (omega (arith, few-digits n (omega arith)))
    ∙ sym (ap text_of (some-shown n (omega arith)))
