-- An integer is read as the definition's first try does, and all else as both others do.
use mathlib.Core.List.{map}
use mathlib.Core.Path.{sym, ap, ◌∙◌}
use borrow.Author.Rules.{rules}
use mir.Syntax.{w64}
use mir.Val.{SFits}
use mir.Facts.{to_z-of_z}
use Rattle.text.specs.declared.Text.{Text}
use Rattle.text.specs.Bytes.{d_to_e}
use Rattle.text.specs.Text.{bytes_of}
use Rattle.text.proofs.Texts.{bytes-text}
use Rattle.numbers.specs.declared.Value.TheVariants.{Invalid}
use Rattle.numbers.specs.Answers.{whole_of, invalid}
use Rattle.numbers.specs.Decimals.{decimal_of}
use Rattle.numbers.proofs.Altering.{one_try}
use Rattle.numbers.proofs.Reading.{first_try, altered}
use Rattle.numbers.proofs.parse_number.Goals as goal

pub returns-in-Some : goal.returns-in-Some
returns-in-Some c =
    let z = c.in-Some.z in
    let fits : SFits w64 z = search rules in
    let none = rw c.as_slice.ensures.bytes at c.in-Some.ensures in
    c.whole.ensures ∙ ap whole_of (to_z-of_z {w = w64} fits) ∙ first_try (bytes_of c.args.t.now) z none

pub returns-in-Some-read_decimal : goal.returns-in-Some-read_decimal
returns-in-Some-read_decimal c =
    let w = bytes_of c.args.t.now in
    let none = rw c.as_slice.ensures.bytes at c.in_default.ensures in
    let s = c.as_slice-2.ensures in
    let text = altered c.changed_text-altered.result _ w s.bytes s.fits c.changed_text-altered.ensures in
    c.in-Some-read_decimal.ensures.value
    ∙ ap (λ (t : Text). decimal_of (bytes_of t)) text
    ∙ ap decimal_of (bytes-text (map d_to_e w))
    ∙ one_try w none

pub returns-in-None : goal.returns-in-None
returns-in-None c =
    let w = bytes_of c.args.t.now in
    let none = rw c.as_slice.ensures.bytes at c.in_default.ensures in
    let s = c.as_slice-2.ensures in
    let text = altered c.changed_text-altered.result _ w s.bytes s.fits c.changed_text-altered.ensures in
    let held = ap bytes_of text ∙ bytes-text (map d_to_e w) in
    (λ j. record { value = Invalid; text = text j })
    ∙ ap invalid (sym held)
    ∙ c.in-None.ensures.value
    ∙ ap decimal_of held
    ∙ one_try w none
