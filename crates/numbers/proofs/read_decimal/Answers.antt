-- The words are tried in the definition's order, and what is none of them is read as a finite decimal.
use mathlib.Core.Bool.{Bool}
use mathlib.Core.List.{[]}
use mathlib.Core.Path.{refl, sym, ap, ◌∙◌}
use Rattle.text.specs.Bytes.{ascii}
use Rattle.text.specs.Text.{bytes_of}
use Rattle.numbers.specs.Answers.{decimal_number, invalid}
use Rattle.numbers.specs.Signs.{is_negative, unsigned}
use Rattle.numbers.specs.declared.Size.TheVariants.{Infinite, Nan}
use Rattle.numbers.proofs.Words.{word_told}
use Rattle.numbers.proofs.Reading.{decimal_inf, decimal_infinity, decimal_nan, decimal-finite}
use Rattle.numbers.proofs.read_decimal.Goals.{then-eq_ignore_ascii_case-via-then-eq_ignore_ascii_case}
use Rattle.numbers.proofs.read_decimal.Goals.{then-eq_ignore_ascii_case-via-else-eq_ignore_ascii_case+then-eq_ignore_ascii_case-2}
use Rattle.numbers.proofs.read_decimal.Goals as goal

pub returns-then-eq_ignore_ascii_case-clause-value : goal.returns-then-eq_ignore_ascii_case-clause-value
returns-then-eq_ignore_ascii_case-clause-value c =
    let w = bytes_of c.args.t.now in
    let t = c.after_sign-word.result.now in
    let sign = c.after_sign-word.ensures ∙ ap unsigned c.as_slice-2.ensures.bytes in
    let minus = c.is_negative-minus.ensures ∙ ap is_negative c.as_slice.ensures.bytes in
    let inf = word_told (ascii "inf") t _ refl c.eq_ignore_ascii_case.ensures.test in
    c.without_digits.ensures
    ∙ ap (λ (m : Bool). decimal_number m Infinite []) minus
    ∙ elim c.then-eq_ignore_ascii_case.branch [
      | then-eq_ignore_ascii_case-via-then-eq_ignore_ascii_case x ↦ decimal_inf w t sign (sym inf ∙ x.if-eq_ignore_ascii_case.true)
      | then-eq_ignore_ascii_case-via-else-eq_ignore_ascii_case+then-eq_ignore_ascii_case-2 x ↦
          let infinity = word_told (ascii "infinity") t _ refl x.eq_ignore_ascii_case-else-eq_ignore_ascii_case.ensures.test in
          decimal_infinity w t sign (sym inf ∙ x.if-eq_ignore_ascii_case.false) (sym infinity ∙ x.if-eq_ignore_ascii_case-2.true)
    ]

pub returns-then-eq_ignore_ascii_case-3-clause-value : goal.returns-then-eq_ignore_ascii_case-3-clause-value
returns-then-eq_ignore_ascii_case-3-clause-value c =
    let w = bytes_of c.args.t.now in
    let t = c.after_sign-word.result.now in
    let sign = c.after_sign-word.ensures ∙ ap unsigned c.as_slice-2.ensures.bytes in
    let minus = c.is_negative-minus.ensures ∙ ap is_negative c.as_slice.ensures.bytes in
    let inf = word_told (ascii "inf") t _ refl c.eq_ignore_ascii_case.ensures.test in
    let infinity = word_told (ascii "infinity") t _ refl c.eq_ignore_ascii_case-else-eq_ignore_ascii_case.ensures.test in
    let nan = word_told (ascii "nan") t _ refl c.eq_ignore_ascii_case-2.ensures.test in
    c.without_digits-then-eq_ignore_ascii_case-3.ensures
    ∙ ap (λ (m : Bool). decimal_number m Nan []) minus
    ∙ decimal_nan w t sign (sym inf ∙ c.if-eq_ignore_ascii_case.false) (sym infinity ∙ c.if-eq_ignore_ascii_case-2.false)
    (sym nan ∙ c.if-eq_ignore_ascii_case-3.true)

pub returns-clause-value : goal.returns-clause-value
returns-clause-value c =
    let w = bytes_of c.args.t.now in
    let t = c.after_sign-word.result.now in
    let sign = c.after_sign-word.ensures ∙ ap unsigned c.as_slice-2.ensures.bytes in
    let inf = word_told (ascii "inf") t _ refl c.eq_ignore_ascii_case.ensures.test in
    let infinity = word_told (ascii "infinity") t _ refl c.eq_ignore_ascii_case-else-eq_ignore_ascii_case.ensures.test in
    let nan = word_told (ascii "nan") t _ refl c.eq_ignore_ascii_case-2.ensures.test in
    c.read_finite.ensures.value (invalid w)
    ∙ decimal-finite w t sign (sym inf ∙ c.if-eq_ignore_ascii_case.false) (sym infinity ∙ c.if-eq_ignore_ascii_case-2.false)
    (sym nan ∙ c.if-eq_ignore_ascii_case-3.false)
