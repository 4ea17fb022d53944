-- Where nothing is left of the digits the number is zero. Otherwise as many zeros are gone at the end as the two lengths differ by.
use Prim.Native.Nat.{ℕ, ◌-◌}
use native.Mathlib.Omega.{arith}
use mathlib.Core.List.{List}
use mathlib.Core.Path.{sym, ap, ◌∙◌}
use borrow.Author.Tests.{eqb-true, eqb-false}
use lib.Seq.{take_all}
use lib.ListN.{length}
use Rattle.text.specs.Text.{size, text_of}
use Rattle.numbers.specs.declared.Value.TheVariants.{Float}
use Rattle.numbers.specs.declared.Size.TheVariants.{Finite}
use Rattle.numbers.specs.Decimals.{scaled}
use Rattle.numbers.proofs.Scaling.{power_fits, power_told, trimmed_shorter, trimmed_few, scaled-zero, scaled-some}
use Rattle.numbers.proofs.scaled_of.Goals as goal

pub returns-then-is_empty : goal.returns-then-is_empty
returns-then-is_empty c =
    let a = c.args in
    let none = eqb-true _ 0 (sym c.is_empty.ensures ∙ c.if-is_empty.true) in
    c.without_digits.ensures
    ∙ scaled-zero _ _ _ c.trim_start-rest.ensures c.trim_end-significant.ensures a.minus a.places a.exponent none
    ∙ ap (λ (d : List ℕ). scaled a.minus d a.places a.exponent) c.as_slice.ensures.bytes

pub overflow_sub-zeros : goal.overflow_sub-zeros
overflow_sub-zeros c = trimmed_shorter _ _ _ c.trim_start-rest.ensures c.trim_end-significant.ensures

pub overflow_add-result : goal.overflow_add-result
overflow_add-result c =
    let few = trimmed_few _ _ _ c.trim_start-rest.ensures c.trim_end-significant.ensures c.as_slice.ensures.fits in
    power_fits c.args.exponent c.args.places _ c.requires.1 c.requires.0 (omega (arith, few))

pub returns : goal.returns
returns c =
    let a = c.args in
    let r = c.trim_start-rest.result.now in
    let s = c.trim_end-significant.result.now in
    let front = c.trim_start-rest.ensures in
    let back = c.trim_end-significant.ensures in
    let few = trimmed_few _ _ _ front back c.as_slice.ensures.fits in
    let power = power_told a.exponent a.places (length r - length s) c.requires.1 c.requires.0 (omega (arith, few)) in
    let all = take_all size s (omega (arith, few, trimmed_shorter _ _ _ front back)) in
    let some = eqb-false (length s) 0 (sym c.is_empty.ensures ∙ c.if-is_empty.false) in
    (λ j. record { value = Float a.minus (Finite (power j)); text = (c.text_of.ensures ∙ ap text_of all) j })
    ∙ scaled-some _ r s front back a.minus a.places a.exponent some
    ∙ ap (λ (d : List ℕ). scaled a.minus d a.places a.exponent) c.as_slice.ensures.bytes
