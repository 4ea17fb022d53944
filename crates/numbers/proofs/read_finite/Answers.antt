-- The parts of the text are the definition's, one callee each.
-- The digits before and after the point stand together in an array and are read again from there.
use Prim.Native.Nat.{ℕ, ◌≤◌}
use native.Mathlib.Omega.{arith}
use mathlib.Core.Bool.{Bool}
use mathlib.Core.List.{List}
use mathlib.Core.Path.{◌≡◌, sym, ap, ap₂, ◌∙◌}
use borrow.Author.Rules.{rules}
use borrow.Author.Tests.{eqb-true, eqb-false}
use lib.IntN.{ℤ}
use lib.ListN.{length}
use mir.Syntax.{w64}
use mir.Val.{SFits}
use mir.Facts.{to_z-of_z}
use Rattle.text.specs.Text.{size, bytes_of}
use Rattle.numbers.specs.Decimals.{scaled, finite_of, exponent_of, after_fraction}
use Rattle.numbers.specs.Signs.{is_negative, unsigned}
use Rattle.numbers.proofs.Fronts.{sign_shorter}
use Rattle.numbers.proofs.Reading.{exponent_small, fraction_few, finite-none, finite-empty, finite-some}
use Rattle.numbers.proofs.read_finite.Goals as goal

pub returns-in_err-exponent-clause-value : goal.returns-in_err-exponent-clause-value
returns-in_err-exponent-clause-value c other =
    let w = bytes_of c.args.t.now in
    let sign = c.after_sign-s.ensures ∙ ap unsigned c.as_slice.ensures.bytes in
    let none = ap exponent_of (sym c.after_fraction.ensures) ∙ sym c.read_exponent.ensures ∙ c.in_err-exponent.was in
    rw c.from_residual.ensures
    (finite-none _ _ _ c.trim_start-rest.ensures c.fraction_digits-fraction.ensures (is_negative w) other none
    ∙ ap (λ (s : List ℕ). finite_of (is_negative w) s other) sign)

pub returns-then-is_empty-clause-value : goal.returns-then-is_empty-clause-value
returns-then-is_empty-clause-value c other =
    let w = bytes_of c.args.t.now in
    let sign = c.after_sign-s.ensures ∙ ap unsigned c.as_slice.ensures.bytes in
    let short : length c.after_sign-s.result.now ≤ size =
    omega (arith, ap length c.after_sign-s.ensures, sign_shorter c.as_slice.result.now, c.as_slice.ensures.fits) in
    let some = ap exponent_of (sym c.after_fraction.ensures) ∙ sym c.read_exponent.ensures ∙ c.in_ok-exponent.was in
    let none = ap length (sym c.as_slice-2.ensures.bytes) ∙ eqb-true _ 0 (sym c.is_empty.ensures ∙ c.if-is_empty.true) in
    finite-empty _ _ _ c.trim_start-rest.ensures c.fraction_digits-fraction.ensures (is_negative w) other
    c.in_ok-exponent.exponent some short _ c.leading_of.ensures _ c.joined_text-digits.ensures none
    ∙ ap (λ (s : List ℕ). finite_of (is_negative w) s other) sign

pub scaled_of-requires : goal.scaled_of-requires
scaled_of-requires c =
    let short : length c.after_sign-s.result.now ≤ size =
    omega (arith, ap length c.after_sign-s.ensures, sign_shorter c.as_slice.result.now, c.as_slice.ensures.fits) in
    let some = ap exponent_of (sym c.after_fraction.ensures) ∙ sym c.read_exponent.ensures ∙ c.in_ok-exponent.was in
    let z = c.in_ok-exponent.exponent in
    let fits : SFits w64 z = search rules in (
      fraction_few _ _ _ c.trim_start-rest.ensures c.fraction_digits-fraction.ensures short,
      rw (to_z-of_z {w = w64} fits) (exponent_small (after_fraction c.trim_start-rest.result.now) z some),
    )

pub returns-clause-value : goal.returns-clause-value
returns-clause-value c other =
    let w = bytes_of c.args.t.now in
    let sign = c.after_sign-s.ensures ∙ ap unsigned c.as_slice.ensures.bytes in
    let short : length c.after_sign-s.result.now ≤ size =
    omega (arith, ap length c.after_sign-s.ensures, sign_shorter c.as_slice.result.now, c.as_slice.ensures.fits) in
    let x = ap exponent_of (sym c.after_fraction.ensures) ∙ sym c.read_exponent.ensures ∙ c.in_ok-exponent.was in
    let z = c.in_ok-exponent.exponent in
    let fits : SFits w64 z = search rules in
    let d = bytes_of c.joined_text-digits.result in
    let minus = c.is_negative.ensures ∙ ap is_negative c.as_slice-3.ensures.bytes in
    let some : length d ≡ 0 → ⊥ =
    λ e. eqb-false _ 0 (sym c.is_empty.ensures ∙ c.if-is_empty.false) (ap length c.as_slice-2.ensures.bytes ∙ e) in
    c.scaled_of.ensures
    ∙ ap₂ (λ (m : Bool) (e : ℤ). scaled m d (length c.fraction_digits-fraction.result.now) e) minus (to_z-of_z {w = w64} fits)
    ∙ finite-some _ _ _ c.trim_start-rest.ensures c.fraction_digits-fraction.ensures (is_negative w) other
    z x short _ c.leading_of.ensures _ c.joined_text-digits.ensures some
    ∙ ap (λ (s : List ℕ). finite_of (is_negative w) s other) sign

pub returns-clause-read : goal.returns-clause-read
unfolding scaled
returns-clause-read c = rw c.scaled_of.ensures
