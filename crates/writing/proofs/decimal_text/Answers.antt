-- `writing::decimal_text` meets its contract: the sign and the digits fit an array.
use Prim.Native.Nat.{ℕ, ◌≤◌}
use native.Mathlib.Omega.{arith}
use mathlib.Core.Path.{◌≡◌, sym, ap, ap₂, ◌∙◌}
use mathlib.Core.List.{List, ◌++◌}
use lib.IntN.{ℤ}
use lib.ListN.{length, take, length-append}
use lib.Seq.{take_all}
use mir.Facts.{to_z-of_z}
use Rattle.text.specs.Text.{size, text_of}
use Rattle.text.proofs.Texts.{text-bytes}
use Rattle.numerals.specs.Numerals.{minus_of}
use Rattle.writing.specs.Passes.{scale_of}
use Rattle.writing.proofs.Plain.{minus_length, decimal-is}
use Rattle.writing.proofs.decimal_text.Goals as goal

pub returns : goal.returns
returns c =
    let a = c.args in
    let d = a.digits.now in
    let u = minus_of a.minus ++ d in
    let few : length u ≤ size = omega (arith, length-append (minus_of a.minus) d, minus_length a.minus) in
    let front : c.as_slice.result.now ≡ u =
    c.as_slice.ensures.bytes ∙ text-bytes (take size u) c.signed_text-front.ensures ∙ take_all size u few in
    let power = ap (λ (z : ℤ). text_of (scale_of d z)) (to_z-of_z c.ranges.power) in
    let behind : c.as_slice-2.result.now ≡ scale_of d a.power =
    c.as_slice-2.ensures.bytes ∙ text-bytes (scale_of d a.power) (c.scale_text-behind.ensures ∙ power) in
    c.joined_text.ensures
    ∙ ap₂ (λ (l r : List ℕ). text_of (take size (l ++ r))) front behind
    ∙ ap (λ (l : List ℕ). text_of (take size l)) (sym (decimal-is a.minus d a.power))
