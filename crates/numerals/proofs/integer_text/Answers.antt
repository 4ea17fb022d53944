-- `numerals::integer_text` meets its contract: the digits are those of the size, and a minus stands before them where z < 0.
use native.Mathlib.Omega.{arith}
use Prim.Native.Nat.{ℕ, suc, ◌≤◌}
use mathlib.Core.Path.{sym, ap, ◌∙◌}
use mathlib.Core.Bool.{true}
use mathlib.Core.List.{List, ◌++◌}
use lib.IntN.{ℤ, nat_abs}
use lib.ListN.{length, take}
use mir.Syntax.{w64}
use mir.Facts.{to_z-of_z}
use Rattle.text.specs.Text.{size, text_of}
use Rattle.laws.proofs.Signs.{is_negative}
use Rattle.numerals.specs.Numerals.{decimal_digits, minus_of, signed_digits}
use Rattle.numerals.proofs.Decimals.{few_signed, text-before}
use Rattle.numerals.proofs.integer_text.Goals as goal

pub returns-then-z-lt0 : goal.returns-then-z-lt0
returns-then-z-lt0 c =
    let n = is_negative w64 _ c.ranges.z c.if-z-lt0.true in
    let v = decimal_digits (suc n.k) in
    let fits : length (minus_of true ++ v) ≤ 21 = rw n.is at (few_signed c.args.z c.ranges.z) in
    let size_is = c.unsigned_abs.ensures.value ∙ ap nat_abs (to_z-of_z {w = w64} c.ranges.z ∙ n.is) in
    c.joined_text.ensures
    ∙ ap (λ (l : List ℕ). text_of (take size (minus_of true ++ l))) c.as_slice.ensures.bytes
    ∙ text-before (minus_of true) v (c.natural_text-digits.ensures ∙ ap (λ (k : ℕ). text_of (decimal_digits k)) size_is) (omega arith)
    ∙ sym (ap (λ (z : ℤ). text_of (signed_digits z)) n.is)
