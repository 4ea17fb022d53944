-- `numerals::power_text` meets its contract: the letter stands before the digits of the power.
use native.Mathlib.Omega.{arith}
use mathlib.Core.Path.{ap, ◌∙◌}
use mathlib.Core.List.{List, [], ◌∷◌, ◌++◌}
use Prim.Native.Nat.{ℕ}
use lib.IntN.{ℤ}
use lib.ListN.{take}
use mir.Facts.{to_z-of_z}
use Rattle.text.specs.Text.{size, text_of}
use Rattle.numerals.specs.Numerals.{signed_digits}
use Rattle.numerals.proofs.Decimals.{few_signed, text-before}
use Rattle.numerals.proofs.power_text.Goals as goal

pub returns : goal.returns
returns c =
    let front = c.args.letter ∷ [] in
    let z = c.args.power in
    let own = c.integer_text.ensures ∙ ap (λ (y : ℤ). text_of (signed_digits y)) (to_z-of_z c.ranges.power) in
    c.joined_text.ensures
    ∙ ap (λ (l : List ℕ). text_of (take size (front ++ l))) c.as_slice.ensures.bytes
    ∙ text-before front (signed_digits z) own (omega (arith, few_signed z c.ranges.power))
