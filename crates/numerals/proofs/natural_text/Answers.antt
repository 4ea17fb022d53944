-- `numerals::natural_text` meets its contract: the digits from place `at` on stand in the array, and those of `left` are to come.
use Prim.Native.Nat.{ℕ, ◌-◌}
use native.Mathlib.Omega.{arith}
use mathlib.Core.Path.{◌≡◌, refl, sym, ap, ◌∙◌}
use mathlib.Core.List.{List}
use lib.ListN.{length, set, take, drop, length-set}
use Rattle.text.specs.Text.{size, text_of}
use Rattle.text.proofs.Trimming.{take_rest}
use Rattle.numerals.specs.Numerals.{digit_byte}
use Rattle.numerals.proofs.Decimals.{begins, goes_on, ends, whole-end}
use Rattle.numerals.proofs.natural_text.Goals as goal

pub loop-left-init : goal.loop-left-init
loop-left-init c = begins c.args.n _ (omega arith) refl refl

pub loop-left-preserved : goal.loop-left-preserved
loop-left-preserved c = rw c.digit.ensures (goes_on c.loop-left.invariant (omega arith))

pub returns : goal.returns
returns c =
    let l = c.loop-left in
    let stored : ℕ → List ℕ = λ d. set l.bytes (l.at - 1) d in
    let long : length (stored (digit_byte l.left)) ≡ 20 = simp length-set l.invariant.long in
    let before : length (stored c.digit-2.result) ≡ 20 = simp length-set l.invariant.long in
    c.text_of.ensures
    ∙ ap (λ (n : ℕ). text_of (take size (take (n - (l.at - 1)) (drop (l.at - 1) (stored c.digit-2.result))))) (sym before)
    ∙ ap (λ (r : List ℕ). text_of (take size r)) (take_rest (stored c.digit-2.result) (l.at - 1))
    ∙ ap (λ (d : ℕ). text_of (take size (drop (l.at - 1) (stored d)))) c.digit-2.ensures
    ∙ whole-end (stored (digit_byte l.left)) _ (l.at - 1) long (ends l.invariant (omega arith))
