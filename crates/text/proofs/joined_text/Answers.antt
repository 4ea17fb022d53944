use Prim.Native.Nat.{ℕ, ◌+◌, ◌-◌, ◌≤◌}
use native.Mathlib.Omega.{arith}
use mathlib.Core.Path.{◌≡◌, sym, ap, ◌∙◌}
use lib.ListN.{length, take, length-take}
use Rattle.text.specs.declared.Text.{Text}
use Rattle.text.specs.Text.{size, text_of}
use Rattle.text.proofs.Texts.{text-behind, take_both}
use Rattle.text.proofs.joined_text.Goals as goal

pub overflow_sub-len : goal.overflow_sub-len
overflow_sub-len c =
    let first : c.text_of-joined.result.len ≡ length (take size c.args.a.now) = ap (λ (t : Text). t.len) c.text_of-joined.ensures in
    omega (arith, first, length-take size c.args.a.now)

pub returns : goal.returns
returns c =
    let a = c.args.a.now in
    let b = c.args.b.now in
    let u = take size a in
    let v = take (size - length u) b in
    let first : c.text_of-joined.result.len ≡ length u = ap (λ (t : Text). t.len) c.text_of-joined.ensures in
    let rest : c.first_of-rest.result.now ≡ v = c.first_of-rest.ensures ∙ ap (λ (k : ℕ). take (size - k) b) first in
    let fits : length u + length v ≤ size = omega (arith, length-take size a, length-take (size - length u) b) in
    text-behind u v c.text_of-joined.ensures rest fits c.put_at.ensures ∙ ap text_of (sym (take_both size a b))
