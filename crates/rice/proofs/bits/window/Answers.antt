-- `rice::bits::window`: the shift drops the bits of p's byte that stand before p. Assumes nothing.
use mathlib.Core.Path.{ap, ◌∙◌}
use Prim.Native.Nat.{ℕ, ◌*◌, ◌%◌, ◌^◌}
use Rattle.rice.proofs.HeldBits.{window_held}
use Rattle.rice.proofs.bits.window.Goals as goal

pub returns : goal.returns
returns c =
    let a = c.args in
    ap (λ (w : ℕ). w * 2 ^ (a.p % 8) % 2 ^ 64) c.whole_word.ensures ∙ window_held a.s.now a.p
