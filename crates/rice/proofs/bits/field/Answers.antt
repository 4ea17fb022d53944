-- `rice::bits::field`: the first n bits of the word that starts at p. Assumes nothing.
use mathlib.Core.Path.{ap, ◌∙◌}
use Prim.Native.Nat.{ℕ, ◌-◌, ◌*◌, ◌/◌, ◌%◌, ◌^◌}
use native.Mathlib.Omega.{arith}
use Rattle.rice.proofs.HeldBits.{window_held, held_cut}
use Rattle.rice.proofs.bits.field.Goals as goal

pub returns : goal.returns
returns c =
    let a = c.args in
    ap (λ (w : ℕ). w * 2 ^ (a.p % 8) % 2 ^ 64 / 2 ^ 1 / 2 ^ (63 - a.n)) c.word.ensures
    ∙ ap (λ (w : ℕ). w / 2 ^ 1 / 2 ^ (63 - a.n)) (window_held a.s.now a.p)
    ∙ held_cut a.s.now a.p a.n (64 - a.p % 8) (omega arith) (omega arith) (omega arith)
