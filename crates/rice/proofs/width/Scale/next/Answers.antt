-- `rice::width::Scale::next`: the sum of residues is the wrapped sum of the integers. Assumes nothing.
use mathlib.Core.Path.{ap, ◌∙◌}
use Prim.Native.Nat.{ℕ, ◌+◌, ◌%◌, ◌^◌, ◌<◌}
use native.Mathlib.Omega.{arith}
use lib.Pow.{pow_pos}
use Rattle.rice.specs.Widths.{bits_of}
use Rattle.rice.specs.Filling.{raised}
use Rattle.rice.proofs.Moduli.{modulo_lt}
use Rattle.rice.proofs.Wrapping.{and_width, and_width_lt, sizes, raised-following}
use Rattle.rice.proofs.width.Scale.next.Goals as goal

pub overflow_add-result : goal.overflow_add-result
overflow_add-result c =
    let few : c.unmap.result < 2 ^ 32 = rw c.unmap.ensures (modulo_lt _ (2 ^ 32) (pow_pos 32)) in
    omega (arith, (sizes c.args.self.width).all)

pub returns : goal.returns
returns c =
    let a = c.args in
    let w = a.self.width in (
      and_width_lt w (a.level + c.unmap.result) _ a.self.masked,
      ap (raised w)
          (and_width w (a.level + c.unmap.result) _ a.self.masked
          ∙ ap (λ (n : ℕ). (a.level + n) % 2 ^ bits_of w) c.unmap.ensures)
          ∙ raised-following w a.level a.u c.requires.0,
    )
