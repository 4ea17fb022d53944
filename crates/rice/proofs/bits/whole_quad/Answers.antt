-- `rice::bits::whole_quad`: four bytes are the 32 bits of the field. Assumes nothing.
use mathlib.Core.Path.{sym, ◌∙◌}
use Rattle.rice.proofs.Fields.{field_quad}
use Rattle.rice.proofs.bits.whole_quad.Goals as goal

pub returns : goal.returns
returns c =
    let a = c.args in
    c.quad.ensures ∙ sym (field_quad a.s.now a.i (λ k. (c.shared_slice_known-5-1.given k).fits))
