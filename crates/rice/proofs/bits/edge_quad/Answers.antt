-- `rice::bits::edge_quad`: four bytes, those past the end 0, are the 32 bits of the field. Assumes nothing.
use Rattle.rice.proofs.Fields.{field_quad}
use Rattle.rice.proofs.bits.edge_quad.Goals as goal

pub returns : goal.returns
returns c =
    let a = c.args in
    cc (field_quad a.s.now a.i (λ k. (c.shared_slice_known-1.given k).fits))
