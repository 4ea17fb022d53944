-- `printing::refused_part` meets its contract: the buffer has room for any line without a text.
use native.Mathlib.Omega.{arith}
use Rattle.printing.proofs.Fitting.{written-line}
use Rattle.printing.proofs.refused_part.Goals as goal

pub returns : goal.returns
returns c =
    let put = c.refused_line.ensures in
    written-line c.refused_line.result c.length_of.result _ c.args.line.now _ c.length_of.ensures put.out_after
    (omega (arith, put.card_len_bound, c.requires))
