use Rattle.std.proofs.Common.{arith}
use Prim.Native.Nat.{ℕ, ◌+◌}
use mathlib.Core.Path.{ap}
use lib.ListN.{length}
use borrow.Author.Tests.{leb-true}
use Rattle.writing.specs.Pieces.{comment_lent}
use Rattle.writing.specs.Written.{plain_text}
use Rattle.writing.proofs.Plain.{plain_length, number_put}
use Rattle.writing.proofs.put_number.Goals as goal

pub put_tail-requires : goal.put_tail-requires
put_tail-requires c =
    let t = c.args.t.now in
    let o = comment_lent c.args.comment in
    let fit = leb-true (length (plain_text t o)) 70 c.requires.0 in
    (omega (arith, plain_length t o, fit), omega arith)

pub returns : goal.returns
returns c =
    let a = c.args in
    let place = ap (λ (n : ℕ). 10 + n) c.margin-start.ensures in
    number_put a.block.now a.t.now (comment_lent a.comment) place c.put_spaces.ensures c.put_at.ensures c.put_tail.ensures
