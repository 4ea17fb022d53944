use native.Mathlib.Omega.{arith}
use Prim.Native.Nat.{ℕ, ◌+◌}
use mathlib.Core.Path.{sym, ap, subst}
use mathlib.Core.List.{List}
use lib.ListN.{length, length-drop}
use Rattle.writing.specs.Pieces.{comment_lent}
use Rattle.writing.proofs.Counting.{Counted, counts_on, counted, opened_over, fits_under, rest_is}
use Rattle.writing.proofs.count_pieces.Goals as goal

pub loop-rest-smaller : goal.loop-rest-smaller
loop-rest-smaller c =
    let o = comment_lent c.args.comment in
    let rest = c.loop-rest.rest.now in
    let more = opened_over o c.requires rest c.tail_length-room.ensures c.exceeds.ensures c.loop-rest-test.true in
    omega (arith, more, ap length (rest_is rest c.fitting_length.ensures), length-drop c.fitting_length.result rest)

pub loop-rest-preserved : goal.loop-rest-preserved
loop-rest-preserved c =
    let o = comment_lent c.args.comment in
    let rest = c.loop-rest.rest.now in
    let more = opened_over o c.requires rest c.tail_length-room.ensures c.exceeds.ensures c.loop-rest-test.true in
    subst
    (λ (l : List ℕ). Counted o c.args.s.now l (c.loop-rest.n + 1))
    (sym (rest_is rest c.fitting_length.ensures))
    (counts_on o c.requires c.loop-rest.invariant more)

pub returns : goal.returns
returns c =
    let o = comment_lent c.args.comment in
    let rest = c.loop-rest.rest.now in
    counted o c.requires c.loop-rest.invariant
    (fits_under o c.requires rest c.tail_length-room.ensures c.exceeds.ensures c.loop-rest-test.false)
