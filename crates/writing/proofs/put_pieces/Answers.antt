use native.Mathlib.Omega.{arith}
use Prim.Native.Nat.{ℕ, ◌+◌, ◌-◌, ◌≤◌}
use mathlib.Core.Path.{◌≡◌, sym, subst}
use mathlib.Core.List.{List}
use lib.ListN.{length}
use Rattle.std.proofs.Common.{rules}
use Rattle.writing.specs.Pieces.{comment_lent, pieces_of}
use Rattle.writing.proofs.Counting.{opened, more_over, one-fits, pieces_some, rest_is}
use Rattle.writing.proofs.Bodies.{Going, goes_on, went}
use Rattle.writing.proofs.put_pieces.Goals as goal

pub loop-preserved : goal.loop-preserved
loop-preserved c =
    let o = comment_lent c.args.comment in
    let rest = c.loop.rest.now in
    let over = more_over o c.requires.0 rest (omega (arith, c.loop.invariant.count)) in
    let same : length c.put_open-taken.new.block ≡ length c.loop.block = search rules in
    subst
    (λ (l : List ℕ).
    Going c.args.s.now o c.args.block.now c.put_open-taken.new.block l (c.loop.at + 80) (c.args.n + 1 - (c.loop.counter + 1)))
    (sym (rest_is rest c.put_open-taken.ensures.value))
    (goes_on
    c.loop.invariant
    (omega arith)
    (omega arith)
    (opened o c.requires.0 rest over)
    same
    c.put_open-taken.ensures.block_after)

pub put_last-requires : goal.put_last-requires
put_last-requires c =
    let o = comment_lent c.args.comment in
    let rest = c.loop.rest.now in
    let few : length (pieces_of rest o) ≤ 1 = omega (arith, c.loop.invariant.count) in
    (one-fits o c.requires.0 rest few, omega (arith, pieces_some o c.requires.0 rest, c.loop.invariant))

pub returns : goal.returns
returns c = went c.loop.invariant c.requires.0 (omega arith) c.put_last.ensures
