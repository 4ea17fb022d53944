use Prim.Native.Nat.{ℕ, ◌-◌}
use native.Mathlib.Omega.{arith}
use denote.Bor.{Bor}
use mathlib.Core.Path.{sym, ap, ◌∙◌}
use mathlib.Core.List.{List, []}
use lib.Seq.{sets}
use Rattle.std.specs.Prelude.{Option}
use Rattle.writing.specs.Pieces.{tail_of, comment_lent}
use Rattle.writing.specs.Passes.{spaced}
use Rattle.writing.proofs.Placing.{spaced-is, tail_put}
use Rattle.writing.proofs.put_tail.Goals as goal

pub returns-in_default : goal.returns-in_default
returns-in_default c =
    let a = c.args in
    c.put_spaces.ensures
    ∙ ap (sets a.block.now a.from) (spaced-is (a.end - a.from) (a.end - a.from) [] (omega arith))
    ∙ ap (λ (o : Option (Bor (List ℕ))). sets a.block.now a.from (spaced (a.end - a.from) (tail_of (comment_lent o)))) (sym c.in_default.is)

pub returns : goal.returns
returns c =
    let a = c.args in
    tail_put a.block.now a.from a.end c.in-Some.c.now c.put_at.ensures c.put_at-2.ensures c.put_spaces-2.ensures
    ∙ ap (λ (o : Option (Bor (List ℕ))). sets a.block.now a.from (spaced (a.end - a.from) (tail_of (comment_lent o)))) (sym c.in-Some.is)
