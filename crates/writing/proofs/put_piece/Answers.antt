use Prim.Native.Nat.{ℕ, ◌+◌}
use native.Mathlib.Omega.{arith}
use mathlib.Core.Path.{ap, ◌∙◌}
use mathlib.Core.List.{List}
use lib.ListN.{length, take}
use lib.Seq.{sets}
use Rattle.writing.specs.Pieces.{doubled, fitting, comment_lent}
use Rattle.writing.proofs.Cutting.{take-fitting, fitting-bytes}
use Rattle.writing.proofs.Placing.{piece_put}
use Rattle.writing.proofs.put_piece.Goals as goal

pub put_doubled-end-requires : goal.put_doubled-end-requires
put_doubled-end-requires c =
    let s = c.args.s.now in
    let part = c.first_of.ensures ∙ ap (λ (n : ℕ). take n s) c.fitting_length-taken.ensures ∙ take-fitting c.args.room s in
    omega (arith, ap (λ (l : List ℕ). length (doubled l)) part, fitting-bytes c.args.room s)

pub overflow_add-end : goal.overflow_add-end
overflow_add-end c =
    let s = c.args.s.now in
    let part = c.first_of.ensures ∙ ap (λ (n : ℕ). take n s) c.fitting_length-taken.ensures ∙ take-fitting c.args.room s in
    record {
      fits = omega (
        arith,
        c.put_doubled-end.ensures.value,
        ap (λ (l : List ℕ). length (doubled l)) part,
        fitting-bytes c.args.room s,
      );
    }

pub put_tail-requires : goal.put_tail-requires
put_tail-requires c =
    let s = c.args.s.now in
    let part = c.first_of.ensures ∙ ap (λ (n : ℕ). take n s) c.fitting_length-taken.ensures ∙ take-fitting c.args.room s in (
      omega (
        arith,
        c.put_doubled-end.ensures.value,
        ap (λ (l : List ℕ). length (doubled l)) part,
        fitting-bytes c.args.room s,
      ),
      omega arith,
    )

pub returns-clause-block_after : goal.returns-clause-block_after
returns-clause-block_after c =
    let a = c.args in
    let s = a.s.now in
    let part = c.first_of.ensures ∙ ap (λ (n : ℕ). take n s) c.fitting_length-taken.ensures ∙ take-fitting a.room s in
    let put = c.put_doubled-end.ensures.block_after ∙ ap (λ (l : List ℕ). sets c.put_at.new.out (a.at + 1) (doubled l)) part in
    let place = c.put_doubled-end.ensures.value ∙ ap (λ (l : List ℕ). a.at + 1 + length (doubled l)) part in
    piece_put a.block.now a.at (fitting a.room s) a.close.now (comment_lent a.comment) c.put_at.ensures put place c.put_at-2.ensures
    c.put_tail.ensures
