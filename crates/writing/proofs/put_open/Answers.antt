use Prim.Native.Nat.{ℕ, ◌+◌}
use native.Mathlib.Omega.{arith}
use mathlib.Core.Path.{◌≡◌, sym, ap, ◌∙◌}
use mathlib.Core.List.{List}
use lib.ListN.{length}
use lib.Seq.{sets}
use Rattle.writing.specs.Pieces.{piece_text, open_piece}
use Rattle.writing.specs.Written.{continue_front}
use Rattle.writing.specs.Passes.{body_of}
use Rattle.writing.proofs.Counting.{open_text, open_fits}
use Rattle.writing.proofs.Bodies.{body_length}
use Rattle.writing.proofs.Placing.{sets_then}
use Rattle.writing.proofs.put_open.Goals as goal

pub returns-clause-block_after : goal.returns-clause-block_after
returns-clause-block_after c =
    let a = c.args in
    let t = piece_text (open_piece a.s.now) in
    let d = a.block.now in
    let body = c.put_piece-taken.ensures.block_after ∙ ap (λ (l : List ℕ). sets d a.at (body_of l)) (sym (open_text a.s.now)) in
    let there : a.at + 70 ≡ a.at + length (body_of t) = omega (arith, body_length t (open_fits a.s.now)) in
    sets_then d a.at (body_of t) continue_front body there c.put_at.ensures
