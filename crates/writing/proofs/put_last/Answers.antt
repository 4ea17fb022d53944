use Prim.Native.Nat.{ℕ, ◌-◌}
use native.Mathlib.Omega.{arith}
use mathlib.Core.Path.{sym, ap, ◌∙◌}
use mathlib.Core.List.{List}
use lib.ListN.{length}
use lib.Seq.{sets}
use borrow.Author.Tests.{leb-true}
use Rattle.text.specs.Bytes.{ascii}
use Rattle.writing.specs.Pieces.{last_piece, piece_text, comment_lent}
use Rattle.writing.specs.Passes.{body_of, closed_by}
use Rattle.writing.proofs.Cutting.{fits_whole}
use Rattle.writing.proofs.Counting.{last-text, last-length}
use Rattle.writing.proofs.put_last.Goals as goal

pub returns : goal.returns
returns c =
    let a = c.args in
    let s = a.s.now in
    let o = comment_lent a.comment in
    let room = leb-true (length (piece_text (last_piece s o))) 70 c.requires.0 in
    let whole = fits_whole (68 - c.tail_length-room.result) s (omega (arith, last-length s o, room)) in
    c.put_piece.ensures.block_after
    ∙ ap (λ (l : List ℕ). sets a.block.now a.at (body_of (closed_by (ascii "'") l o))) whole
    ∙ ap (λ (l : List ℕ). sets a.block.now a.at (body_of l)) (sym (last-text s o))
