-- What is written of a text and what is left of it make the whole.
use Rattle.std.proofs.Common.{length, ◌≡◌, ◌+◌, ◌*◌, ◌≤◌}
use Rattle.std.specs.Slice.Iter.{chunks_rest, chunks_size}
use Rattle.escaping.specs.Escaping.{escaped}
use Rattle.output.proofs.write_visibly.Given as goal

abbrev pub invariant-loop-part : goal.invariant-loop-part
invariant-loop-part g l =
    (chunks_size l.part-iterator ≡ 256) × (l.written + 4 * length (chunks_rest l.part-iterator) ≤ 4 * length l.s) × (length l.piece ≡ 1024)
    × (l.written + length (escaped (chunks_rest l.part-iterator)) ≡ length (escaped l.s))
