use Rattle.std.proofs.Common.{ap, ◌∙◌, ℕ, Bool, List, ◌++◌, length, arith}
use Rattle.text.specs.Text.{text_of, bytes_of}
use Rattle.numbers.specs.Digits.{is_empty}
use Rattle.lines.specs.Lines.{laid, times_part}
use Rattle.lines.specs.Segments.{line_head, middle_of, reading_tail}
use Rattle.lines.proofs.Parts.{both_whole, short-times}
use Rattle.lines.proofs.Segmenting.{entry_segments, empty-told, middle_few}
use Rattle.lines.proofs.entry_line.Goals as goal

pub returns : goal.returns
returns c =
    let a = c.args in
    let shown = c.as_slice-shown.ensures.bytes in
    let none₁ = c.is_empty.ensures ∙ empty-told a.text.now in
    let none₂ = c.is_empty-2.ensures ∙ empty-told c.as_slice-shown.result.now ∙ ap is_empty shown in
    let head = c.head_of-head.ensures ∙ ap (λ (t : Bool). text_of (line_head a.value t)) none₁ in
    let middle = c.middle_of.ensures ∙ ap (λ (l : List ℕ). middle_of a.value l a.text.now) shown in
    let tail = c.both_of-tail.ensures
    ∙ both_whole (reading_tail a.value c.is_empty-2.result) (times_part a.times) c.tail_of.ensures.made c.times_text.ensures
    (omega (arith, c.tail_of.ensures.short, short-times a.times (omega arith)))
    ∙ ap (λ (t : Bool). text_of (reading_tail a.value t ++ times_part a.times)) none₂ in
    let line = entry_segments (bytes_of a.name) a.value (bytes_of a.digits) a.text.now c.middle_of.result.now a.times head middle tail in
    record {
      out_after = c.put_line.ensures.out_after ∙ ap (λ (l : List ℕ). laid l a.out.now) line;
      times_len_bound = omega (
        arith,
        c.put_line.ensures.line_feed_len_bound,
        middle_few a.value c.as_slice-shown.result.now a.text.now,
        ap length c.middle_of.ensures,
        c.as_slice-shown.ensures.fits,
        ap length line,
      );
    }
