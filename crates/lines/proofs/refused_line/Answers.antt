use Prim.Native.Nat.{ℕ}
use native.Mathlib.Omega.{arith}
use mathlib.Core.Path.{ap, ◌∙◌}
use mathlib.Core.List.{List}
use lib.ListN.{length}
use Rattle.text.specs.Text.{text_of}
use Rattle.numerals.specs.Numerals.{decimal_digits}
use Rattle.lines.specs.Lines.{laid}
use Rattle.lines.proofs.Segmenting.{refused_segments}
use Rattle.lines.proofs.refused_line.Goals as goal

pub returns : goal.returns
returns c =
    let a = c.args in
    let number = c.natural_text-number.ensures ∙ ap (λ (n : ℕ). text_of (decimal_digits n)) c.number.ensures in
    let e = refused_segments a.fault a.card c.text_of-word.ensures number c.place_text-place.ensures in
    record {
      out_after = c.put_line.ensures.out_after ∙ ap (λ (l : List ℕ). laid l a.out.now) e;
      card_len_bound = omega (arith, c.put_line.ensures.line_feed_len_bound, ap length e);
    }
