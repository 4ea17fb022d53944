use Prim.Native.Nat.{ℕ}
use native.Mathlib.Omega.{arith}
use mathlib.Core.Path.{ap, ◌∙◌}
use mathlib.Core.List.{List}
use lib.ListN.{length}
use Rattle.lines.specs.Lines.{laid}
use Rattle.lines.proofs.Segmenting.{count_segments}
use Rattle.lines.proofs.count_line.Goals as goal

pub returns : goal.returns
returns c =
    let e = count_segments c.args.n c.natural_text-count.ensures c.empty_text-none.ensures in
    record {
      out_after = c.put_line.ensures.out_after ∙ ap (λ (l : List ℕ). laid l c.args.out.now) e;
      n_len_bound = omega (arith, c.put_line.ensures.line_feed_len_bound, ap length e);
    }
