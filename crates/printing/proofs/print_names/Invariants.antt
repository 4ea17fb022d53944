-- The buffers stay as wide as they are made, and the first k lines are printed.
use Rattle.std.proofs.Common.{◌≡◌, ◌*◌, ◌≤◌, length, take, map}
use Rattle.output.specs.Shown.{printed_line}
use Rattle.printing.specs.Output.{name_lines, in_order}
use Rattle.printing.proofs.print_names.Given as goal

abbrev pub invariant-loop-k : goal.invariant-loop-k
invariant-loop-k g l =
    record {
      text-long : length l.text ≡ 51200;
      line-long : length l.line ≡ 52640;
      bytes : l.printed ≡ length (in_order (take l.k (map (printed_line l.escaped) (name_lines l.header))));
      small : l.printed ≤ 210561 * l.k;
    }
