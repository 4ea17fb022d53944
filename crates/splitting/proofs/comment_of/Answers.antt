-- `splitting::comment_of` meets its contract: a replaced byte is no space and was none, so spaces may go before the replacing.
use Prim.Native.Nat.{◌≤◌}
use native.Mathlib.Omega.{arith}
use mathlib.Core.Path.{◌∙◌, ap, sym}
use mathlib.Core.List.{map}
use lib.ListN.{length}
use Rattle.text.specs.Bytes.{is_space, shown}
use Rattle.text.specs.Text.{size, text_of}
use Rattle.text.proofs.Trimming.{end_shorter, end_mapped, space_shown}
use Rattle.text.proofs.Texts.{whole_changed}
use Rattle.splitting.proofs.comment_of.Goals as goal

pub returns : goal.returns
returns c =
    let s = c.args.s.now in
    let left = c.trim_end.result.now in
    let short : length left ≤ size = rw c.trim_end.ensures (omega (arith, end_shorter is_space s)) in
    c.changed_text.ensures
    ∙ whole_changed shown left short
    ∙ ap text_of (ap (map shown) c.trim_end.ensures ∙ sym (end_mapped is_space is_space shown space_shown s))
