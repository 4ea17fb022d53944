-- `card::remark_text` meets its contract: after the replacing only spaces are blank, so spaces may go first.
use Prim.Native.Nat.{◌≤◌}
use native.Mathlib.Omega.{arith}
use mathlib.Core.Path.{◌≡◌, sym, ap, ◌∙◌}
use mathlib.Core.List.{map}
use lib.ListN.{length, drop, length-drop}
use Rattle.text.specs.Bytes.{is_space, is_blank, shown}
use Rattle.text.specs.Trim.{trim_end}
use Rattle.text.specs.Text.{size, text_of}
use Rattle.text.proofs.Trimming.{end_shorter, end_mapped}
use Rattle.text.proofs.Texts.{whole_changed}
use Rattle.card.proofs.Classes.{blank_shown}
use Rattle.card.proofs.remark_text.Goals as goal

pub returns : goal.returns
returns c =
    let at_rest = c in
    let began = at_rest in
    let whole = began.args.whole.now in
    let rest = drop 8 whole in
    let left = c.trim_end.result.now in
    let is : left ≡ trim_end is_space rest = c.trim_end.ensures ∙ ap (trim_end is_space) at_rest.rest_of.ensures in
    let short : length left ≤ size = rw is (omega (arith, end_shorter is_space rest, length-drop 8 whole, began.requires)) in
    c.changed_text.ensures
    ∙ whole_changed shown left short
    ∙ ap text_of (ap (map shown) is ∙ sym (end_mapped is_blank is_space shown blank_shown rest))
