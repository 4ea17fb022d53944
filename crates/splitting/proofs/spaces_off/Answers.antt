-- `splitting::spaces_off` meets its contract: what is left after trimming fits, so it is copied whole.
use native.Mathlib.Omega.{arith}
use mathlib.Core.Path.{◌≡◌, ◌∙◌, ap}
use lib.ListN.{length, take}
use Rattle.text.specs.Bytes.{is_space}
use Rattle.text.specs.Trim.{trim}
use Rattle.text.specs.Text.{size, text_of, bytes_of}
use Rattle.text.proofs.Trimming.{shorter}
use Rattle.text.proofs.Texts.{whole-text, bytes_fit}
use borrow.Author.Rules.{rules}
use Rattle.splitting.proofs.spaces_off.Goals as goal

pub returns : goal.returns
returns c =
    let at_first = c in
    let t = at_first.args.t in
    let long : length t.bytes ≡ size = search rules in
    let cut = c.trimmed in
    let is : cut.result.now ≡ trim is_space (bytes_of t) = cut.ensures ∙ ap (trim is_space) at_first.as_slice.ensures.bytes in
    c.text_of.ensures
    ∙ ap (λ l. text_of (take size l)) is
    ∙ whole-text (trim is_space (bytes_of t)) (omega (arith, shorter is_space (bytes_of t), bytes_fit t long))
