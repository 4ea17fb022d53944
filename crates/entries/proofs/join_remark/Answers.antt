-- `entries::join_remark` meets its contract: by whether the card has a comment.
use Rattle.std.proofs.Common.{refl, sym, ap, ◌∙◌, arith}
use Rattle.std.specs.Prelude.{Option}
use Rattle.text.specs.declared.Text.{Text}
use Rattle.roles.specs.Roles.{comment_read}
use Rattle.joining.specs.Words.{join_comment}
use Rattle.entries.specs.Passes.{heard}
use Rattle.entries.proofs.Remarks.{comment_stays}
use Rattle.entries.proofs.join_remark.Goals as goal

pub returns-in-None : goal.returns-in-None
returns-in-None c =
    let a = c.args in
    let k = heard a.before a.held.now in
    (comment_stays k ∙ sym (ap (λ (r : Option Text). join_comment k (comment_read r)) c.in-None.is), omega arith, refl)
