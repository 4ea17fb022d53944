-- `entries::comment_of` meets its contract: by what is sought.
use Rattle.std.proofs.Common.{◌≡◌, ℕ, List, sym, ap, ◌∙◌}
use Rattle.std.specs.Prelude.{Ok, Option, Result}
use Rattle.finding.specs.declared.Stop.{Stop}
use Rattle.entries.specs.declared.CommentHalf.{CommentHalf}
use Rattle.entries.specs.Halves.{comment_left, comment_in}
use Rattle.entries.specs.Passes.{sought_at}
use Rattle.entries.proofs.Remarks.{stopped-comment, missing-comment}
use Rattle.entries.proofs.comment_of.Goals as goal

-- what is sought, as an arm knows it, is the whole
by : (h comment : List ℕ) {x y : Result (Option ℕ) Stop} → x ≡ y → comment_in (sought_at y h) comment ≡ comment_in (sought_at x h) comment
by h comment e = sym (ap (λ (z : Result (Option ℕ) Stop). comment_in (sought_at z h) comment) e)

pub returns-in-Err : goal.returns-in-Err
returns-in-Err c =
    let a = c.args in
    ap (λ (v : CommentHalf). comment_left v a.comment.now) c.comment_half.ensures
    ∙ stopped-comment c.in-Err.stop a.comment.now
    ∙ by a.header.now a.comment.now c.in-Err.is

pub returns-in-None : goal.returns-in-None
returns-in-None c =
    let a = c.args in
    ap (λ (v : CommentHalf). comment_left v a.comment.now) c.comment_missing.ensures
    ∙ missing-comment a.comment.now
    ∙ by a.header.now a.comment.now (c.in-Ok.is ∙ ap (λ (o : Option ℕ). Ok o) c.in-None.is)
