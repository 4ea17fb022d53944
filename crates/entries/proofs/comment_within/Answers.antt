-- `entries::comment_within` meets its contract: what is joined is laid, or a refused card was met.
use Rattle.std.proofs.Common.{◌≡◌, ℕ, List, sym, ap, ◌∙◌}
use Rattle.std.specs.Prelude.{Option, Some}
use Rattle.entries.specs.declared.CommentHalf.{CommentHalf}
use Rattle.entries.specs.Passes.{heard}
use Rattle.entries.specs.Halves.{comment_left, comment_laid}
use Rattle.entries.proofs.Remarks.{laid_none, string-laid, string_refused_lem}
use Rattle.entries.proofs.comment_within.Goals as goal

-- how long the comment is, as an arm knows it
told : (comments comment : List ℕ) {x y : Option ℕ} → x ≡ y
    → comment_laid (heard y comments) comment ≡ comment_laid (heard x comments) comment
told comments comment e = sym (ap (λ (z : Option ℕ). comment_laid (heard z comments) comment) e)

pub returns-in-Met : goal.returns-in-Met
returns-in-Met c =
    let comment = c.args.comment.now in
    ap (λ (v : CommentHalf). comment_left v comment) c.comment_half.ensures
    ∙ string_refused_lem c.join_comments-end.ensures comment c.in-Met.stop c.in-Met.is

pub returns-in_default-comment : goal.returns-in_default-comment
returns-in_default-comment c =
    let comment = c.args.comment.now in
    ap (λ (v : CommentHalf). comment_left v comment) c.comment_half-in_default-comment.ensures
    ∙ laid_none comment
    ∙ told c.join_comments-end.new.comments comment c.in_default-comment.is
    ∙ string-laid c.join_comments-end.ensures comment c.in_default.not-Met

pub returns : goal.returns
returns c =
    let comment = c.args.comment.now in
    c.lay_comment.ensures
    ∙ ap (λ (l : List ℕ). comment_laid (Some l) comment) c.first_of.ensures
    ∙ told c.join_comments-end.new.comments comment c.in-Some.is
    ∙ string-laid c.join_comments-end.ensures comment c.in_default.not-Met
