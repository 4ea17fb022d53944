-- `entries::entry_comment` meets its contract: by what the card is, and by whether its text is open.
use Rattle.std.proofs.Common.{◌≡◌, ℕ, List, Bool, sym, ap, ◌∙◌}
use Rattle.std.specs.Prelude.{Err, Option, Some}
use Rattle.text.specs.declared.Text.{Text}
use Rattle.numbers.specs.declared.Value.{Value}
use Rattle.card.specs.declared.CardRead.{CardRead}
use Rattle.roles.specs.Roles.{held_of, comment_read}
use Rattle.roles.proofs.Counting.{card-here}
use Rattle.finding.specs.declared.Stop.{Stop}
use Rattle.entries.specs.declared.NoEntry.TheVariants as N
use Rattle.entries.specs.declared.CommentHalf.{CommentHalf}
use Rattle.entries.specs.Halves.{Sought, holds, comment_left, comment_half, comment_laid, comment_in}
use Rattle.entries.proofs.Numbered.{numbered-refused, numbered-none, numbered_shut, numbered_open, open_at, begins}
use Rattle.entries.proofs.Remarks.{laid_none, stopped-comment, missing-comment, held-laid}
use Rattle.entries.proofs.entry_comment.Goals as goal

pub returns-in-Err : goal.returns-in-Err
returns-in-Err c =
    let a = c.args in
    let is = sym c.in-Err.is ∙ c.card_at.ensures ∙ card-here _ _ c.requires.0 in
    ap (λ (v : CommentHalf). comment_left v a.comment.now)
    (c.comment_half.ensures ∙ ap (λ (s : Stop). comment_half (Err (N.Header s)) 0) c.stop_at.ensures)
    ∙ stopped-comment _ a.comment.now
    ∙ ap (λ (x : Sought). comment_in x a.comment.now) (sym (numbered-refused a.header.now a.i c.requires.0 c.in-Err.fault is))

pub returns-in_default : goal.returns-in_default
returns-in_default c =
    let a = c.args in
    let is = sym c.in-Ok.is ∙ c.card_at.ensures ∙ card-here _ _ c.requires.0 in
    ap (λ (v : CommentHalf). comment_left v a.comment.now) c.comment_missing.ensures
    ∙ missing-comment a.comment.now
    ∙ ap (λ (x : Sought). comment_in x a.comment.now)
    (sym (numbered-none a.header.now a.i c.requires.0 c.in-Ok.part is c.role_of.result c.role_of.ensures c.in_default.not-Entry))

pub invariant_of-string : goal.invariant_of-string
invariant_of-string c =
    let a = c.args in
    let p = c.in-Ok.part in
    let is = sym c.in-Ok.is ∙ c.card_at.ensures ∙ card-here _ _ c.requires.0 in
    let told = sym c.in-Entry.is ∙ c.role_of.ensures in
    let joined = sym c.is_open.ensures ∙ c.if-is_open.true in
    record {
      opened = open_at a.header.now a.i c.requires.0 p is c.in-Entry.value c.in-Entry.joins told joined c.requires.1;
      begins = begins a.header.now a.i c.requires.0 p is c.in-Entry.value c.in-Entry.joins told joined;
    }

pub returns-then-is_open : goal.returns-then-is_open
returns-then-is_open c =
    let a = c.args in
    let is = sym c.in-Ok.is ∙ c.card_at.ensures ∙ card-here _ _ c.requires.0 in
    c.joined_comment.ensures
    ∙ ap (λ (x : Sought). comment_in x a.comment.now)
    (sym (numbered_open a.header.now a.i c.requires.0 c.in-Ok.part is c.in-Entry.value c.in-Entry.joins
    (sym c.in-Entry.is ∙ c.role_of.ensures) (sym c.is_open.ensures ∙ c.if-is_open.true)))

-- the comment of an entry to which nothing is joined
own : (v : Value) (joins : Bool) (p : CardRead) (comment : List ℕ) {k : Option Text} → p.comment ≡ k
    → comment_laid (comment_read k) comment ≡ comment_in (holds (held_of v joins p)) comment
own v joins p comment e = sym (ap (λ (x : Option Text). comment_laid (comment_read x) comment) e) ∙ held-laid (held_of v joins p) comment

pub returns-in_default-comment : goal.returns-in_default-comment
returns-in_default-comment c =
    let a = c.args in
    let p = c.in-Ok.part in
    let is = sym c.in-Ok.is ∙ c.card_at.ensures ∙ card-here _ _ c.requires.0 in
    ap (λ (v : CommentHalf). comment_left v a.comment.now) c.comment_half-in_default-comment.ensures
    ∙ laid_none a.comment.now
    ∙ own c.in-Entry.value c.in-Entry.joins p a.comment.now c.in_default-comment.is
    ∙ ap (λ (x : Sought). comment_in x a.comment.now)
    (sym (numbered_shut a.header.now a.i c.requires.0 p is c.in-Entry.value c.in-Entry.joins
    (sym c.in-Entry.is ∙ c.role_of.ensures) (sym c.is_open.ensures ∙ c.if-is_open.false)))

pub returns-in-Some : goal.returns-in-Some
returns-in-Some c =
    let a = c.args in
    let p = c.in-Ok.part in
    let is = sym c.in-Ok.is ∙ c.card_at.ensures ∙ card-here _ _ c.requires.0 in
    c.lay_comment.ensures
    ∙ ap (λ (l : List ℕ). comment_laid (Some l) a.comment.now) c.as_slice.ensures.bytes
    ∙ own c.in-Entry.value c.in-Entry.joins p a.comment.now c.in-Some.is
    ∙ ap (λ (x : Sought). comment_in x a.comment.now)
    (sym (numbered_shut a.header.now a.i c.requires.0 p is c.in-Entry.value c.in-Entry.joins
    (sym c.in-Entry.is ∙ c.role_of.ensures) (sym c.is_open.ensures ∙ c.if-is_open.false)))
