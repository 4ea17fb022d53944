-- `entries::next_comment` meets its contract: by what the card is.
use Rattle.std.proofs.Common.{◌≡◌, ◌-◌, ℕ, List, length, refl, sym, ap, subst, ◌∙◌, Bool, cond, rules}
use Rattle.std.specs.Prelude.{Ok}
use Rattle.text.specs.Text.{size, bytes_of}
use Rattle.text.proofs.Texts.{bytes_fit}
use Rattle.card.specs.declared.CardRead.{CardRead}
use Rattle.card.specs.Cards.{card_of}
use Rattle.roles.specs.declared.Role.{Role as Told}
use Rattle.roles.specs.declared.Role.TheVariants.{More, Neutral}
use Rattle.roles.specs.Roles.{Role, refused, comment_read, role_by, role_in}
use Rattle.roles.specs.Cards.{card_no, role_no}
use Rattle.roles.proofs.Counting.{card-here}
use Rattle.finding.specs.declared.Stop.{Stop}
use Rattle.finding.specs.Finding.{stop_at}
use Rattle.entries.specs.declared.Reach.{Reach}
use Rattle.entries.specs.declared.Reach.TheVariants.{On, Ended, Met}
use Rattle.entries.specs.declared.CommentHeld.{CommentHeld}
use Rattle.entries.specs.Passes.{ampersands, opens_by, reached_by, NextComment}
use Rattle.entries.proofs.Numbered.{role_told, role-refused}
use Rattle.entries.proofs.Remarks.{passed, refusing, ended, more-joined}
use Rattle.entries.proofs.next_comment.Goals as goal

-- what a card leaves, by its role as the code has it
left : (h : List ℕ) (j : ℕ) (held : CommentHeld) (p : CardRead) (t u : Told) → Ok p ≡ card_of (card_no h j) → t ≡ role_by p.card → t ≡ u
    → (r : CommentHeld) (comments comments₁ : List ℕ) → NextComment (role_in u p) j held r comments comments₁
    → NextComment (role_no h j) j held r comments comments₁
left h j held p t u is told e r comments comments₁ =
    subst (λ (x : Role). NextComment x j held r comments comments₁) (role_told h j p is u (sym e ∙ told))

-- where nothing is joined, by what `reached` answers
unjoined : (role : Role) (j : ℕ) (held r : CommentHeld) (reach : Reach) (comments : List ℕ) → r ≡ reached_by held reach
    → NextComment role j held (reached_by held reach) comments comments → NextComment role j held r comments comments
unjoined role j held r reach comments d n = subst (λ (x : CommentHeld). NextComment role j held x comments comments) (sym d) n

pub returns-in-Err : goal.returns-in-Err
returns-in-Err c =
    let a = c.args in
    let f = c.in-Err.fault in
    let is = sym c.in-Err.is ∙ c.card_at.ensures ∙ card-here _ _ c.requires.0 in
    subst (λ (x : Role). NextComment x a.j a.held c.reached.result a.comments.now a.comments.now) (role-refused a.header.now a.j f is)
    (unjoined (refused f) a.j a.held c.reached.result (Met (stop_at f a.j)) a.comments.now
    (c.reached.ensures ∙ ap (λ (s : Stop). reached_by a.held (Met s)) c.stop_at.ensures) (refusing a.held a.j a.comments.now f))

pub returns-in-More : goal.returns-in-More
returns-in-More c =
    let a = c.args in
    let p = c.in-Ok.part in
    let t = bytes_of p.text in
    let is = sym c.in-Ok.is ∙ c.card_at.ensures ∙ card-here _ _ c.requires.0 in
    let array : length p.text.bytes ≡ size = search rules in
    let count = c.count_ampersands-k.ensures ∙ ap (ampersands (a.held.ampersands - 1)) c.as_slice-s.ensures.bytes in
    let goes =
    c.reach_by.ensures
    ∙ ap (λ (b : Bool). cond b On Ended) (c.opens_by.ensures ∙ ap (opens_by c.count_ampersands-k.result) c.as_slice-s.ensures.bytes) in
    left a.header.now a.j a.held p c.role_of.result More is c.role_of.ensures c.in-More.is _ a.comments.now c.join_remark.new.held
    (more-joined a.held a.j t (bytes_fit p.text array) count goes (comment_read p.comment) refl refl
    c.join_remark.ensures.0 c.join_remark.ensures.1)

pub returns-in-Neutral : goal.returns-in-Neutral
returns-in-Neutral c =
    let a = c.args in
    let is = sym c.in-Ok.is ∙ c.card_at.ensures ∙ card-here _ _ c.requires.0 in
    left a.header.now a.j a.held c.in-Ok.part c.role_of.result Neutral is c.role_of.ensures c.in-Neutral.is _ a.comments.now a.comments.now
    (unjoined _ a.j a.held _ On a.comments.now c.reached-in-Neutral.ensures (passed a.held a.j a.comments.now))

pub returns-in_default : goal.returns-in_default
returns-in_default c =
    let a = c.args in
    let is = sym c.in-Ok.is ∙ c.card_at.ensures ∙ card-here _ _ c.requires.0 in
    let told = c.role_of.result in
    left a.header.now a.j a.held c.in-Ok.part told told is c.role_of.ensures refl _ a.comments.now a.comments.now
    (unjoined _ a.j a.held _ Ended a.comments.now c.reached-in_default.ensures
    (ended a.held a.j a.comments.now told c.in_default.not-More c.in_default.not-Neutral c.in-Ok.part))
