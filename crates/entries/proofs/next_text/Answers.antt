-- `entries::next_text` meets its contract: by what the card is.
use Rattle.joining.specs.Words.{join_text}
use Rattle.std.proofs.Common.{◌≡◌, ℕ, List, take, refl, sym, ap, subst, ◌∙◌, Bool, cond}
use Rattle.std.specs.Prelude.{Ok}
use Rattle.card.specs.declared.CardRead.{CardRead}
use Rattle.card.specs.Cards.{card_of}
use Rattle.roles.specs.declared.Role.{Role as Told}
use Rattle.roles.specs.declared.Role.TheVariants.{More, Neutral}
use Rattle.roles.specs.Roles.{Role, refused, role_by, role_in}
use Rattle.roles.specs.Cards.{card_no, role_no}
use Rattle.roles.proofs.Counting.{card-here}
use Rattle.finding.specs.declared.Stop.{Stop}
use Rattle.entries.specs.declared.Reach.TheVariants.{On, Ended, Met}
use Rattle.entries.specs.declared.TextHeld.{TextHeld}
use Rattle.entries.specs.Passes.{NextText}
use Rattle.entries.proofs.Numbered.{role_told, role-refused}
use Rattle.entries.proofs.Texts.{text_held, passed, refusing, ended}
use Rattle.entries.proofs.next_text.Goals as goal

-- what a card leaves, by its role as the code has it
left : (h : List ℕ) (j n : ℕ) (p : CardRead) (t u : Told) → Ok p ≡ card_of (card_no h j) → t ≡ role_by p.card → t ≡ u
    → (r : TextHeld) (texts texts₁ : List ℕ) → NextText (role_in u p) j n r texts texts₁ → NextText (role_no h j) j n r texts texts₁
left h j n p t u is told e r texts texts₁ =
    subst (λ (x : Role). NextText x j n r texts texts₁) (role_told h j p is u (sym e ∙ told))

pub returns-in-Err : goal.returns-in-Err
returns-in-Err c =
    let a = c.args in
    let f = c.in-Err.fault in
    let is = sym c.in-Err.is ∙ c.card_at.ensures ∙ card-here _ _ c.requires.0 in
    subst (λ (x : Role). NextText x a.j a.n (text_held a.n (Met c.stop_at.result)) a.texts.now a.texts.now)
    (role-refused a.header.now a.j f is)
    (subst (λ (s : Stop). NextText (refused f) a.j a.n (text_held a.n (Met s)) a.texts.now a.texts.now)
    (sym c.stop_at.ensures) (refusing a.j a.n a.texts.now f))

pub returns-in-More : goal.returns-in-More
returns-in-More c =
    let a = c.args in
    let is = sym c.in-Ok.is ∙ c.card_at.ensures ∙ card-here _ _ c.requires.0 in
    left a.header.now a.j a.n c.in-Ok.part c.role_of.result More is c.role_of.ensures c.in-More.is _ a.texts.now c.join_text-m.new.held
    record {
      text = c.join_text-m.ensures.0 ∙ ap (join_text (take a.n a.texts.now)) c.as_slice.ensures.bytes;
      reach = c.reach_by.ensures ∙ ap (λ (b : Bool). cond b On Ended) c.ends_open.ensures;
      short = c.join_text-m.ensures.1;
    }

pub returns-in-Neutral : goal.returns-in-Neutral
returns-in-Neutral c =
    let a = c.args in
    let is = sym c.in-Ok.is ∙ c.card_at.ensures ∙ card-here _ _ c.requires.0 in
    left a.header.now a.j a.n c.in-Ok.part c.role_of.result Neutral is c.role_of.ensures c.in-Neutral.is (text_held a.n On)
    a.texts.now a.texts.now (passed a.j a.n a.texts.now)

pub returns-in_default : goal.returns-in_default
returns-in_default c =
    let a = c.args in
    let is = sym c.in-Ok.is ∙ c.card_at.ensures ∙ card-here _ _ c.requires.0 in
    left a.header.now a.j a.n c.in-Ok.part c.role_of.result c.role_of.result is c.role_of.ensures refl (text_held a.n Ended)
    a.texts.now a.texts.now (ended a.j a.n a.texts.now c.role_of.result c.in_default.not-More c.in_default.not-Neutral c.in-Ok.part)
