-- `card::unnamed` meets its contract: by whether there is text.
use Prim.Native.Nat.{ℕ}
use native.Mathlib.Omega.{arith}
use mathlib.Core.Path.{◌≡◌, refl, sym, ap, ap₂, ◌∙◌}
use mathlib.Core.List.{List, [], ◌∷◌}
use lib.ListN.{length}
use Rattle.text.specs.declared.Text.{Text}
use Rattle.text.specs.Text.{text_of}
use Rattle.card.specs.declared.Card.TheVariants.{Space, Comment}
use Rattle.card.specs.Cards.{card_as, remark_of, space_or, empty_of}
use Rattle.card.proofs.unnamed.Goals as goal

no_text : (t : List ℕ) → length t ≡ 0 → card_as Space (text_of []) (text_of []) ≡ space_or t
no_text [] e = refl
no_text (b ∷ t) e = absurd (omega arith)

some-text : (t : List ℕ) → (length t ≡ 0 → ⊥) → card_as Comment (text_of []) (text_of t) ≡ space_or t
some-text [] e = absurd (e refl)
some-text (b ∷ t) e = refl

pub returns-then-t-eq0 : goal.returns-then-t-eq0
unfolding empty_of
returns-then-t-eq0 c =
    let empty = c in
    let whole = empty.args.whole.now in
    c.read_as.ensures ∙ ap₂ (card_as Space) empty.empty_text-none.ensures empty.empty_text-none.ensures
    ∙ no_text (remark_of whole) (sym (ap (λ (t : Text). t.len) empty.remark_text-t.ensures) ∙ c.if-t-eq0.true)

pub returns : goal.returns
unfolding empty_of
returns c =
    let empty = c in
    let whole = empty.args.whole.now in
    c.read_as-2.ensures ∙ ap₂ (card_as Comment) empty.empty_text-none.ensures empty.remark_text-t.ensures
    ∙ some-text (remark_of whole) (λ e. c.if-t-eq0.false (ap (λ (t : Text). t.len) empty.remark_text-t.ensures ∙ e))
