-- `card::extension` meets its contract: by how the text splits.
use Rattle.std.proofs.Common.{◌≡◌, ℕ, List, drop, sym, ap, ◌∙◌}
use Rattle.std.specs.Prelude.{Result}
use Rattle.refusal.specs.declared.Fault.{Fault}
use Rattle.refusal.specs.Numbers.{answer_placed}
use Rattle.splitting.specs.declared.Halves.{Halves}
use Rattle.splitting.specs.declared.SplitRead.{SplitRead}
use Rattle.splitting.specs.Split.{split_of}
use Rattle.splitting.specs.Columns.{split_from}
use Rattle.splitting.proofs.Refusing.{split_in_text}
use Rattle.text.specs.declared.Text.{Text}
use Rattle.card.specs.Columns.{column_in}
use Rattle.card.specs.Cards.{extension_of}
use Rattle.card.proofs.Placing.{extended_at, extended_in}
use Rattle.card.proofs.extension.Goals as goal

-- what is made of the split is the card
by : (name : Text) (card : List ℕ) (r : SplitRead) {a : Result Halves Fault} → r ≡ split_from 10 (drop 10 card) → r.halves ≡ a
    → extended_at r.first a name ≡ answer_placed (column_in 10 card) (extension_of name card)
unfolding extension_of
by name card r e is =
    ap (λ (x : Result Halves Fault). extended_at r.first x name) (sym is)
    ∙ ap (λ (x : SplitRead). extended_at x.first x.halves name) e
    ∙ extended_in card name (split_of (drop 10 card)) (split_in_text (drop 10 card))

pub returns-in-Ok : goal.returns-in-Ok
returns-in-Ok c =
    let a = c.args in
    c.quoted_card.ensures ∙ by a.name.now a.card.now c.split-split.result c.split-split.ensures c.in-Ok.is

pub returns-in-Err : goal.returns-in-Err
returns-in-Err c =
    let a = c.args in
    by a.name.now a.card.now c.split-split.result c.split-split.ensures c.in-Err.is
