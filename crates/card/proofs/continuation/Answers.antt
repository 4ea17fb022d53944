-- `card::continuation` meets its contract: by how the text splits, and by whether its string is read.
use Rattle.std.proofs.Common.{◌≡◌, ℕ, List, drop, sym, ap, ◌∙◌}
use Rattle.std.proofs.lemmas.Result.{err_from_is_err_and}
use Rattle.std.specs.Prelude.{Ok, Err, Result}
use Rattle.refusal.specs.declared.Fault.{Fault}
use Rattle.refusal.specs.Numbers.{answer_placed}
use Rattle.splitting.specs.declared.Halves.{Halves}
use Rattle.splitting.specs.declared.SplitRead.{SplitRead}
use Rattle.splitting.specs.Split.{split_of}
use Rattle.splitting.specs.Columns.{split_from, string_from}
use Rattle.splitting.proofs.Refusing.{split_in_text}
use Rattle.text.specs.declared.Text.{Text}
use Rattle.text.specs.Text.{bytes_of}
use Rattle.card.specs.Columns.{column_in}
use Rattle.card.specs.Cards.{string_card, continuation_of}
use Rattle.card.proofs.Placing.{continued_at, continued_in}
use Rattle.card.proofs.continuation.Goals as goal

-- what is made of the split is the card
by : (name : Text) (card : List ℕ) (r : SplitRead) {a : Result Halves Fault} → r ≡ split_from 8 (drop 8 card) → r.halves ≡ a
    → continued_at r.first a name ≡ answer_placed (column_in 8 card) (continuation_of name card)
unfolding continuation_of
by name card r e is =
    ap (λ (x : Result Halves Fault). continued_at r.first x name) (sym is)
    ∙ ap (λ (x : SplitRead). continued_at x.first x.halves name) e
    ∙ continued_in card name (split_of (drop 8 card)) (split_in_text (drop 8 card))

-- and what is made of its string, as it was read
string : (name : Text) (first : ℕ) (h : Halves) {q r : Result Text Fault} → r ≡ string_from first (bytes_of h.value) → r ≡ q
    → string_card q name h.comment ≡ continued_at first (Ok h) name
string name first h e is = ap (λ (x : Result Text Fault). string_card x name h.comment) (sym is ∙ e)

pub returns-in_err-text-in-Ok : goal.returns-in_err-text-in-Ok
returns-in_err-text-in-Ok c =
    let a = c.args in
    let r = c.split-split.result in
    let p = err_from_is_err_and c.from_residual.result c.from_residual.ensures.1 in
    p.1
    ∙ ap Err p.2
    ∙ string a.name.now r.first c.in-Ok.halves c.parse_string.ensures c.in_err-text-in-Ok.was
    ∙ by a.name.now a.card.now r c.split-split.ensures c.in-Ok.is

pub returns-in_ok-text-in-Ok : goal.returns-in_ok-text-in-Ok
returns-in_ok-text-in-Ok c =
    let a = c.args in
    let r = c.split-split.result in
    string a.name.now r.first c.in-Ok.halves c.parse_string.ensures c.in_ok-text-in-Ok.was
    ∙ by a.name.now a.card.now r c.split-split.ensures c.in-Ok.is

pub returns-in-Err : goal.returns-in-Err
returns-in-Err c =
    let a = c.args in
    by a.name.now a.card.now c.split-split.result c.split-split.ensures c.in-Err.is
