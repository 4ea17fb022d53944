-- `entries::entry_value` meets its contract: by what the card is, and by whether its text is open.
use Rattle.std.proofs.Common.{ℕ, List, sym, ap, ◌∙◌, [], cond}
use Rattle.text.specs.Text.{bytes_of}
use Rattle.roles.specs.Roles.{has_digits}
use Rattle.roles.proofs.Counting.{card-here}
use Rattle.finding.specs.declared.Stop.{Stop}
use Rattle.entries.specs.declared.NoEntry.TheVariants as N
use Rattle.entries.specs.declared.ValueHalf.{ValueHalf}
use Rattle.entries.specs.Halves.{Sought, value_left, no_value, value_laid, value_in}
use Rattle.entries.proofs.Numbered.{numbered-refused, numbered-none, numbered_shut, numbered_open, open_at, begins}
use Rattle.entries.proofs.Texts.{stopped-value, missing-value, own_laid}
use Rattle.entries.proofs.entry_value.Goals as goal

pub returns-in-Err : goal.returns-in-Err
returns-in-Err c =
    let a = c.args in
    let is = sym c.in-Err.is ∙ c.card_at.ensures ∙ card-here _ _ c.requires.0 in
    ap (λ (v : ValueHalf). value_left v a.text.now) (c.no_value.ensures ∙ ap (λ (s : Stop). no_value (N.Header s) 0) c.stop_at.ensures)
    ∙ stopped-value _ a.text.now
    ∙ ap (λ (x : Sought). value_in x a.text.now) (sym (numbered-refused a.header.now a.i c.requires.0 c.in-Err.fault is))

pub returns-in_default : goal.returns-in_default
returns-in_default c =
    let a = c.args in
    let is = sym c.in-Ok.is ∙ c.card_at.ensures ∙ card-here _ _ c.requires.0 in
    ap (λ (v : ValueHalf). value_left v a.text.now) c.value_missing.ensures
    ∙ missing-value a.text.now
    ∙ ap (λ (x : Sought). value_in x a.text.now)
    (sym (numbered-none a.header.now a.i c.requires.0 c.in-Ok.part is c.role_of.result c.role_of.ensures c.in_default.not-Entry))

pub invariant_of-string : goal.invariant_of-string
invariant_of-string c =
    let a = c.args in
    let p = c.in-Ok.part in
    let is = sym c.in-Ok.is ∙ c.card_at.ensures ∙ card-here _ _ c.requires.0 in
    let told = sym c.in-Entry.is ∙ c.role_of.ensures in
    let joined = sym c.is_open.ensures ∙ c.if-is_open.true in
    record {
      opened = open_at a.header.now a.i c.requires.0 p is c.in-Entry.value c.in-Entry.joins told joined c.requires.1;
      begins = begins a.header.now a.i c.requires.0 p is c.in-Entry.value c.in-Entry.joins told joined;
    }

pub returns-then-is_open : goal.returns-then-is_open
returns-then-is_open c =
    let a = c.args in
    let is = sym c.in-Ok.is ∙ c.card_at.ensures ∙ card-here _ _ c.requires.0 in
    c.joined_value.ensures
    ∙ ap (λ (x : Sought). value_in x a.text.now)
    (sym (numbered_open a.header.now a.i c.requires.0 c.in-Ok.part is c.in-Entry.value c.in-Entry.joins
    (sym c.in-Entry.is ∙ c.role_of.ensures) (sym c.is_open.ensures ∙ c.if-is_open.true)))

pub returns-else-is_open : goal.returns-else-is_open
returns-else-is_open c =
    let a = c.args in
    let p = c.in-Ok.part in
    let v = c.in-Entry.value in
    let is = sym c.in-Ok.is ∙ c.card_at.ensures ∙ card-here _ _ c.requires.0 in
    c.lay_value.ensures
    ∙ ap (λ (t : List ℕ). value_laid v (cond (has_digits v) (bytes_of p.text) []) t a.text.now) c.own_text.ensures
    ∙ own_laid v c.in-Entry.joins p a.text.now
    ∙ ap (λ (x : Sought). value_in x a.text.now)
    (sym (numbered_shut a.header.now a.i c.requires.0 p is v c.in-Entry.joins
    (sym c.in-Entry.is ∙ c.role_of.ensures) (sym c.is_open.ensures ∙ c.if-is_open.false)))
