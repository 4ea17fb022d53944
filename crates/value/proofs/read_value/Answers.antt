-- `value::read_value` meets its contract: by how the text splits.
use Rattle.std.proofs.Common.{◌≡◌, ◌≤◌, ℕ, List, length, drop, length-drop, sym, ap, subst, ◌∙◌, arith, rules}
use Rattle.std.specs.Prelude.{Ok, Result}
use Rattle.refusal.specs.declared.Fault.{Fault}
use Rattle.text.specs.Text.{size}
use Rattle.splitting.specs.declared.Halves.{Halves}
use Rattle.splitting.specs.declared.SplitRead.{SplitRead}
use Rattle.splitting.specs.Split.{split_of}
use Rattle.splitting.specs.Columns.{split_from, text_column}
use Rattle.splitting.proofs.Splitting.{ValueFits, placed_fits, value_fits_lem}
use Rattle.value.specs.Values.{value_of, value_from}
use Rattle.value.proofs.Placing.{parts_placed_lem, parts_placed}
use Rattle.value.proofs.read_value.Goals as goal

-- what is made of the split is the value
by : (from : ℕ) (raw : List ℕ) (r : SplitRead) {a : Result Halves Fault} → r ≡ split_from from raw → r.halves ≡ a
    → parts_placed_lem r.first a raw ≡ value_from from raw
unfolding value_of
by from raw r e is =
    ap (λ (x : Result Halves Fault). parts_placed_lem r.first x raw) (sym is)
    ∙ ap (λ (x : SplitRead). parts_placed_lem x.first x.halves raw) e
    ∙ parts_placed from raw (split_of raw)

pub value_with-requires : goal.value_with-requires
value_with-requires c =
    let a = c.args in
    let raw = drop a.from a.card.now in
    let long : length a.card.now ≡ size = search rules in
    let short : length raw ≤ size = omega (arith, length-drop a.from a.card.now) in
    let is = sym (ap (λ (r : SplitRead). r.halves) c.split-split.ensures) ∙ c.in-Ok.is in
    (subst ValueFits is (placed_fits (text_column a.from raw) (split_of raw) (value_fits_lem raw short)), rw c.rest_of-raw.ensures short)

pub returns-in-Ok : goal.returns-in-Ok
returns-in-Ok c =
    let a = c.args in
    let raw = drop a.from a.card.now in
    c.value_with.ensures
    ∙ ap (λ (l : List ℕ). parts_placed_lem c.split-split.result.first (Ok c.in-Ok.halves) l) c.rest_of-raw.ensures
    ∙ by a.from raw c.split-split.result c.split-split.ensures c.in-Ok.is

pub returns-in-Err : goal.returns-in-Err
returns-in-Err c =
    let a = c.args in
    by a.from (drop a.from a.card.now) c.split-split.result c.split-split.ensures c.in-Err.is
