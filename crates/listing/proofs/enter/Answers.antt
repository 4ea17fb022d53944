-- `listing::enter` meets its contract: halving tells the place that has the name's key, or where a new place stands in the order.
use Rattle.std.proofs.Common.{◌≡◌, ◌*◌, ℕ, List, sym, ap, ◌∙◌, arith}
use lib.Seq.{sets}
use Rattle.listing.specs.Keys.{words_of_key, key_of, Ready}
use Rattle.listing.proofs.Entering.{behind, enter_again, enter_new}
use Rattle.listing.proofs.enter.Goals.{then-at-count+else-not-row_before, else-at-count}
use Rattle.listing.proofs.enter.Goals as goal

-- the key of the name is stored behind the places
stored : {count : ℕ} {first last times keys order : List ℕ} → Ready count first last times keys order → {keys₁ s name : List ℕ}
    → keys₁ ≡ sets keys (count * words_of_key) (key_of s) → s ≡ name → keys₁ ≡ sets keys (count * words_of_key) (key_of name)
stored {count} {keys = keys} R e is = e ∙ ap (λ (l : List ℕ). sets keys (count * words_of_key) (key_of l)) is

pub count_before-at-requires-clause-ordered : goal.count_before-at-requires-clause-ordered
count_before-at-requires-clause-ordered c =
    behind c.requires _ c.args.i (stored c.requires c.put_key.ensures c.as_slice.ensures.bytes)

pub returns-then-not-row_before : goal.returns-then-not-row_before
returns-then-not-row_before c =
    let S = stored c.requires c.put_key.ensures c.as_slice.ensures.bytes in
    enter_again c.requires _ c.args.i S c.count_before-at.ensures c.if-at-count.true
    (sym c.row_before.ensures ∙ c.if-not-row_before.true)

pub returns : goal.returns
returns c =
    let S = stored c.requires c.put_key.ensures c.as_slice.ensures.bytes in
    enter_new c.requires _ c.args.i S c.count_before-at.ensures
    (λ h. elim c.if-at-count.branch [
      | then-at-count+else-not-row_before w ↦ sym w.row_before.ensures ∙ w.if-not-row_before.false
      | else-at-count w ↦ absurd (omega (arith, w.if-at-count.false))
    ])
    c.put_between.ensures
