-- `card::read_card` meets its contract: by whether a byte of 128 or more is found.
use Rattle.std.proofs.Common.{◌≡◌, ℕ, List, sym, ap, ◌∙◌}
use Rattle.std.specs.Prelude.{Err, None, Option, Result, Some}
use Rattle.refusal.specs.declared.Fault.{Fault}
use Rattle.refusal.specs.declared.Refusal.TheVariants as R
use Rattle.refusal.specs.Numbers.{fault_at, answer_placed}
use Rattle.card.specs.declared.CardRead.{CardRead}
use Rattle.card.specs.Columns.{high_from, column_of}
use Rattle.card.specs.Cards.{low_of, unplaced_of, card_of}
use Rattle.card.proofs.Highs.{high_found, high_missing}
use Rattle.card.proofs.read_card.Goals as goal

high : (c : List ℕ) (i : ℕ) → high_from c 0 ≡ Some i → ◌≡◌ {A = Result CardRead Fault} (Err (fault_at R.HighByte i)) (card_of c)
unfolding card_of unplaced_of
high c i e = ap (λ (x : Option ℕ). Err (record { why = R.HighByte; column = x })) (sym e) ∙ rw (high_found c i e)

low : (c : List ℕ) → high_from c 0 ≡ None → answer_placed (column_of c) (low_of c) ≡ card_of c
unfolding card_of unplaced_of
low c e = rw (high_missing c e)

pub returns-in-Some : goal.returns-in-Some
returns-in-Some c = ap Err c.fault_at.ensures ∙ high c.args.card.now c.in-Some.i (sym c.find_high.ensures ∙ c.in-Some.is)

pub returns : goal.returns
returns c = c.low_card.ensures ∙ low c.args.card.now (sym c.find_high.ensures ∙ c.in_default.is)
