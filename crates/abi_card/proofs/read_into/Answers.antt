-- `abi_card::read_into` meets its contract: a slice of another length is answered at once; otherwise the card is read and written.
use Rattle.std.specs.Prelude.{ℕ, ℤ, List, Result, Ok, Err, true, false, ◌≡◌}
use mathlib.Core.Path.{sym, ap, ◌∙◌}
use mir.Syntax.{w64}
use mir.Val.{to_z, of_z}
use Rattle.refusal.specs.declared.Fault.{Fault}
use Rattle.std.specs.Array.{IsWholeChunk}
use Rattle.card.specs.declared.CardRead.{CardRead}
use Rattle.card.specs.Cards.{card_of}
use Rattle.abi_value.specs.declared.Told.{Told}
use Rattle.abi_value.specs.Telling.{wrong_length}
use Rattle.abi_card.specs.Records.{CardOutcome, card_outcome, recorded_as, is_card_fit, card_into}
use Rattle.abi_card.proofs.Fitting.{wrong_card, wrong_record, fit}
use borrow.Author.Rules.{rules}
use Rattle.abi_card.proofs.read_into.Goals as goal

-- what is left, by whether the lengths are those asked for
module _ (card out : List ℕ) (number : ℤ) (column : ℕ) where
  wrong : is_card_fit card out ≡ false → card_outcome wrong_length out number column ≡ card_into card out number column
  wrong e = rw e

  right : {o : CardOutcome} (read : Result CardRead Fault) → is_card_fit card out ≡ true → card_of card ≡ read
      → o ≡ recorded_as read out number column → o ≡ card_into card out number column
  right read e same f = f ∙ ap (λ (r : Result CardRead Fault). recorded_as r out number column) (sym same) ∙ rw e

-- the card that is read is the one that was lent
module _ {card whole : List ℕ} (w : IsWholeChunk card whole 80) {read known : Result CardRead Fault} where
  same_card : read ≡ card_of whole → read ≡ known → card_of card ≡ known
  same_card f is = sym (f ∙ ap card_of w.same) ∙ is

pub returns-in_default : goal.returns-in_default
returns-in_default c =
    let a = c.args in
    wrong a.card.now a.out.now a.number.now a.column.now
    (wrong_card a.card.now a.out.now (rw c.in_default.is at c.as_array.ensures.cases))

pub returns-then-out-ne-RECORD : goal.returns-then-out-ne-RECORD
returns-then-out-ne-RECORD c =
    let a = c.args in
    let whole : IsWholeChunk a.card.now c.in-Some.card.now 80 = rw c.in-Some.is at c.as_array.ensures.cases in
    wrong a.card.now a.out.now a.number.now a.column.now
    (wrong_record a.card.now a.out.now whole.long c.if-out-ne-RECORD.true)

pub returns-in-Ok : goal.returns-in-Ok
returns-in-Ok c =
    let a = c.args in
    let whole : IsWholeChunk a.card.now c.in-Some.card.now 80 = rw c.in-Some.is at c.as_array.ensures.cases in
    let z = c.card_told.result.number in
    let fits : to_z w64 (of_z w64 z) ≡ z = search rules in
    let stored = fits ∙ ap (λ (t : Told). t.number) c.card_told.ensures in
    right a.card.now a.out.now a.number.now a.column.now (Ok c.in-Ok.read)
    (fit a.card.now a.out.now whole.long c.if-out-ne-RECORD.false)
    (same_card whole c.read_card-answer.ensures c.in-Ok.is)
    (λ j. card_outcome 0 (c.write_record.ensures j) (stored j) a.column.now)

pub returns-in-Err : goal.returns-in-Err
returns-in-Err c =
    let a = c.args in
    let whole : IsWholeChunk a.card.now c.in-Some.card.now 80 = rw c.in-Some.is at c.as_array.ensures.cases in
    right a.card.now a.out.now a.number.now a.column.now (Err c.in-Err.fault)
    (fit a.card.now a.out.now whole.long c.if-out-ne-RECORD.false)
    (same_card whole c.read_card-answer.ensures c.in-Err.is)
    (λ j. card_outcome (c.number.ensures j) a.out.now a.number.now (c.column_after.ensures j))
