-- `card::find_high` meets its contract: a printable byte is not high, and otherwise the first high byte is the library's.
use mathlib.Core.Path.{sym, ◌∙◌}
use borrow.Author.Rules.{rules}
use borrow.Author.Tests.{tests}
use lib.Dec.{leb}
use Rattle.std.proofs.lemmas.Iterator.{YieldsList-from_slice}
use Rattle.std.proofs.lemmas.Iterator.Search.{position_from_yields_List}
use Rattle.card.specs.Keywords.{first_high}
use Rattle.card.proofs.Highs.{printable_low, high_place}
use Rattle.card.proofs.find_high.Goals as goal

pub returns-then-are_printable : goal.returns-then-are_printable
returns-then-are_printable c = printable_low c.args.s.now 0 (sym c.are_printable.ensures ∙ c.if-are_printable.true)

pub returns : goal.returns
returns c =
    position_from_yields_List (λ b. leb first_high b) _ _ _ c.position.ensures.ran (YieldsList-from_slice c.args.s.now cc)
    (λ x r q k. search (rules, tests))
    ∙ high_place c.args.s.now
