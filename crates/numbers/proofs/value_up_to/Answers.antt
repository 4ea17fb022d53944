use mathlib.Core.Path.{◌∙◌}
use native.Mathlib.Omega.{arith}
use borrow.Author.Rules.{rules}
use borrow.Author.Tests.{tests}
use Rattle.std.proofs.lemmas.Iterator.{YieldsList-from_slice}
use Rattle.std.proofs.lemmas.Iterator.Consumers.{fold_from_yields_List}
use Rattle.numbers.proofs.Valuing.{extended, folded}
use Rattle.numbers.proofs.value_up_to.Goals as goal

pub returns : goal.returns
returns c =
    fold_from_yields_List _ (extended c.args.cap) _ _ c.fold.ensures.ran (YieldsList-from_slice c.args.s.now cc)
    (λ a x r q k. search (rules, tests))
    ∙ folded c.args.cap (omega arith) c.args.s.now
