use borrow.Author.Rules.{rules}
use Rattle.text.specs.Text.{filled}
use Rattle.text.proofs.empty_text.Goals as goal

pub returns : goal.returns
unfolding filled
returns c = search rules
