-- `rice::ahead::Ahead::held_one`: one way for each code. Assumes nothing.
use mathlib.Core.Path.{ap}
use Rattle.rice.specs.Reads.{diff_read}
use Rattle.rice.specs.declared.width.Code.{Code}
use Rattle.rice.proofs.ahead.Ahead.held_one.Goals as goal

pub returns-in-Same : goal.returns-in-Same
unfolding diff_read
returns-in-Same c =
    λ s H. (ap (λ (d : Code). diff_read d s c.args.self.bit) c.in-Same.is, H)
