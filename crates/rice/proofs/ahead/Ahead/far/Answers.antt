-- `rice::ahead::Ahead::far`: where all differences are 0 nothing is read. Assumes nothing.
use mathlib.Core.Path.{ap}
use Rattle.rice.specs.Reads.{diff_read}
use Rattle.rice.specs.declared.width.Code.{Code}
use Rattle.rice.proofs.Giving.{bare_gives}
use Rattle.rice.proofs.ahead.Ahead.far.Goals as goal

pub returns-in-Same : goal.returns-in-Same
unfolding diff_read
returns-in-Same c =
    bare_gives _ _ c.bare.ensures (ap (λ (d : Code). diff_read d c.args.tile.now c.args.bit) c.in-Same.is) c.requires.1
