-- `rice::ahead::Ahead::held_raw`: n bits are cut out of those held. Assumes nothing.
use Rattle.rice.proofs.Giving.{raw_gives}
use Rattle.rice.proofs.ahead.Ahead.held_raw.Goals as goal

pub returns-then-n-self : goal.returns-then-n-self
returns-then-n-self c =
    λ s H. raw_gives s c.args.self H c.args.n _ c.requires c.if-n-self.true c.past.ensures
