-- `rice::ahead::Ahead::full`: a whole word is held, or nothing. Assumes nothing.
use Rattle.rice.proofs.Giving.{bare_holds}
use Rattle.rice.proofs.ahead.Ahead.full.Goals as goal

pub returns-then-tile-bit : goal.returns-then-tile-bit
returns-then-tile-bit c =
    (c.bare.ensures.place, bare_holds _ _ _ c.bare.ensures c.requires.1)
