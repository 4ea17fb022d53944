-- `rice::width::Scale::split_block`: fours of pixels lead on from the start, and the others from there. Assumes nothing.
use Rattle.rice.proofs.Filling.{came_to}
use Rattle.rice.proofs.width.Scale.split_block.Goals as goal

pub returns : goal.returns
returns c = came_to c.fours-at.ensures c.if-at-part.false
