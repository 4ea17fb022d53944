-- `rice::width::unmap`: an even and an odd u, each as the definition has it. Assumes nothing.
use Rattle.rice.proofs.Wrapping.{unmapped_even, unmapped_odd}
use Rattle.rice.proofs.width.unmap.Goals as goal

pub returns-then-u-eq0 : goal.returns-then-u-eq0
returns-then-u-eq0 c = unmapped_even _ c.if-u-eq0.true c.requires

pub returns-else-u-eq0 : goal.returns-else-u-eq0
returns-else-u-eq0 c = unmapped_odd _ c.if-u-eq0.false c.requires
