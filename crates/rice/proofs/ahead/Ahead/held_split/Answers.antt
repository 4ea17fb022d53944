-- `rice::ahead::Ahead::held_split`: where the code word ends among the bits held, it is cut out of them. Assumes nothing.
use mathlib.Core.Path.{refl}
use lib.Count.{count_leading_zeros}
use Rattle.rice.proofs.Giving.{split_gives}
use Rattle.rice.proofs.ahead.Ahead.held_split.Goals as goal

pub returns-then-used-self : goal.returns-then-used-self
returns-then-used-self c =
    let a = c.args in
    λ s H. split_gives s a.self H (count_leading_zeros 64 a.self.held) a.fs c.requires refl c.if-used-self.true _ c.past.ensures
