-- `rice::width::Scale::store_four`: four stores, one behind the other. Assumes nothing.
use Rattle.rice.proofs.Filling.{onward_four}
use Rattle.rice.proofs.width.Scale.store_four.Goals as goal

pub returns-clause-by_index : goal.returns-clause-by_index
returns-clause-by_index c =
    let f = c.args.four in
    λ s fs r. onward_four c.args.start c.requires.at_hand.1 r
    (c.store-p.ensures.upper_bound, c.store-p.ensures.part_after)
    (c.store-q.ensures.upper_bound, c.store-q.ensures.part_after)
    (c.store-r.ensures.upper_bound, c.store-r.ensures.part_after)
    (c.store-level.ensures.upper_bound, c.store-level.ensures.part_after)
