use Rattle.writing.proofs.Placing.{name-put}
use Rattle.writing.proofs.put_name.Goals as goal

pub returns : goal.returns
returns c = name-put c.args.block.now c.args.name.now c.requires.0 c.put_at.ensures c.put_spaces.ensures c.put_at-2.ensures
