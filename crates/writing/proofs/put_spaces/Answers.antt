use Rattle.std.proofs.Common.{arith, rules}
use Rattle.writing.proofs.Placing.{spaces-put}
use Rattle.writing.proofs.put_spaces.Goals as goal

pub returns : goal.returns
returns c = spaces-put c.args.block.now _ c.args.from c.args.end (omega arith) c.requires (c.fill.ensures.after (λ y e. search rules))
