use Rattle.listing.proofs.Placing.{Standing}
use Rattle.listing.proofs.list_over.Given as goal

abbrev pub invariant-loop-i : goal.invariant-loop-i
invariant-loop-i l = Standing l.header l.first l.last l.times l.keys l.order l.count l.i
