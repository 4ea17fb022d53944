-- The words from q on tell what all tell.
use Rattle.std.proofs.Common.{◌≡◌, drop}
use Rattle.listing.specs.Keys.{is_before}
use Rattle.listing.proofs.is_before.Given as goal

abbrev pub invariant-loop-q : goal.invariant-loop-q
invariant-loop-q l = is_before (drop l.q l.s) (drop l.q l.t) ≡ is_before l.s l.t
