use Rattle.std.proofs.Common.{◌≡◌, ◌+◌, ◌≤◌, drop}
use Rattle.entries.specs.Passes.{ampersands}
use Rattle.entries.proofs.count_ampersands.Given as goal

abbrev pub invariant-loop-b : goal.invariant-loop-b
invariant-loop-b l = (ampersands l.k (drop l.b-index l.s) ≡ ampersands l.before l.s) × (l.k ≤ l.before + l.b-index)
