use Prim.Native.Nat.{ℕ, ◌+◌, ◌*◌, ◌≤◌}
use mathlib.Core.Path.{◌≡◌}
use mathlib.Core.List.{List}
use lib.ListN.{length, drop}
use lib.Seq.{sets}
use Rattle.escaping.specs.Escaping.{escaped}
use Rattle.escaping.proofs.escape.Given as goal

-- the bytes up to the one at hand are put, and putting the rest of the part gives the whole
pub record Putting (part start out : List ℕ) (put i : ℕ) : Type 0 where
  pub few : put ≤ 4 * i
  pub same : length out ≡ length start
  pub room : 4 * length part ≤ length start
  pub content : sets out put (escaped (drop i part)) ≡ sets start 0 (escaped part)
  pub count : put + length (escaped (drop i part)) ≡ length (escaped part)

abbrev pub invariant-loop-b : goal.invariant-loop-b
invariant-loop-b l = Putting l.part l.fn.out l.out l.put l.b-index
