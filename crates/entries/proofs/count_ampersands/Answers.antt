-- `entries::count_ampersands` meets its contract: what is left is counted on from what was met.
use Rattle.std.proofs.Common.{◌≡◌, ◌+◌, ℕ, drop, ap, ◌∙◌, arith}
use lib.ListN.{get_or}
use Rattle.entries.specs.Passes.{passing, ampersands}
use Rattle.entries.proofs.Ampersands.{passing-more, passing-none, passing_space, passing-few, ampersands_step, ampersands_done}
use Rattle.entries.proofs.count_ampersands.Goals.{then-b-eq-AMPERSAND, else-b-eq-AMPERSAND+then-b-ne32, else-b-eq-AMPERSAND+else-b-ne32}
use Rattle.entries.proofs.count_ampersands.Goals as goal

pub loop-b-preserved : goal.loop-b-preserved
loop-b-preserved c =
    let s = c.args.s.now in
    let i = c.loop-b.b-index in
    let b = get_or s i 0 in
    let k = c.loop-b.k in
    let passed : c.if-b-eq-AMPERSAND.k ≡ passing k b =
    elim c.if-b-eq-AMPERSAND.branch [
      | then-b-eq-AMPERSAND w ↦ w.k-is ∙ passing-more k b w.if-b-eq-AMPERSAND.true
      | else-b-eq-AMPERSAND+then-b-ne32 w ↦ w.k-is ∙ passing-none k b w.if-b-eq-AMPERSAND.false w.if-b-ne32.true
      | else-b-eq-AMPERSAND+else-b-ne32 w ↦ w.k-is ∙ passing_space k b w.if-b-ne32.false
    ] in (
      ap (λ (m : ℕ). ampersands m (drop (i + 1) s)) passed ∙ ampersands_step k s i c.loop-b-test.true ∙ c.loop-b.invariant.0,
      omega (arith, passed, passing-few k b, c.loop-b.invariant.1),
    )

pub returns : goal.returns
returns c = ampersands_done c.loop-b.k c.args.s.now c.loop-b.b-index c.loop-b-test.false ∙ c.loop-b.invariant.0
