-- `rice::bits::zeros`: the run is the k zeros passed and the run of the word held there. Assumes nothing.
use mathlib.Core.Path.{refl, ◌∙◌}
use native.Mathlib.Omega.{arith}
use Rattle.rice.specs.Tile.{zeros_at}
use Rattle.rice.proofs.ZeroRuns.{zeros_all, zeros_end, zeros_pass}
use Rattle.rice.proofs.HeldBits.{zeros_in_word}
use Rattle.rice.proofs.bits.zeros.Goals as goal

pub loop-k-init : goal.loop-k-init
unfolding zeros_at
loop-k-init c = record { few = omega arith; zeros = refl }

pub returns-then-z-held : goal.returns-then-z-held
returns-then-z-held c =
    let run = zeros_in_word _ _ _ c.word.ensures in
    c.min.ensures ∙ zeros_end _ _ _ _ _ _ c.loop-k.invariant c.loop-k-test.true run c.if-z-held.true

pub loop-k-preserved : goal.loop-k-preserved
loop-k-preserved c =
    let run = zeros_in_word _ _ _ c.word.ensures in
    zeros_pass _ _ _ _ _ _ c.loop-k.invariant c.loop-k-test.true run (omega arith) c.if-z-held.false

pub returns : goal.returns
returns c =
    let i = c.loop-k.invariant in
    omega (arith, zeros_all c.args.s.now c.args.p c.args.n c.loop-k.k (omega (arith, i.zeros, c.loop-k-test.false)))
