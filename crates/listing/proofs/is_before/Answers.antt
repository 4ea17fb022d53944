-- `listing::is_before` meets its contract: the words from q on tell what all tell.
use Prim.Native.Nat.{ℕ, ◌≤◌, min}
use native.Mathlib.Omega.{arith}
use mathlib.Core.Path.{◌≡◌, refl, ◌∙◌}
use mathlib.Core.Bool.{Bool, true, false}
use mathlib.Core.List.{List}
use lib.Dec.{leb}
use borrow.Author.Tests.{leb-true, leb-false}
use lib.ListN.{length, drop}
use Rattle.listing.specs.Keys.{is_before}
use Rattle.listing.proofs.Ordering.{before-left, before_right, before_next, before_here}
use Rattle.listing.proofs.is_before.Goals as goal

pub returns-then-s-q : goal.returns-then-s-q
returns-then-s-q c =
    let s = c.args.s.now in
    let t = c.args.t.now in
    let q = c.loop-q.q in
    before_here s t q (omega (arith, c.loop-q-test.true, c.min-q-end.ensures)) (omega (arith, c.loop-q-test.true, c.min-q-end.ensures))
    c.if-s-q.true
    ∙ c.loop-q.invariant

pub loop-q-preserved : goal.loop-q-preserved
loop-q-preserved c =
    let s = c.args.s.now in
    let t = c.args.t.now in
    let q = c.loop-q.q in
    before_next s t q (omega (arith, c.loop-q-test.true, c.min-q-end.ensures)) (omega (arith, c.loop-q-test.true, c.min-q-end.ensures))
    c.if-s-q.false
    ∙ c.loop-q.invariant

-- behind the end of the shorter key none comes before
at_end : (s t : List ℕ) (q : ℕ) → min (length s) (length t) ≤ q → (b : Bool) → leb (length s) q ≡ b
    → false ≡ is_before (drop q s) (drop q t)
at_end s t q h true e = before-left s t q (leb-true (length s) q e)
at_end s t q h false e = before_right s t q (omega (arith, leb-false (length s) q e)) (omega (arith, h, leb-false (length s) q e))

pub returns : goal.returns
returns c =
    let s = c.args.s.now in
    let t = c.args.t.now in
    let q = c.loop-q.q in
    at_end s t q (omega (arith, c.loop-q-test.false, c.min-q-end.ensures)) (leb (length s) q) refl ∙ c.loop-q.invariant
