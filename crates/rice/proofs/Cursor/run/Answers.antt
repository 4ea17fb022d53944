-- `rice::Cursor::run`: all steps come to what they come to from the cursor and the pixels reached, until none is left. Assumes nothing.
use mathlib.Core.Path.{◌≡◌, ap, ◌∙◌}
use mathlib.Core.List.{List}
use Prim.Native.Nat.{ℕ, ◌+◌, ◌≤◌, ◌<◌, min}
use native.Mathlib.Omega.{arith}
use lib.IntN.{ℤ}
use Rattle.std.specs.Prelude.{Ok, Option, Result}
use Rattle.rice.specs.Easy.{Reaches}
use Rattle.rice.specs.declared.Broken.{Broken}
use Rattle.rice.specs.declared.Cursor.{Cursor}
use Rattle.rice.specs.declared.width.Width.{Width}
use Rattle.rice.proofs.Reaching.{reach_on, reach-block, bounded, told-whole, told-refused}
use Rattle.rice.proofs.Cursor.run.Goals as goal

-- the easy blocks from the cursor c on lead to the cursor b, and where none is easy, b stands where c stood
stopped : {w : Width} {s : List ℕ} {nx nblock : ℕ} {c b : Cursor} {px new : List ℤ} → Reaches w s nx nblock c px b new
    → c.done < nx → b.done ≤ c.done → {e : ℕ} → e ≡ min (c.done + nblock) nx
    → (c.done ≡ b.done) × (b.done < nx) × (e ≡ min (b.done + nblock) nx)
stopped {nx = nx} {nblock} {c} {b} E more none is =
    let at : c.done ≡ b.done = omega (arith, E.further) in
    (at, omega arith, is ∙ ap (λ (n : ℕ). min (n + nblock) nx) at)

-- what the block answered, as it is known in an arm
answered : {a : Result (Option Cursor) Broken} {o : Option Cursor} {b : Result (Option Cursor) Broken} {p : Option Cursor}
    → a ≡ Ok o → o ≡ p → a ≡ b → Ok p ≡ b
answered a o b = cc

pub loop-c-preserved-then-done-easy : goal.loop-c-preserved-then-done-easy
loop-c-preserved-then-done-easy c = reach_on c.loop-c.invariant c.easy-easy.ensures

pub loop-c-smaller : goal.loop-c-smaller
loop-c-smaller c =
    let S = c.easy-easy.ensures.standing in
    let (at, left, end) = stopped c.easy-easy.ensures c.loop-c-test.true c.if-done-easy.false c.block_end-end.ensures in
    let on = bounded S left _ _ at end _ (answered c.in-Ok-Some.is c.in-Ok-Some.field-0-is c.block.ensures.value) in
    omega (arith, on.0, S.block)

pub loop-c-preserved : goal.loop-c-preserved
loop-c-preserved c =
    let E = c.easy-easy.ensures in
    let (at, left, end) = stopped E c.loop-c-test.true c.if-done-easy.false c.block_end-end.ensures in
    reach_on (reach_on c.loop-c.invariant E)
    (reach-block E.standing left _ _ at end _ c.block.ensures.part_after _
    (answered c.in-Ok-Some.is c.in-Ok-Some.field-0-is c.block.ensures.value))

pub returns-in-Ok-None : goal.returns-in-Ok-None
returns-in-Ok-None c =
    let E = c.easy-easy.ensures in
    let (at, left, end) = stopped E c.loop-c-test.true c.if-done-easy.false c.block_end-end.ensures in
    absurd (bounded E.standing left _ _ at end _ (answered c.in-Ok-None.is c.in-Ok-None.field-0-is c.block.ensures.value))

pub overflow_add-all : goal.overflow_add-all
overflow_add-all c =
    let E = c.easy-easy.ensures in
    let (at, left, end) = stopped E c.loop-c-test.true c.if-done-easy.false c.block_end-end.ensures in
    let on = bounded E.standing left _ _ at end _ c.in-Err.ensures.value in
    omega (arith, on, E.standing.few)

pub returns-in-Err : goal.returns-in-Err
returns-in-Err c =
    let E = c.easy-easy.ensures in
    let (at, left, end) = stopped E c.loop-c-test.true c.if-done-easy.false c.block_end-end.ensures in
    let t = told-refused (reach_on c.loop-c.invariant E) _ _ left at end _ _ c.in-Err.ensures.value c.block.ensures.part_after in
    record { value = t.0; pixels_after = t.1 }

pub returns : goal.returns
returns c = let t = told-whole c.loop-c.invariant c.loop-c-test.false in record { value = t.0; pixels_after = t.1 }
