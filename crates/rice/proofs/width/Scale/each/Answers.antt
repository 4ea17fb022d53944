-- `rice::width::Scale::each`: pixels one by one lead on from the start. Assumes nothing.
use mathlib.Core.Path.{◌≡◌, subst}
use Prim.Native.Nat.{ℕ}
use native.Mathlib.Omega.{arith}
use Rattle.std.specs.Prelude.{Ok, Err}
use Rattle.rice.specs.Reads.{short, diff_read}
use Rattle.rice.specs.Held.{After, Gives}
use Rattle.rice.specs.Filling.{CameTo}
use Rattle.rice.proofs.Giving.{bare_holds}
use Rattle.rice.proofs.Filling.{diff_small, onward-start, onward-one, onward_then, came_short, came_to, spot_ahead}
use Rattle.rice.proofs.width.Scale.each.Goals as goal

pub loop-i-init : goal.loop-i-init
loop-i-init c =
    let a = c.args in
    let at : c.bare-a.result.bit ≡ a.start.bit = c.bare-a.ensures.place in
    let b = spot_ahead c.bare-a.result a.start.level a.start.next in
    let h = c.requires.inside in
    record {
      on = onward-start a.self.width a.code a.tile.now a.part.now b (omega (arith, h.0), h.1, h.2);
      holds = bare_holds a.tile.now c.bare-a.result a.start.bit c.bare-a.ensures h.0;
    }

pub returns-in_default : goal.returns-in_default
returns-in_default c =
    let a = c.args in
    let at : c.bare-a.result.bit ≡ a.start.bit = c.bare-a.ensures.place in
    let read : diff_read a.code a.tile.now c.loop-i.a.bit ≡ short = subst (Gives _ _) c.in_default.is c.difference.ensures in
    subst
    (λ (p : ℕ). CameTo a.self.width a.code a.tile.now a.part.now c.loop-i.part
    (record { bit = p; level = a.start.level; next = a.start.next }) (Err c.loop-i.i))
    at
    (came_short c.loop-i.invariant.on (omega (arith, c.loop-i.invariant.on.sized)) read)

pub store-level-requires : goal.store-level-requires
store-level-requires c =
    let a = c.args in
    let read : After a.tile.now (diff_read a.code a.tile.now c.loop-i.a.bit) c.in-Some.u c.in-Some.next = c.in-Some.ensures in (
      c.loop-i.invariant.on.inside.1,
      diff_small a.code a.tile.now c.loop-i.a.bit c.requires.tile_len_bound.1 read.0,
      omega (arith, c.loop-i.invariant.on.sized),
    )

pub loop-i-preserved : goal.loop-i-preserved
loop-i-preserved c =
    let a = c.args in
    let l = c.loop-i in
    let read : After a.tile.now (diff_read a.code a.tile.now l.a.bit) c.in-Some.u c.in-Some.next = c.in-Some.ensures in
    let within = read.1.within in
    record {
      on = onward_then l.invariant.on
          (onward-one a.self.width a.code a.tile.now l.part (spot_ahead l.a l.level l.i) c.store-level.result _ _
          (omega (arith, l.invariant.on.sized)) read.0
          (omega arith) c.store-level.ensures.upper_bound c.store-level.ensures.part_after (omega arith));
      holds = read.1;
    }

pub returns : goal.returns
returns c =
    let a = c.args in
    let l = c.loop-i in
    let at : c.bare-a.result.bit ≡ a.start.bit = c.bare-a.ensures.place in
    subst
    (λ (p : ℕ). CameTo a.self.width a.code a.tile.now a.part.now l.part
    (record { bit = p; level = a.start.level; next = a.start.next }) (Ok (spot_ahead l.a l.level l.i)))
    at
    (came_to l.invariant.on (omega (arith, l.invariant.on.sized)))
