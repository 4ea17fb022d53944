-- `rice::width::Scale::level_of`: the sum of two numbers of 64 bits is not negative. Assumes nothing.
use mathlib.Core.Bool.{true}
use mathlib.Core.Path.{◌≡◌, sym, ap, ap₂, subst, ◌∙◌}
use Prim.Native.Nat.{ℕ, ◌+◌, ◌^◌, ◌<◌}
use native.Mathlib.Omega.{arith}
use lib.IntN.{ℤ, pos, ◌+ℤ◌, nat_abs}
use mir.Syntax.{w32, w64}
use mir.Val.{SFits, to_z, of_z}
use mir.Facts.{to_z-of_z, to_z_pos, sfits_widen}
use Rattle.rice.specs.Widths.{bits_of, positives, in_width}
use Rattle.rice.specs.declared.width.Width.{Width}
use Rattle.rice.specs.Filling.{raised}
use Rattle.rice.proofs.Wrapping.{sizes, Level, level_in}
use Rattle.rice.proofs.width.Scale.level_of.Goals as goal

-- the sum, as it is made in 64 bits
module _ (w : Width) (below : ℕ) (e : below + positives w ≡ 2 ^ bits_of w) (z : ℤ) (fits : SFits w32 z)
    (h : in_width w z ≡ true) where
  level : Level w below e z
  level = level_in w below e z h

  small : level.level < 2 ^ 63
  small = omega (arith, level.small, (sizes w).all)

  wide : to_z w64 (of_z w64 (to_z w32 (of_z w32 z))) ≡ z
  wide = ap (λ (y : ℤ). to_z w64 (of_z w64 y)) (to_z-of_z {w = w32} fits) ∙ to_z-of_z {w = w64} (sfits_widen {w = w32} tt fits)

  summed : to_z w64 (of_z w64 (to_z w64 (of_z w64 (to_z w32 (of_z w32 z))) +ℤ to_z w64 below)) ≡ pos level.level
  summed =
      let few : below < 2 ^ 63 = omega (arith, e, (sizes w).all) in
      ap (λ (y : ℤ). to_z w64 (of_z w64 y)) (ap₂ (λ (x y : ℤ). x +ℤ y) wide (to_z_pos w64 few) ∙ level.sum) ∙ to_z_pos w64 small

pub overflow_cast-result-3 : goal.overflow_cast-result-3
overflow_cast-result-3 c =
    let s = c.args.self in
    rw (summed s.width s.below s.negatives c.args.z c.ranges.z c.requires)
    (tt, omega (arith, small s.width s.below s.negatives c.args.z c.ranges.z c.requires))

pub returns : goal.returns
returns c =
    let s = c.args.self in
    let w = s.width in
    let l = level w s.below s.negatives c.args.z c.ranges.z c.requires in
    subst (λ (n : ℕ). (n < 2 ^ bits_of w) × (raised w n ≡ c.args.z))
    (sym (ap nat_abs (summed w s.below s.negatives c.args.z c.ranges.z c.requires)))
    (l.small, l.is)
