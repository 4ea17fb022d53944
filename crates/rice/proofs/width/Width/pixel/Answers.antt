-- `rice::width::Width::pixel`: the bits are turned so that they count from the lowest pixel. Assumes nothing.
use mathlib.Core.Path.{◌≡◌, ap, sym, subst, ◌∙◌}
use Prim.Native.Nat.{◌+◌, ◌^◌, ◌<◌}
use mir.Syntax.{w32}
use mir.Val.{to_z, of_z}
use mir.Facts.{to_z-of_z}
use Rattle.rice.specs.Widths.{bits_of, pixel_of}
use Rattle.rice.specs.declared.width.Width.{Width}
use Rattle.rice.specs.Filling.{raised}
use Rattle.rice.proofs.Wrapping.{and_width, turned_raised}
use Rattle.rice.proofs.width.Width.pixel.Goals as goal

pub returns : goal.returns
returns c =
    let s = c.scale-scale.result in
    let w = s.width in
    let v = c.args.v in
    subst (λ (x : Width). to_z w32 (of_z w32 c.pixel.result) ≡ pixel_of x v) c.scale-scale.ensures
    (to_z-of_z {w = w32} (record { sfits = c.pixel.type_inv }) ∙ c.pixel.ensures
    ∙ ap (raised w) (and_width w (v + s.below) _ s.masked)
    ∙ turned_raised w _ s.negatives v (subst (λ (x : Width). v < 2 ^ bits_of x) (sym c.scale-scale.ensures) c.requires))
