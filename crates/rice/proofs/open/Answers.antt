-- `rice::open`: the start value is a field of the width, and its pixel the one with these bits. Assumes nothing.
use mathlib.Core.Path.{◌≡◌, ap, sym, ◌∙◌}
use Prim.Native.Nat.{ℕ, ◌*◌}
use native.Mathlib.Omega.{arith}
use mir.Syntax.{w32}
use mir.Facts.{to_z-of_z}
use Rattle.std.specs.Prelude.{Err}
use Rattle.refusal.specs.declared.Fault.{Fault}
use Rattle.rice.specs.Widths.{bits_of, pixel_of}
use Rattle.rice.proofs.Fields.{field_lt}
use Rattle.rice.proofs.Wrapping.{sizes}
use Rattle.rice.proofs.Stepping.{plan_within, open_limits, open_short, open_at}
use Rattle.rice.proofs.open.Goals as goal

pub returns-in_default : goal.returns-in_default
returns-in_default c =
    ap (λ (f : Fault). Err f) c.fault_of.ensures ∙ open_limits _ _ _ _ (sym c.plan.ensures ∙ c.in_default.is)

pub overflow_mul-tile : goal.overflow_mul-tile
overflow_mul-tile c = omega (arith, (plan_within _ _ _ c.args.bits (sym c.plan.ensures ∙ c.in-Some.is)).tile)

pub pixel-last-requires : goal.pixel-last-requires
pixel-last-requires c =
    let start : c.start_bytes-n.result * 8 ≡ bits_of c.in-Some.width =
    ap (λ (n : ℕ). n * 8) c.start_bytes-n.ensures ∙ (sizes c.in-Some.width).start in
    rw (c.field.ensures, ← start) (field_lt _ _ _)

pub returns-then-n-tile : goal.returns-then-n-tile
returns-then-n-tile c =
    open_at _ _ _ _ _ (sym c.plan.ensures ∙ c.in-Some.is) _ _ (ap (λ (n : ℕ). n * 8) c.start_bytes-n.ensures)
    c.if-n-tile.true
    (to_z-of_z {w = w32} (record { sfits = c.pixel-last.type_inv }) ∙ c.pixel-last.ensures
    ∙ ap (pixel_of c.in-Some.width) c.field.ensures)

pub returns-else-n-tile : goal.returns-else-n-tile
returns-else-n-tile c =
    ap (λ (f : Fault). Err f) c.fault_of-else-n-tile.ensures
    ∙ open_short _ _ _ _ _ (sym c.plan.ensures ∙ c.in-Some.is) (omega arith)
