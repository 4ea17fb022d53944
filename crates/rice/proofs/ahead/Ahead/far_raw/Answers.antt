-- `rice::ahead::Ahead::far_raw`: n bits are taken, and nothing is held after them. Assumes nothing.
use mathlib.Core.Path.{sym, subst, ◌∙◌}
use Prim.Native.Nat.{◌≤◌}
use native.Mathlib.Omega.{arith}
use Rattle.rice.specs.Tile.{bits_in}
use Rattle.rice.specs.Reads.{diff_read}
use Rattle.rice.specs.Held.{Gives}
use Rattle.rice.specs.declared.width.Code.TheVariants.{Raw}
use Rattle.rice.proofs.Reading.{take-read, taken-found, taken-short, field_of}
use Rattle.rice.proofs.Giving.{bare_gives}
use Rattle.rice.proofs.ahead.Ahead.far_raw.Goals as goal

pub returns-in_err-u : goal.returns-in_err-u
unfolding diff_read
returns-in_err-u c =
    subst (Gives c.args.tile.now (diff_read (Raw c.args.n) c.args.tile.now c.args.bit)) (sym c.from_residual.ensures)
    (taken-short (record { bit = c.args.bit; done = 0; last = _ }) _
    (sym (take-read _ _ c.requires.0 _ c.requires.1) ∙ sym c.take_bits.ensures ∙ c.in_err-u.was))

pub bare-requires : goal.bare-requires
bare-requires c =
    let within : c.in_ok-u.next.bit ≤ bits_in c.args.tile.now =
    (field_of _ _ _ _ _
    (taken-found (record { bit = c.args.bit; done = 0; last = _ }) _ _ _
    (sym (take-read _ _ c.requires.0 _ c.requires.1) ∙ sym c.take_bits.ensures ∙ c.in_ok-u.was)).0).within in
    omega arith

pub returns : goal.returns
unfolding diff_read
returns c =
    let f = taken-found (record { bit = c.args.bit; done = 0; last = _ }) _ _ _
    (sym (take-read _ _ c.requires.0 _ c.requires.1) ∙ sym c.take_bits.ensures ∙ c.in_ok-u.was) in
    bare_gives _ _ c.bare.ensures f.0 (field_of _ _ _ _ _ f.0).within
