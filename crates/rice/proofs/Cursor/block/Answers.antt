-- `rice::Cursor::block`: the FS field, its code, and the run of its pixels. Assumes nothing.
use mathlib.Core.Path.{◌≡◌, ap, sym, subst, ◌∙◌}
use mathlib.Core.Bool.{true}
use mathlib.Core.List.{List}
use Prim.Native.Nat.{ℕ, ◌+◌, ◌^◌, ◌≤◌, ◌<◌}
use native.Mathlib.Omega.{arith}
use lib.ListN.{length}
use Rattle.std.specs.Prelude.{Option, Some, None, Ok}
use Rattle.rice.specs.Widths.{fs_bits, in_width}
use Rattle.rice.specs.Reads.{found, short, field_read, moved, taken_of, take_of, most_bytes}
use Rattle.rice.specs.Blocks.{StepOutcome}
use Rattle.rice.specs.declared.Cursor.{Cursor}
use Rattle.rice.specs.declared.width.Code.{Code}
use Rattle.rice.specs.declared.width.Width.{Width}
use Rattle.rice.proofs.Wrapping.{sizes}
use Rattle.rice.proofs.Reading.{take-read, taken-found, taken-short, field_of}
use Rattle.rice.proofs.FsCodes.{outcome, outcome-refused, block-short, block-above, block-known, code_fits}
use Rattle.rice.proofs.Levelling.{level_coded}
use Rattle.rice.proofs.Cursor.block.Goals as goal
use Rattle.std.specs.Prelude.{Ok}

-- what is taken is the FS field
module _ (w : Width) (s : List ℕ) (c : Cursor) (few : length s ≤ most_bytes) (n : ℕ) (size : n ≡ fs_bits w)
    {r : Option (ℕ × Cursor)} (e : r ≡ take_of s c n) where
  took : r ≡ taken_of c (field_read s c.bit (fs_bits w))
  took =
      e ∙ take-read s c few n (omega (arith, size, (sizes w).field))
      ∙ ap (λ (k : ℕ). taken_of c (field_read s c.bit k)) size

  field_taken : {f : ℕ} {d : Cursor} → r ≡ Some (f, d) → (field_read s c.bit (fs_bits w) ≡ found f d.bit) × (d ≡ moved c d.bit)
  field_taken is = taken-found c _ _ _ (sym took ∙ is)

  not_taken : r ≡ None → field_read s c.bit (fs_bits w) ≡ short
  not_taken is = taken-short c _ (sym took ∙ is)

pub returns-in_default : goal.returns-in_default
returns-in_default c =
    let a = c.args in
    let read = not_taken a.scale.width a.tile.now a.self c.requires.0 _ c.fs_bits.ensures c.take_bits.ensures c.in_default.is in
    let o = outcome-refused c.refused.ensures (block-short a.scale.width a.tile.now a.self a.part.now read) in
    record { value = o.0; part_after = o.1 }

pub returns-in_default-code : goal.returns-in_default-code
returns-in_default-code c =
    let a = c.args in
    let w = a.scale.width in
    let read = field_taken w a.tile.now a.self c.requires.0 _ c.fs_bits.ensures c.take_bits.ensures c.in-Some.is in
    let is = block-above w a.tile.now a.self a.part.now _ _ read.0 read.1 (sym c.code.ensures ∙ c.in_default-code.is) in
    let o = outcome-refused c.refused-in_default-code.ensures is in
    record { value = o.0; part_after = o.1 }

pub fill-requires : goal.fill-requires
fill-requires c =
    let a = c.args in
    let w = a.scale.width in
    let read = field_taken w a.tile.now a.self c.requires.0 _ c.fs_bits.ensures c.take_bits.ensures c.in-Some.is in
    record {
      tile_len_bound = (
        c.requires.0,
        (field_of _ _ _ _ _ read.0).within,
        code_fits w _ _ (sym c.code.ensures ∙ c.in-Some-code.is),
      );
      last_value = (
        subst (λ (d : Cursor). in_width w d.last ≡ true) (sym read.1) c.requires.1,
        subst (λ (d : Cursor). d.done + length a.part.now < 2 ^ 32) (sym read.1) c.requires.2,
      );
    }

pub returns-in_default-code-2 : goal.returns-in_default-code-2
returns-in_default-code-2 c =
    let a = c.args in
    let w = a.scale.width in
    let read = field_taken w a.tile.now a.self c.requires.0 _ c.fs_bits.ensures c.take_bits.ensures c.in-Some.is in
    let is = block-known w a.tile.now a.self a.part.now _ _ read.0 read.1 _ (sym c.code.ensures ∙ c.in-Some-code.is) in
    record {
      value = c.fill.ensures.value ∙ sym (ap (λ (o : StepOutcome). o.answer) is);
      part_after = c.fill.ensures.part_after ∙ sym (ap (λ (o : StepOutcome). o.content) is);
    }

pub level-requires : goal.level-requires
level-requires c =
    let a = c.args in
    let read = field_taken a.scale.width a.tile.now a.self c.requires.0 _ c.fs_bits.ensures c.take_bits.ensures c.in-Some.is in
    subst (λ (d : Cursor). d.done + length a.part.now < 2 ^ 32) (sym read.1) c.requires.2

pub returns : goal.returns
returns c =
    let a = c.args in
    let w = a.scale.width in
    let read = field_taken w a.tile.now a.self c.requires.0 _ c.fs_bits.ensures c.take_bits.ensures c.in-Some.is in
    let says = sym c.code.ensures ∙ c.in-Some-code.is ∙ ap (λ (x : Code). Some x) c.in-Same.is in
    let last = subst (λ (d : Cursor). in_width w d.last ≡ true) (sym read.1) c.requires.1 in
    let is = block-known w a.tile.now a.self a.part.now _ _ read.0 read.1 _ says
    ∙ level_coded w a.tile.now c.in-Some.start a.part.now last in
    let o = outcome (ap (λ (d : Cursor). Ok (Some d)) c.level.ensures.value) is in
    record { value = o.0; part_after = c.level.ensures.part_after ∙ o.1 }
