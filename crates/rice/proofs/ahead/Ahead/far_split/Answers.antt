-- `rice::ahead::Ahead::far_split`: a run of zeros is skipped, and fs bits are taken after it. Assumes nothing.
use mathlib.Core.Path.{◌≡◌, ap, sym, subst, ◌∙◌}
use mathlib.Core.List.{List}
use Prim.Native.Nat.{ℕ, ◌+◌, ◌*◌, ◌%◌, ◌^◌, ◌≤◌}
use native.Mathlib.Nat.{mod-eq_of_lt}
use native.Mathlib.Omega.{arith}
use lib.ListN.{length}
use lib.Pow.{pow_mono}
use Rattle.std.specs.Prelude.{Option, Some, None}
use Rattle.rice.specs.Reads.{found, short, run_read, field_read, diff_read, take_of, skip_of, most_bytes}
use Rattle.rice.specs.Held.{Gives}
use Rattle.rice.specs.declared.Cursor.{Cursor}
use Rattle.rice.specs.declared.width.Code.TheVariants.{Split}
use Rattle.rice.proofs.Fields.{field_lt}
use Rattle.rice.proofs.Reading.{take-read, skip_read, taken-found, taken-short}
use Rattle.rice.proofs.Reading.{split_no_run, split_no_field, split_found, run_of, field_of, shifted_fits}
use Rattle.rice.proofs.Giving.{bare_gives}
use Rattle.rice.proofs.ahead.Ahead.far_split.Goals as goal

-- what is skipped from a cursor on, and what is taken after it
module _ (s : List ℕ) (few : length s ≤ most_bytes) (c : Cursor) {r : Option (ℕ × Cursor)} where
  skipped : {n : ℕ} {d : Cursor} → r ≡ skip_of s c → r ≡ Some (n, d) → run_read s c.bit ≡ found n d.bit
  skipped e is = (taken-found c _ _ _ (sym (skip_read s c few) ∙ sym e ∙ is)).0

  not_skipped : r ≡ skip_of s c → r ≡ None → run_read s c.bit ≡ short
  not_skipped e is = taken-short c _ (sym (skip_read s c few) ∙ sym e ∙ is)

  module _ (fs : ℕ) (l : fs ≤ 24) where
    taken : {u : ℕ} {d : Cursor} → r ≡ take_of s c fs → r ≡ Some (u, d) → field_read s c.bit fs ≡ found u d.bit
    taken e is = (taken-found c _ _ _ (sym (take-read s c few fs (omega arith)) ∙ sym e ∙ is)).0

    not_taken : r ≡ take_of s c fs → r ≡ None → field_read s c.bit fs ≡ short
    not_taken e is = taken-short c _ (sym (take-read s c few fs (omega arith)) ∙ sym e ∙ is)

pub returns-in_err-n : goal.returns-in_err-n
returns-in_err-n c =
    let s = c.args.tile.now in
    subst (Gives s (diff_read (Split c.args.fs) s c.args.bit)) (sym c.from_residual.ensures)
    (split_no_run _ _ _ (not_skipped s c.requires.0 _ c.skip_zeros.ensures c.in_err-n.was))

pub returns-in_err-rest : goal.returns-in_err-rest
returns-in_err-rest c =
    let s = c.args.tile.now in
    subst (Gives s (diff_read (Split c.args.fs) s c.args.bit)) (sym c.from_residual-in_err-rest.ensures)
    (split_no_field _ _ _ (skipped s c.requires.0 _ c.skip_zeros.ensures c.in_ok-n.was)
    (not_taken s c.requires.0 _ c.args.fs c.requires.1 c.take_bits.ensures c.in_err-rest.was))

pub overflow_add-value : goal.overflow_add-value
overflow_add-value c =
    let s = c.args.tile.now in
    let l : c.args.fs ≤ 24 = c.requires.1 in
    let run = skipped s c.requires.0 _ c.skip_zeros.ensures c.in_ok-n.was in
    let rest = taken s c.requires.0 _ c.args.fs l c.take_bits.ensures c.in_ok-rest.was in
    omega (
      arith,
      shifted_fits s _ c.args.fs c.requires.0 (run_of _ _ _ _ run) l,
      (field_of _ _ _ _ _ rest).value,
      field_lt s c.in_ok-n.after.bit c.args.fs,
      pow_mono l,
    )

pub bare-requires : goal.bare-requires
bare-requires c =
    let rest = taken c.args.tile.now c.requires.0 _ c.args.fs c.requires.1 c.take_bits.ensures c.in_ok-rest.was in
    omega (arith, (field_of _ _ _ _ _ rest).within)

pub returns : goal.returns
returns c =
    let s = c.args.tile.now in
    let fs = c.args.fs in
    let run = skipped s c.requires.0 _ c.skip_zeros.ensures c.in_ok-n.was in
    let rest = taken s c.requires.0 _ fs c.requires.1 c.take_bits.ensures c.in_ok-rest.was in
    let value : c.in_ok-n.n * 2 ^ fs % 2 ^ 64 ≡ c.in_ok-n.n * 2 ^ fs =
    mod-eq_of_lt (omega (arith, shifted_fits s _ fs c.requires.0 (run_of _ _ _ _ run) c.requires.1)) in
    bare_gives _ _ c.bare.ensures
    (split_found _ _ _ run rest
    ∙ ap (λ (m : ℕ). found ((m + c.in_ok-rest.rest) % 2 ^ 32) c.in_ok-rest.end.bit) (sym value))
    (field_of _ _ _ _ _ rest).within
