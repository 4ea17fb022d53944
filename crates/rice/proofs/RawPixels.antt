-- Laws of a raw block, of which i pixels are stored: the next number stands i times the width's bytes on. Assumes nothing.
use mathlib.Core.Path.{◌≡◌, sym, ap, ap₂, ◌∙◌}
use mathlib.Core.List.{List}
use Prim.Native.Nat.{ℕ, suc, ◌+◌, ◌*◌, ◌/◌, ◌%◌, ◌^◌, ◌≤◌, ◌<◌}
use native.Mathlib.Nat.{mul-suc, mul_assoc, mul_comm, mul-le-mul_left, lt_of_lt_of_le}
use native.Mathlib.Omega.{arith}
use lib.IntN.{ℤ}
use lib.ListN.{length}
use Rattle.rice.specs.Tile.{bits_in, field_at}
use Rattle.rice.specs.Widths.{bits_of, start_bytes}
use Rattle.rice.specs.Reads.{found, diff_read}
use Rattle.rice.specs.Filling.{raised, Onward, whole_at, RawTo, spot_at}
use Rattle.rice.specs.declared.pixels.Spot.{Spot}
use Rattle.rice.specs.declared.width.Code.TheVariants.{Raw}
use Rattle.rice.specs.declared.width.Width.{Width}
use Rattle.rice.proofs.Fields.{field_lt}
use Rattle.rice.proofs.Reading.{field_found}
use Rattle.rice.proofs.Wrapping.{sizes}
use Rattle.rice.proofs.Filling.{Stores, onward-one, onward_then, came_to}

-- a raw number is below 2 ^ 32
pub raw_small : (w : Width) (s : List ℕ) (p u : ℕ) → u ≡ field_at s p (bits_of w) → u < 2 ^ 32
raw_small w s p u e = rw e (lt_of_lt_of_le (field_lt s p (bits_of w)) (sizes w).all)

-- the number at byte k, after the bits that lead the block's place
abbrev pub raw_spot : ℕ → ℕ → ℕ → ℕ → Spot
raw_spot bit k level i = record { bit = k * 8 + bit % 8; level = level; next = i }

pub record RawStored (w : Width) (s : List ℕ) (bit start : ℕ) (old new : List ℤ) (k level i : ℕ) : Type 0 where
  pub on : Onward w (Raw (bits_of w)) s old new (spot_at bit start) (raw_spot bit k level i)
  pub place : k ≡ bit / 8 + start_bytes w * i

module _ {w : Width} {s : List ℕ} {bit start : ℕ} {old new : List ℤ} {k level i : ℕ} (r : RawStored w s bit start old new k level i)
    (room : bit / 8 + start_bytes w * length old + 8 ≤ length s) where
  -- the next number and eight bytes are within the tile
  pub raw_room : i < length new → k + start_bytes w + 8 ≤ length s
  raw_room h =
      let most : start_bytes w * suc i ≤ start_bytes w * length old = mul-le-mul_left (start_bytes w) (omega (arith, r.on.sized)) in
      omega (arith, mul-suc (start_bytes w) i, r.place)

  -- one pixel more is stored
  pub raw_on : (mid : List ℤ) (u l j n : ℕ) → i < length new → u ≡ field_at s (k * 8 + bit % 8) (bits_of w)
      → Stores w new mid i level u l → j ≡ k + start_bytes w → n ≡ i + 1 → RawStored w s bit start old mid j l n
  unfolding diff_read
  raw_on mid u l j n h e f je ne =
      let p = k * 8 + bit % 8 in
      let after : p + bits_of w ≡ j * 8 + bit % 8 = omega (arith, (sizes w).start) in
      let within : p + bits_of w ≤ bits_in s = omega (arith, (sizes w).start, raw_room h) in
      let read : diff_read (Raw (bits_of w)) s p ≡ found u (j * 8 + bit % 8) =
      field_found s p (bits_of w) within ∙ ap₂ found (sym e) after in
      let more : start_bytes w * n ≡ start_bytes w * i + start_bytes w =
      ap (λ (x : ℕ). start_bytes w * x) (omega arith) ∙ mul-suc (start_bytes w) i in
      record {
        on = onward_then r.on
            (onward-one w (Raw (bits_of w)) s new (raw_spot bit k level i) l n mid h read (omega arith) f.0 f.1 ne);
        place = omega (arith, r.place);
      }

  -- all of them are
  pub raw_end : length new ≤ i → RawTo w s old new (spot_at bit start) level
  raw_end h =
      let came = came_to r.on h in
      let all : i ≡ length old = omega (arith, r.on.sized, r.on.inside.2) in
      let bits : start_bytes w * i * 8 ≡ bits_of w * length old =
      ap (λ (x : ℕ). start_bytes w * x * 8) all ∙ mul_assoc (start_bytes w) (length old) 8
      ∙ ap (λ (x : ℕ). start_bytes w * x) (mul_comm (length old) 8) ∙ sym (mul_assoc (start_bytes w) 8 (length old))
      ∙ ap (λ (x : ℕ). x * length old) (sizes w).start
      in
      let at : k * 8 + bit % 8 ≡ bit + bits_of w * length old = omega (arith, r.place) in
      (came.0 ∙ ap (λ (p : ℕ). whole_at p (raised w level) new) at, came.1, came.2)
