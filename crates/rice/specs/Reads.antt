-- What is read at a place of a tile (SPECIFICATION 12.1 and 12.8; FITS Standard 10.4.1).
use Rattle.std.specs.Prelude.{cond, ◌&&◌, Option, Some, None, List, ℕ, ◌+◌, ◌-◌, ◌*◌, ◌%◌, ◌^◌, leb, ltb, length}
use Rattle.rice.specs.Tile.{bits_in, field_at, zeros_at}
use Rattle.rice.specs.declared.Cursor.{Cursor}
use Rattle.rice.specs.declared.width.Code.{Code}
use Rattle.rice.specs.declared.width.Code.TheVariants.{Same, Raw, Split}

-- a number and the place after it; or the tile ends before its bits
pub data Read : Type 0 where
  found : ℕ → ℕ → Read
  short : Read

-- the n bits from place p on
unfoldable pub field_read : List ℕ → ℕ → ℕ → Read
field_read s p n = cond (leb (p + n) (bits_in s)) (found (field_at s p n) (p + n)) short

-- the number n of zeros from place p on, and the one after them
unfoldable pub run_read : List ℕ → ℕ → Read
run_read s p =
    let n = zeros_at s p (bits_in s - p) in
    cond (ltb n (bits_in s - p)) (found n (p + n + 1)) short

-- n times 2 ^ fs plus r, modulo 2 ^ 32, where r is a field of fs bits
abbrev pub above : ℕ → ℕ → Read → Read
above n fs (found r q) = found ((n * 2 ^ fs + r) % 2 ^ 32) q
above n fs short = short

-- a run of n zeros and a one, then fs bits
abbrev pub then_field : List ℕ → ℕ → Read → Read
then_field s fs (found n q) = above n fs (field_read s q fs)
then_field s fs short = short

-- the number u at place p that stands for a difference, in a block with this code
unfoldable pub diff_read : Code → List ℕ → ℕ → Read
diff_read Same s p = found 0 p
diff_read (Raw n) s p = field_read s p n
diff_read (Split fs) s p = then_field s fs (run_read s p)

-- the cursor at another place
abbrev pub moved : Cursor → ℕ → Cursor
moved c p = record { bit = p; done = c.done; last = c.last }

-- what a cursor answers to a read: the number, and the cursor after it
abbrev pub taken_of : Cursor → Read → Option (ℕ × Cursor)
taken_of c (found u q) = Some (u, moved c q)
taken_of c short = None

-- the most bytes of a tile, and the most bits that are taken at once (SPECIFICATION 1 and 12.8)
abbrev pub most_bytes : ℕ
most_bytes = 8388608

abbrev pub most_bits : ℕ
most_bits = 32

-- a cursor takes n bits; what cannot be had is none: bits past the end, more than 32 of them, any of a tile above the limit
unfoldable pub take_of : List ℕ → Cursor → ℕ → Option (ℕ × Cursor)
take_of s c n = cond (leb (length s) most_bytes && leb n most_bits) (taken_of c (field_read s c.bit n)) None

-- a cursor skips the next zeros and the one after them
unfoldable pub skip_of : List ℕ → Cursor → Option (ℕ × Cursor)
skip_of s c = cond (leb (length s) most_bytes) (taken_of c (run_read s c.bit)) None
