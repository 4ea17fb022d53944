-- The bits of a tile (FITS Standard 10.4.1). A tile is the list of its bytes; its bits are counted from the highest of byte 0 on,
-- and past its end every bit is 0.
use Rattle.std.specs.Prelude.{List, ℕ, zero, suc, ◌+◌, ◌-◌, ◌*◌, ◌/◌, ◌%◌, ◌^◌, get_or, length}
use Rattle.std.specs.Int.Count.{under}

-- how many bits a tile has
abbrev pub bits_in : List ℕ → ℕ
bits_in s = length s * 8

-- the bit at place p
unfoldable pub bit_at : List ℕ → ℕ → ℕ
bit_at s p = get_or s (p / 8) 0 / 2 ^ (7 - p % 8) % 2

-- the n bits from place p on, as a number, the highest first
unfoldable pub field_at : List ℕ → ℕ → ℕ → ℕ
field_at s p zero = 0
field_at s p (suc n) = field_at s p n * 2 + bit_at s (p + n)

-- how many of the n bits from place p on stand before the first one: n where none is set
unfoldable pub zeros_at : List ℕ → ℕ → ℕ → ℕ
zeros_at s p zero = 0
zeros_at s p (suc n) = under (bit_at s p) (zeros_at s (p + 1) n)
