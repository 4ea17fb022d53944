-- What the private functions owe each other: bits of the tile that are held in a word of 64, and blocks of one pixel.
use Rattle.std.specs.Prelude.{◌≡◌, Option, Some, None, List, ℕ, ◌+◌, ◌-◌, ◌*◌, ◌%◌, ◌^◌, ◌≤◌}
use Rattle.rice.specs.Tile.{bits_in, field_at}
use Rattle.rice.specs.Reads.{Read, found, short}
use Rattle.rice.specs.declared.width.Code.{Code}
use Rattle.rice.specs.declared.width.Code.TheVariants.{Same, Raw, Split}
use Rattle.rice.specs.declared.ahead.Ahead.{Ahead}

-- the n bits from place p on at the top of a word, with zeros below them
abbrev pub held_bits : List ℕ → ℕ → ℕ → ℕ
held_bits s p n = field_at s p n * 2 ^ (64 - n)

-- a place with nothing held
pub record Bare (p : ℕ) (a : Ahead) : Type 0 where
  pub place : a.bit ≡ p
  pub bits : a.held ≡ 0
  pub none : a.count ≡ 0

-- n of the bits that a holds are used, and b is left
pub record Past (a : Ahead) (n : ℕ) (b : Ahead) : Type 0 where
  pub place : b.bit ≡ a.bit + n
  pub bits : b.held ≡ a.held * 2 ^ n % 2 ^ 64
  pub fewer : b.count ≡ a.count - n

-- what is held are the tile's bits from the place on
pub record Holds (s : List ℕ) (a : Ahead) : Type 0 where
  pub within : a.bit + a.count ≤ bits_in s
  pub held : a.held ≡ held_bits s a.bit a.count

-- a read finds u, and what is ahead stands after it
abbrev pub After : List ℕ → Read → ℕ → Ahead → Type 0
After s r u a = (r ≡ found u a.bit) × Holds s a

-- an answer to a read, where there is one
abbrev pub Found : List ℕ → Read → Option (ℕ × Ahead) → Type 0
Found s r (Some (u, a)) = After s r u a
Found s r None = Unit {0}

-- an answer to a read
abbrev pub Gives : List ℕ → Read → Option (ℕ × Ahead) → Type 0
Gives s r (Some (u, a)) = After s r u a
Gives s r None = r ≡ short

-- a code of one of the widths
abbrev pub CodeFits : Code → Type 0
CodeFits Same = Unit {0}
CodeFits (Raw n) = n ≤ 32
CodeFits (Split fs) = fs ≤ 24
