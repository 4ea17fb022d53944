-- What a reader finds at a place (SPECIFICATION 12.8): what a cursor there finds.
use Rattle.std.specs.Prelude.{Option, Some, None, List, ℕ, pos}
use Rattle.rice.specs.Reads.{take_of, skip_of}
use Rattle.rice.specs.declared.Cursor.{Cursor}

-- a cursor at place p
abbrev pub at_place : ℕ → Cursor
at_place p = record { bit = p; done = 0; last = pos 0 }

-- the number that is taken, and the place after it
abbrev pub seen : Option (ℕ × Cursor) → Option (ℕ × ℕ)
seen (Some (u, c)) = Some (u, c.bit)
seen None = None

-- the n bits from place p on
abbrev pub field_of : List ℕ → ℕ → ℕ → Option (ℕ × ℕ)
field_of s p n = seen (take_of s (at_place p) n)

-- the number of zeros from place p on, and the place after the one that ends them
abbrev pub zeros_of : List ℕ → ℕ → Option (ℕ × ℕ)
zeros_of s p = seen (skip_of s (at_place p))

-- where a reader that stood at place p stands after a field: behind it, or still at p where it cannot be had
abbrev pub behind : ℕ → Option (ℕ × ℕ) → ℕ
behind p (Some (u, q)) = q
behind p None = p
