-- The last byte of a text, and what stands before it.
use Rattle.std.specs.Prelude.{ℕ, ◌-◌, Bool, List, eqb, length, get_or, take}

-- all bytes but the last
unfoldable pub stem : List ℕ → List ℕ
stem s = take (length s - 1) s

-- the last byte is b
unfoldable pub ends_with : ℕ → List ℕ → Bool
ends_with b s = eqb (get_or s (length s - 1) 0) b
