-- The difference of two natural numbers as a whole number. Assumes nothing.
use mathlib.Core.Path.{◌≡◌, ap}
use Prim.Native.Nat.{ℕ, zero, suc, ◌-◌, ◌≤◌, ◌<◌}
use native.Mathlib.Omega.{arith}
use borrow.Author.Tests.{lt-ltb, le-ltb}
use lib.IntN.{pos, negsuc, ◌-ℤ◌}

pub minus_pos : (a b : ℕ) → b ≤ a → pos a -ℤ pos b ≡ pos (a - b)
minus_pos a zero h = ap pos (omega arith)
minus_pos a (suc b) h = rw (le-ltb a (suc b) h)

pub minus_neg : (a b : ℕ) → a < b → pos a -ℤ pos b ≡ negsuc (b - suc a)
minus_neg a zero h = absurd (omega arith)
minus_neg a (suc b) h = rw (lt-ltb a (suc b) h)
