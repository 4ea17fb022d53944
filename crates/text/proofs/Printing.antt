-- Texts of printable bytes, a byte at a time.
use Prim.Native.Nat.{ℕ, zero, suc, ◌+◌, ◌<◌, ◌≤◌}
use native.Mathlib.Omega.{arith}
use mathlib.Core.Path.{◌≡◌, refl}
use mathlib.Core.Bool.{Bool, true, false, ◌&&◌}
use mathlib.Core.List.{List, [], ◌∷◌}
use lib.ListN.{length, drop, get_or, drop_of_length-le}
use Rattle.laws.proofs.Truths.{and_both}
use Rattle.text.specs.Bytes.{is_printable, every, are_printable}
use Rattle.text.proofs.Trimming.{at_next}

module _ (p : ℕ → Bool) where
  -- what was seen, and what is left
  pub every_step : (s : List ℕ) (i : ℕ) → i < length s → (all : Bool)
      → ((all && p (get_or s i 0)) && every p (drop (i + 1) s)) ≡ (all && every p (drop i s))
  unfolding every
  every_step s i h true = rw (at_next s i h)
  every_step s i h false = refl

  pub every_end : (s : List ℕ) (i : ℕ) → length s ≤ i → (all : Bool) → all ≡ (all && every p (drop i s))
  unfolding every
  every_end s i h true = rw (drop_of_length-le s h)
  every_end s i h false = refl

pub every_printable : (s : List ℕ) → every is_printable s ≡ are_printable s
unfolding every are_printable
every_printable [] = refl
every_printable (b ∷ s) = rw (every_printable s)

-- where all are printable, each is
pub printable_at : (s : List ℕ) (i : ℕ) → i < length s → are_printable s ≡ true → is_printable (get_or s i 0) ≡ true
unfolding are_printable
printable_at [] i h e = absurd (omega arith)
printable_at (b ∷ s) zero h e = (and_both (is_printable b) (are_printable s) e).0
printable_at (b ∷ s) (suc i) h e = printable_at s i (omega arith) (and_both (is_printable b) (are_printable s) e).1
