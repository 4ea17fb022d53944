-- Laws of what is ahead: an answer with nothing held after it, and one whose code word was held. Assumes nothing.
use mathlib.Core.Path.{◌≡◌, sym, ap, ap₂, ◌∙◌}
use mathlib.Core.List.{List}
use Prim.Native.Nat.{ℕ, ◌+◌, ◌-◌, ◌*◌, ◌/◌, ◌%◌, ◌^◌, ◌≤◌, ◌<◌}
use native.Mathlib.Omega.{arith}
use lib.Bits.{bit_and}
use lib.Count.{count_leading_zeros}
use Rattle.rice.specs.Tile.{bits_in, field_at}
use Rattle.rice.specs.Reads.{Read, found, diff_read}
use Rattle.rice.specs.Held.{held_bits, Bare, Past, Holds, After}
use Rattle.rice.specs.declared.ahead.Ahead.{Ahead}
use Rattle.rice.specs.declared.width.Code.TheVariants.{Raw, Split}
use Rattle.rice.proofs.HeldBits.{held_shift, held_cut}
use Rattle.rice.proofs.Reading.{field_found, word_cut, word_read}

-- nothing is held at a place of the tile
pub bare_holds : (s : List ℕ) (a : Ahead) (p : ℕ) → Bare p a → p ≤ bits_in s → Holds s a
unfolding field_at
bare_holds s a p e h = record {
  within = omega (arith, e.place, e.none);
  held = e.bits ∙ sym (ap (held_bits s a.bit) e.none);
}

-- a read that is found, with nothing held after it
pub bare_gives : {r : Read} {s : List ℕ} {u : ℕ} (a : Ahead) (p : ℕ) → Bare p a → r ≡ found u p → p ≤ bits_in s
    → After s r u a
bare_gives {r} {s} {u} a p e f h = (f ∙ ap (found u) (sym e.place), bare_holds s a p e h)

-- n of the bits held are used
module _ (s : List ℕ) (a : Ahead) (H : Holds s a) where
  past_holds : (n : ℕ) (b : Ahead) → n ≤ a.count → Past a n b → Holds s b
  past_holds n b h e = record {
    within = omega (arith, H.within, e.place, e.fewer);
    held = e.bits ∙ ap (λ (x : ℕ). x * 2 ^ n % 2 ^ 64) H.held ∙ held_shift s a.bit a.count n h a.few
        ∙ sym (ap₂ (held_bits s) e.place e.fewer);
  }

  past_gives : {r : Read} {u : ℕ} (n : ℕ) (b : Ahead) → n ≤ a.count → r ≡ found u (a.bit + n) → Past a n b
      → After s r u b
  past_gives {r} {u} n b h f e = (f ∙ ap (found u) (sym e.place), past_holds n b h e)

  -- n bits are cut out of what is held
  pub raw_gives : (n : ℕ) (b : Ahead) → n ≤ 32 → n ≤ a.count → Past a n b
      → After s (diff_read (Raw n) s a.bit) (a.held / 2 ^ 1 / 2 ^ (63 - n)) b
  unfolding diff_read
  raw_gives n b l h = past_gives n b h
      (field_found s a.bit n (omega (arith, H.within))
      ∙ ap (λ (u : ℕ). found u (a.bit + n))
      (sym (ap (λ (x : ℕ). x / 2 ^ 1 / 2 ^ (63 - n)) H.held ∙ held_cut s a.bit n a.count h a.few (omega arith))))

  -- n zeros, a one and fs bits are
  module _ (n fs : ℕ) (l : fs ≤ 24) (lead : n ≡ count_leading_zeros 64 a.held) (w : n + 1 + fs < a.count) where
    pub split_gives : (b : Ahead) → Past a (n + 1 + fs) b
        → After s (diff_read (Split fs) s a.bit)
        (n * 2 ^ fs % 2 ^ 64 + bit_and (a.held / 2 ^ (64 - (n + 1 + fs))) (1 * 2 ^ fs % 2 ^ 64 - 1)) b
    split_gives b = past_gives (n + 1 + fs) b (omega arith)
        (word_read s a.bit n fs a.count (lead ∙ ap (count_leading_zeros 64) H.held) (omega arith) a.few H.within l
        ∙ ap (λ (u : ℕ). found u (a.bit + (n + 1 + fs)))
        (ap (λ (x : ℕ). n * 2 ^ fs + x / 2 ^ (64 - (n + 1 + fs)) % 2 ^ fs) (sym H.held)
        ∙ sym (word_cut n fs l (omega (arith, a.few)) _)))
