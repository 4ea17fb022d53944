-- Laws of reads: when each is found, what one that is found says, and code words that are held in a word. Assumes nothing.
use mathlib.Core.Path.{◌≡◌, refl, sym, ap, ap₂, ◌∙◌}
use mathlib.Core.Bool.{Bool, true, false, cond}
use mathlib.Core.List.{List}
use Prim.Native.Nat.{ℕ, ◌+◌, ◌-◌, ◌*◌, ◌/◌, ◌%◌, ◌^◌, ◌≤◌, ◌<◌}
use native.Mathlib.Nat.{one-mul, mod-lt, mod-eq_of_lt, mul-le-mul}
use native.Mathlib.Omega.{arith}
use borrow.Author.Tests.{lt-ltb, le-leb, lt-leb, leb-true, ltb-true}
use lib.Bits.{bit_and, and_mask}
use lib.Count.{count_leading_zeros}
use lib.Dec.{leb, ltb}
use lib.ListN.{length}
use lib.Pow.{pow_mono, pow_pos}
use Rattle.rice.specs.Tile.{bits_in, field_at, zeros_at}
use Rattle.rice.specs.Reads.{Read, found, short, field_read, run_read, above, then_field, diff_read}
use Rattle.rice.specs.Reads.{moved, taken_of, most_bytes, most_bits, take_of, skip_of}
use Rattle.rice.specs.Held.{held_bits}
use Rattle.rice.specs.declared.Cursor.{Cursor}
use Rattle.rice.specs.declared.width.Code.TheVariants.{Split}
use Rattle.rice.proofs.Fields.{field_end}
use Rattle.rice.proofs.ZeroRuns.{zeros_within}
use Rattle.rice.proofs.HeldBits.{held_first, zeros_held}
use Rattle.std.specs.Prelude.{Some, None}
use Rattle.std.proofs.lemmas.Option.{some_pair_parts}

-- ---- fields and runs of zeros

module _ (s : List ℕ) (p n : ℕ) where
  pub field_found : p + n ≤ bits_in s → field_read s p n ≡ found (field_at s p n) (p + n)
  unfolding field_read
  field_found h = rw (le-leb (p + n) (bits_in s) h)

  pub field-short : bits_in s < p + n → field_read s p n ≡ short
  unfolding field_read
  field-short h = rw (lt-leb (p + n) (bits_in s) h)

  pub run_found : n ≡ zeros_at s p (bits_in s - p) → n < bits_in s - p → run_read s p ≡ found n (p + n + 1)
  unfolding run_read
  run_found e h = rw (← e, lt-ltb n (bits_in s - p) h)

-- past the tile's end there is no one
pub run_past : (s : List ℕ) (p : ℕ) → bits_in s < p → run_read s p ≡ short
unfolding run_read zeros_at
run_past s p h = let none : bits_in s - p ≡ 0 = omega arith in rw none

cond-found : (t : Bool) {a b n q : ℕ} → cond t (found a b) short ≡ found n q → (t ≡ true) × (a ≡ n) × (b ≡ q)
cond-found true e = (refl, (cc), (cc))
cond-found false e = let z : ◌≡◌ {A = ℕ} 0 1 = cc in absurd (omega arith)

pub record FieldFound (s : List ℕ) (p n u q : ℕ) : Type 0 where
  pub value : u ≡ field_at s p n
  pub place : q ≡ p + n
  pub within : q ≤ bits_in s

pub field_of : (s : List ℕ) (p n u q : ℕ) → field_read s p n ≡ found u q → FieldFound s p n u q
unfolding field_read
field_of s p n u q e =
    let f = cond-found (leb (p + n) (bits_in s)) e in
    let h : p + n ≤ bits_in s = leb-true _ _ f.0 in
    record { value = sym f.1; place = sym f.2; within = rw (← f.2) h }

-- the zeros of a run that is found are no more than the tile's bits
pub run_of : (s : List ℕ) (p n q : ℕ) → run_read s p ≡ found n q → n < bits_in s
unfolding run_read
run_of s p n q e =
    let f = cond-found (ltb (zeros_at s p (bits_in s - p)) (bits_in s - p)) e in
    let h : zeros_at s p (bits_in s - p) < bits_in s - p = ltb-true _ _ f.0 in
    omega (arith, f.1)

-- ---- what a cursor takes

module _ (s : List ℕ) (c : Cursor) (few : length s ≤ most_bytes) where
  pub take-read : (n : ℕ) → n ≤ most_bits → take_of s c n ≡ taken_of c (field_read s c.bit n)
  unfolding take_of
  take-read n h = rw (le-leb (length s) most_bytes few, le-leb n most_bits h)

  pub skip_read : skip_of s c ≡ taken_of c (run_read s c.bit)
  unfolding skip_of
  skip_read = rw (le-leb (length s) most_bytes few)

pub taken-found : (c d : Cursor) (r : Read) (u : ℕ) → taken_of c r ≡ Some (u, d)
    → (r ≡ found u d.bit) × (d ≡ moved c d.bit)
taken-found c d (found v q) u e =
    let parts = some_pair_parts v u (moved c q) d e in
    let place : q ≡ d.bit = ap (λ (x : Cursor). x.bit) parts.1 in
    (ap₂ found parts.0 place, sym parts.1 ∙ ap (moved c) place)
taken-found c d short u e = let z : ◌≡◌ {A = ℕ} 0 1 = cc in absurd (omega arith)

pub taken-short : (c : Cursor) (r : Read) → taken_of c r ≡ None → r ≡ short
taken-short c (found v q) e = let z : ◌≡◌ {A = ℕ} 0 1 = cc in absurd (omega arith)
taken-short c short e = refl

-- ---- a run of zeros, a one, and fs bits

module _ (s : List ℕ) (p fs : ℕ) where
  pub split_no_run : run_read s p ≡ short → diff_read (Split fs) s p ≡ short
  unfolding diff_read
  split_no_run e = ap (then_field s fs) e

  module _ {n q : ℕ} (run : run_read s p ≡ found n q) where
    pub split_no_field : field_read s q fs ≡ short → diff_read (Split fs) s p ≡ short
    unfolding diff_read
    split_no_field e = ap (then_field s fs) run ∙ ap (above n fs) e

    pub split_found : {r t : ℕ} → field_read s q fs ≡ found r t
        → diff_read (Split fs) s p ≡ found ((n * 2 ^ fs + r) % 2 ^ 32) t
    unfolding diff_read
    split_found e = ap (then_field s fs) run ∙ ap (above n fs) e

-- n zeros of a tile within its limit, above fs bits
pub shifted_fits : (s : List ℕ) (n fs : ℕ) → length s ≤ most_bytes → n < bits_in s → fs ≤ 24 → n * 2 ^ fs ≤ 2 ^ 50
shifted_fits s n fs b h l = mul-le-mul {n₁ = n} {n₂ = 2 ^ 26} (omega arith) (pow_mono l)

-- ---- the same, held in a word: c bits are, n zeros, a one and fs bits among them

pub one_shifted : (fs : ℕ) → fs ≤ 24 → 1 * 2 ^ fs % 2 ^ 64 ≡ 2 ^ fs
one_shifted fs l = mod-eq_of_lt (omega (arith, pow_mono l)) ∙ one-mul (2 ^ fs)

module _ (n fs : ℕ) (l : fs ≤ 24) (k : n < 64) where
  shifted_small : n * 2 ^ fs ≤ 63 * 2 ^ 24
  shifted_small = mul-le-mul {n₁ = n} {n₂ = 63} (omega arith) (pow_mono l)

  pub word_cut : (y : ℕ) → n * 2 ^ fs % 2 ^ 64 + bit_and y (1 * 2 ^ fs % 2 ^ 64 - 1) ≡ n * 2 ^ fs + y % 2 ^ fs
  word_cut y =
      ap₂ (λ (a b : ℕ). a + b) (mod-eq_of_lt (omega (arith, shifted_small)))
      (ap (λ (m : ℕ). bit_and y (m - 1)) (one_shifted fs l) ∙ and_mask y fs)

  pub word_fits : (y : ℕ) → n * 2 ^ fs + y % 2 ^ fs < 2 ^ 32
  word_fits y = omega (arith, shifted_small, mod-lt y (pow_pos fs), pow_mono l)

module _ (s : List ℕ) (p n fs c : ℕ) (e : n ≡ count_leading_zeros 64 (held_bits s p c)) (w : n + 1 + fs ≤ c) (m : c ≤ 64)
    (h : p + c ≤ bits_in s) (l : fs ≤ 24) where
  word_run : run_read s p ≡ found n (p + n + 1)
  word_run =
      let run : n ≡ zeros_at s p c = omega (arith, e, zeros_held s p c m) in
      run_found s p n (omega (arith, zeros_within s p (bits_in s - p) c (omega arith))) (omega arith)

  word_rest : held_bits s p c / 2 ^ (64 - (n + 1 + fs)) % 2 ^ fs ≡ field_at s (p + n + 1) fs
  word_rest =
      ap (λ (x : ℕ). x % 2 ^ fs) (held_first s p (n + 1 + fs) c (omega arith) m)
      ∙ field_end s p (n + 1) fs ∙ ap (λ (q : ℕ). field_at s q fs) (omega arith)

  pub word_read : diff_read (Split fs) s p ≡ found (n * 2 ^ fs + held_bits s p c / 2 ^ (64 - (n + 1 + fs)) % 2 ^ fs)
      (p + (n + 1 + fs))
  word_read =
      split_found s p fs word_run (field_found s (p + n + 1) fs (omega arith))
      ∙ ap₂ found
      (ap (λ (r : ℕ). (n * 2 ^ fs + r) % 2 ^ 32) (sym word_rest) ∙ mod-eq_of_lt (word_fits n fs l (omega arith) _))
      (omega arith)
