-- Laws of fields: a field splits, is below its power, and its first and last bits are cut out by a shift and a remainder. Assumes nothing.
use mathlib.Core.Path.{◌≡◌, refl, sym, ap, ◌∙◌}
use mathlib.Core.List.{List}
use Prim.Native.Nat.{ℕ, zero, suc, ◌+◌, ◌-◌, ◌*◌, ◌/◌, ◌%◌, ◌^◌, ◌≤◌, ◌<◌}
use native.Mathlib.Nat.{add-zero, add-suc, add_assoc, pow-suc, mul_assoc, mod-lt, zero-lt-suc}
use native.Mathlib.Numerals.{add-one}
use native.Mathlib.Omega.{arith}
use lib.ListN.{get_or}
use lib.Pow.{high, low, shr-shr}
use Rattle.rice.specs.Tile.{bit_at, field_at}

pub bit_lt : (s : List ℕ) (p : ℕ) → bit_at s p < 2
unfolding bit_at
bit_lt s p = mod-lt _ (zero-lt-suc 1)

pub field_lt : (s : List ℕ) (p n : ℕ) → field_at s p n < 2 ^ n
unfolding field_at
field_lt s p zero = omega arith
field_lt s p (suc n) = rw pow-suc (omega (arith, field_lt s p n, bit_lt s (p + n)))

-- the first m bits stand above the n that follow
pub field_split : (s : List ℕ) (p m n : ℕ) → field_at s p (m + n) ≡ field_at s p m * 2 ^ n + field_at s (p + m) n
unfolding field_at
field_split s p m zero = simp add-zero (omega arith)
field_split s p m (suc n) =
    rw (add-suc, field_split s p m n, add_assoc p m n, pow-suc, ← mul_assoc)
    (omega arith)

-- the last n bits of a field
pub field_end : (s : List ℕ) (p a n : ℕ) → field_at s p (a + n) % 2 ^ n ≡ field_at s (p + a) n
field_end s p a n = rw field_split (low (field_at s p a) n (field_lt s (p + a) n))

-- the first n bits of a field
pub field-start : (s : List ℕ) (p n c : ℕ) → field_at s p (n + c) / 2 ^ c ≡ field_at s p n
field-start s p n c = rw field_split (high (field_at s p n) c (field_lt s (p + n) c))

bit_of-byte : (s : List ℕ) (i k j : ℕ) → k + suc j ≡ 8 → bit_at s (i * 8 + k) ≡ get_or s i 0 / 2 ^ j % 2
unfolding bit_at
bit_of-byte s i k j h =
    let d : (i * 8 + k) / 8 ≡ i = omega arith in
    let m : 7 - (i * 8 + k) % 8 ≡ j = omega arith in
    rw (d, m)

-- the first k bits of a byte of which j follow
bits_of-byte : (s : List ℕ) (i k j : ℕ) → get_or s i 0 < 256 → k + j ≡ 8 → field_at s (i * 8) k ≡ get_or s i 0 / 2 ^ j
unfolding field_at
bits_of-byte s i zero j b h = let e : j ≡ 8 = omega arith in rw e (omega arith)
bits_of-byte s i (suc k) j b h =
    let e : k + suc j ≡ 8 = omega arith in
    let half : get_or s i 0 / 2 ^ suc j ≡ get_or s i 0 / 2 ^ j / 2 = ap (λ n. get_or s i 0 / 2 ^ n) (sym (add-one j))
    ∙ sym (shr-shr (get_or s i 0) j 1) in
    rw (bits_of-byte s i k (suc j) b e, bit_of-byte s i k j e, half)
    (omega arith)

-- eight bits from a byte's start are the byte
pub field-byte : (s : List ℕ) (i : ℕ) → get_or s i 0 < 256 → field_at s (i * 8) 8 ≡ get_or s i 0
field-byte s i b = bits_of-byte s i 8 0 b refl ∙ omega arith

-- a byte that stands k bytes on
byte_on : (s : List ℕ) (i k : ℕ) → get_or s (i + k) 0 < 256 → field_at s (i * 8 + k * 8) 8 ≡ get_or s (i + k) 0
byte_on s i k b = let e : i * 8 + k * 8 ≡ (i + k) * 8 = omega arith in rw e (field-byte s (i + k) b)

-- every element is a byte
abbrev pub Bytes : List ℕ → Type 0
Bytes s = (k : ℕ) → get_or s k 0 < 256

-- four bytes
pub field_quad : (s : List ℕ) (i : ℕ) → Bytes s
    → field_at s (i * 8) 32 ≡ ((get_or s i 0 * 256 + get_or s (i + 1) 0) * 256 + get_or s (i + 2) 0) * 256 + get_or s (i + 3) 0
field_quad s i b =
    omega (
      arith,
      field_split s (i * 8) 24 8,
      field_split s (i * 8) 16 8,
      field_split s (i * 8) 8 8,
      field-byte s i (b i),
      byte_on s i 1 (b (i + 1)),
      byte_on s i 2 (b (i + 2)),
      byte_on s i 3 (b (i + 3)),
    )

-- two quads
pub field_word : (s : List ℕ) (i : ℕ) → field_at s (i * 8) 64 ≡ field_at s (i * 8) 32 * 2 ^ 32 + field_at s ((i + 4) * 8) 32
field_word s i = let e : (i + 4) * 8 ≡ i * 8 + 32 = omega arith in rw e (field_split s (i * 8) 32 32)

-- the first n of m bits
pub field-first : (s : List ℕ) (p n m : ℕ) → n ≤ m → field_at s p m / 2 ^ (m - n) ≡ field_at s p n
field-first s p n m h =
    let e : m ≡ n + (m - n) = omega arith in
    ap (λ k. field_at s p k / 2 ^ (m - n)) e ∙ field-start s p n (m - n)
