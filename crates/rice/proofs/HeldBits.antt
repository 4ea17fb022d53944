-- Laws of bits that are held at the top of a word: the first of them, what is left after some are used, and their run of zeros.
-- Assumes nothing.
use mathlib.Core.Path.{◌≡◌, sym, ap, ◌∙◌}
use mathlib.Core.List.{List}
use Prim.Native.Nat.{ℕ, zero, suc, ◌+◌, ◌-◌, ◌*◌, ◌/◌, ◌%◌, ◌^◌, ◌≤◌, ◌<◌, min}
use native.Mathlib.Nat.{zero-add, add-mul, zero-mul, mul_assoc, pow-suc, mul-le-mul_right}
use native.Mathlib.Omega.{arith}
use lib.Count.{count_leading_zeros, leading_of_zero, leading_unique}
use lib.Pow.{low, pow-add, shl_lt, shl-shr, shr-shr}
use Rattle.rice.specs.Tile.{field_at, zeros_at}
use Rattle.rice.specs.Held.{held_bits}
use Rattle.rice.proofs.Fields.{field_lt, field_split, field-first}
use Rattle.rice.proofs.ZeroRuns.{zeros_long}

-- a and b bits with k + a zeros below them: the first a go out at the top of the word
held_on : (s : List ℕ) (p a b k : ℕ) → b + (k + a) ≡ 64
    → field_at s p (a + b) * 2 ^ (k + a) % 2 ^ 64 ≡ field_at s (p + a) b * 2 ^ (k + a)
held_on s p a b k h =
    let A = field_at s p a in
    let B = field_at s (p + a) b in
    let top : A * 2 ^ b * 2 ^ (k + a) ≡ A * 2 ^ 64 = mul_assoc A (2 ^ b) (2 ^ (k + a))
    ∙ ap (λ (n : ℕ). A * n) (sym (pow-add 2 b (k + a)) ∙ ap (λ (n : ℕ). 2 ^ n) h) in
    let parts : field_at s p (a + b) * 2 ^ (k + a) ≡ A * 2 ^ 64 + B * 2 ^ (k + a) =
    ap (λ (n : ℕ). n * 2 ^ (k + a)) (field_split s p a b) ∙ add-mul (A * 2 ^ b) B (2 ^ (k + a))
    ∙ ap (λ (n : ℕ). n + B * 2 ^ (k + a)) top
    in
    let small : B * 2 ^ (k + a) < 2 ^ 64 = rw h at (shl_lt b (k + a) (field_lt s (p + a) b)) in
    ap (λ (n : ℕ). n % 2 ^ 64) parts ∙ low A 64 small

-- u of c bits are used
pub held_shift : (s : List ℕ) (p c u : ℕ) → u ≤ c → c ≤ 64 → held_bits s p c * 2 ^ u % 2 ^ 64 ≡ held_bits s (p + u) (c - u)
held_shift s p c u h k =
    let all : c ≡ u + (c - u) = omega arith in
    let below : 64 - c + u ≡ 64 - (c - u) = omega arith in
    ap (λ (n : ℕ). n % 2 ^ 64)
    (mul_assoc (field_at s p c) (2 ^ (64 - c)) (2 ^ u) ∙ ap (λ (n : ℕ). field_at s p c * n) (sym (pow-add 2 (64 - c) u)))
    ∙ ap (λ (n : ℕ). field_at s p n * 2 ^ (64 - c + u) % 2 ^ 64) all
    ∙ held_on s p u (c - u) (64 - c) (omega arith)
    ∙ ap (λ (n : ℕ). field_at s (p + u) (c - u) * 2 ^ n) below

-- the word that starts at p's byte, with the bits before p shifted out
pub window_held : (s : List ℕ) (p : ℕ) → field_at s (p / 8 * 8) 64 * 2 ^ (p % 8) % 2 ^ 64 ≡ held_bits s p (64 - p % 8)
window_held s p =
    let all : 64 ≡ p % 8 + (64 - p % 8) = omega arith in
    let place : p / 8 * 8 + p % 8 ≡ p = omega arith in
    let below : p % 8 ≡ 64 - (64 - p % 8) = omega arith in
    ap (λ (n : ℕ). field_at s (p / 8 * 8) n * 2 ^ (p % 8) % 2 ^ 64) all
    ∙ (rw zero-add at (held_on s (p / 8 * 8) (p % 8) (64 - p % 8) 0 (omega arith)))
    ∙ ap (λ (q : ℕ). field_at s q (64 - p % 8) * 2 ^ (p % 8)) place
    ∙ ap (λ (n : ℕ). field_at s p (64 - p % 8) * 2 ^ n) below

-- the first n of m bits
pub held_first : (s : List ℕ) (p n m : ℕ) → n ≤ m → m ≤ 64 → held_bits s p m / 2 ^ (64 - n) ≡ field_at s p n
held_first s p n m h k =
    let e : 64 - n ≡ 64 - m + (m - n) = omega arith in
    ap (λ (j : ℕ). held_bits s p m / 2 ^ j) e
    ∙ sym (shr-shr (held_bits s p m) (64 - m) (m - n))
    ∙ ap (λ (x : ℕ). x / 2 ^ (m - n)) (shl-shr (field_at s p m) (64 - m))
    ∙ field-first s p n m h

-- the same by two shifts, neither of them by the whole word
pub held_cut : (s : List ℕ) (p n m : ℕ) → n ≤ m → m ≤ 64 → n ≤ 63
    → held_bits s p m / 2 ^ 1 / 2 ^ (63 - n) ≡ field_at s p n
held_cut s p n m h k l =
    let e : 1 + (63 - n) ≡ 64 - n = omega arith in
    shr-shr (held_bits s p m) 1 (63 - n) ∙ ap (λ (j : ℕ). held_bits s p m / 2 ^ j) e ∙ held_first s p n m h k

-- a number of d digits after z zeros, moved up to the top of a word
counted : (z f m j d : ℕ) → z + d ≡ m → m + j ≡ 64 → f < 2 ^ d → 2 ^ d ≤ 2 * f + 1
    → min (count_leading_zeros 64 (f * 2 ^ j)) m ≡ z
counted z f m j zero e k h l =
    let none : f ≡ 0 = omega arith in
    let all : count_leading_zeros 64 (f * 2 ^ j) ≡ 64 = ap (λ (x : ℕ). count_leading_zeros 64 (x * 2 ^ j)) none
    ∙ ap (count_leading_zeros 64) (zero-mul (2 ^ j)) ∙ leading_of_zero 64 in
    omega arith
counted z f m j (suc d) e k h l =
    let even : 2 ^ suc d ≤ 2 * f = rw pow-suc (let odd : 2 ^ d * 2 ≤ 2 * f + 1 = rw pow-suc at l in omega arith) in
    let long : 2 ^ (suc d + j) ≤ 2 * (f * 2 ^ j) + 1 =
    rw (pow-add 2 (suc d) j) (omega (arith, mul-le-mul_right (2 ^ j) even, mul_assoc 2 f (2 ^ j)))
    in
    let is = leading_unique 64 (f * 2 ^ j) z (suc d + j) (omega arith) (shl_lt (suc d) j h) long in
    omega (arith, is)

-- the leading zeros of what is held are the tile's run of zeros; those below the bits held do not count
pub zeros_held : (s : List ℕ) (p m : ℕ) → m ≤ 64 → min (count_leading_zeros 64 (held_bits s p m)) m ≡ zeros_at s p m
zeros_held s p m h =
    let r = zeros_long s p m in
    counted (zeros_at s p m) (field_at s p m) m (64 - m) r.0 r.1 (omega arith) r.2 r.3

-- the zeros of the word at place p, of which 64 - p % 8 bits are the tile's
pub zeros_in_word : (s : List ℕ) (p word : ℕ) → word ≡ field_at s (p / 8 * 8) 64
    → min (count_leading_zeros 64 (word * 2 ^ (p % 8) % 2 ^ 64)) (64 - p % 8) ≡ zeros_at s p (64 - p % 8)
zeros_in_word s p word e =
    ap (λ (w : ℕ). min (count_leading_zeros 64 w) (64 - p % 8))
    (ap (λ (w : ℕ). w * 2 ^ (p % 8) % 2 ^ 64) e ∙ window_held s p)
    ∙ zeros_held s p (64 - p % 8) (omega arith)
