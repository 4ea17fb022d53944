-- Laws of runs of zeros: where they end, how they go on, and how many digits stand after them. Assumes nothing.
use mathlib.Core.Path.{◌≡◌, refl, sym, ap, ◌∙◌}
use mathlib.Core.List.{List}
use Prim.Native.Nat.{◌-◌, ℕ, zero, suc, ◌+◌, ◌*◌, ◌^◌, ◌≤◌, ◌<◌, min}
use native.Mathlib.Nat.{add-zero, zero-add, suc-add, pow-suc, le_of_suc-le-suc, not-suc-le-zero, suc_inj}
use native.Mathlib.Numerals.{one-add}
use native.Mathlib.Omega.{arith}
use lib.Count.{under}
use Rattle.rice.specs.Tile.{bit_at, field_at, zeros_at}
use Rattle.rice.proofs.Fields.{bit_lt, field_lt, field_split}

-- the first m bits of a run are all zeros
under_all : (b t u m : ℕ) → suc m ≤ under b t → (m ≤ t → u ≡ m) → under b u ≡ suc m
under_all zero t u m h f = ap suc (f (le_of_suc-le-suc h))
under_all (suc b) t u m h f = absurd (not-suc-le-zero h)

pub zeros_all : (s : List ℕ) (p m n : ℕ) → m ≤ zeros_at s p n → zeros_at s p m ≡ m
unfolding zeros_at
zeros_all s p zero n h = refl
zeros_all s p (suc m) zero h = absurd (not-suc-le-zero h)
zeros_all s p (suc m) (suc n) h = under_all (bit_at s p) _ _ m h (zeros_all s (p + 1) m n)

-- a run that ends is known under any other bound
under_within : (b t u m n : ℕ) → under b t < suc n → (t < n → u ≡ min t m) → under b u ≡ min (under b t) (suc m)
under_within zero t u m n h f = let e = f (le_of_suc-le-suc h) in omega (arith, e)
under_within (suc b) t u m n h f = omega arith

pub zeros_within : (s : List ℕ) (p m n : ℕ) → zeros_at s p n < n → zeros_at s p m ≡ min (zeros_at s p n) m
unfolding zeros_at
zeros_within s p zero n h = omega arith
zeros_within s p (suc m) zero h = absurd (not-suc-le-zero h)
zeros_within s p (suc m) (suc n) h = under_within (bit_at s p) _ _ m n h (zeros_within s (p + 1) m n)

-- after a zeros the run goes on
under_on : (b t u a v : ℕ) → under b t ≡ suc a → (t ≡ a → u ≡ a + v) → under b u ≡ suc (a + v)
under_on zero t u a v e f = ap suc (f (suc_inj e))
under_on (suc b) t u a v e f = omega arith

pub zeros_on : (s : List ℕ) (p a j : ℕ) → zeros_at s p a ≡ a → zeros_at s p (a + j) ≡ a + zeros_at s (p + a) j
unfolding zeros_at
zeros_on s p zero j e = simp (zero-add, add-zero)
zeros_on s p (suc a) j e =
    let place : p + suc a ≡ p + 1 + a = omega arith in
    rw (suc-add a j, place, suc-add)
    (under_on (bit_at s p) _ _ a _ e (zeros_on s (p + 1) a j))

-- the first bit stands above the others
field_top : (s : List ℕ) (p n : ℕ) → field_at s p (suc n) ≡ bit_at s p * 2 ^ n + field_at s (p + 1) n
unfolding field_at
field_top s p n =
    let first : field_at s p 1 ≡ bit_at s p = rw add-zero (omega arith) in
    ap (field_at s p) (sym (one-add n)) ∙ field_split s p 1 n ∙ rw first

-- the number of the bits after a run of z zeros: as many as it has digits
abbrev pub Long : (z f n : ℕ) → Type 0
Long z f n = (m : ℕ) × (z + m ≡ n) × (f < 2 ^ m) × (2 ^ m ≤ 2 * f + 1)

long_under : (b t f n : ℕ) → b < 2 → f < 2 ^ n → Long t f n → Long (under b t) (b * 2 ^ n + f) (suc n)
long_under zero t f n h l r = (r.0, (omega arith), (omega (arith, r.2)), omega (arith, r.3))
long_under (suc zero) t f n h l r = (suc n, zero-add (suc n), rw pow-suc (omega arith), rw pow-suc (omega arith))
long_under (suc (suc b)) t f n h l r = absurd (omega arith)

pub zeros_long : (s : List ℕ) (p n : ℕ) → Long (zeros_at s p n) (field_at s p n) n
unfolding zeros_at field_at
zeros_long s p zero = (0, refl, omega arith, omega arith)
zeros_long s p (suc n) =
    rw field_top (long_under (bit_at s p) _ _ n (bit_lt s p) (field_lt s (p + 1) n) (zeros_long s (p + 1) n))

-- k bits are passed, and all of them are 0
pub record Passed (s : List ℕ) (p n k : ℕ) : Type 0 where
  pub few : k ≤ n + 64
  pub zeros : zeros_at s p k ≡ k

-- with z the leading zeros of the word at p + k, of which `held` bits are the tile's
module _ (s : List ℕ) (p n k held z : ℕ) (i : Passed s p n k) (l : k < n) (e : min z held ≡ zeros_at s (p + k) held) where
  pub zeros_end : z < held → min (k + z) n ≡ zeros_at s p n
  zeros_end h =
      let left : n ≡ k + (n - k) = omega arith in
      let on : zeros_at s p n ≡ k + zeros_at s (p + k) (n - k) = ap (zeros_at s p) left ∙ zeros_on s p k (n - k) i.zeros in
      omega (arith, on, e, zeros_within s (p + k) (n - k) held (omega arith))

  pub zeros_pass : held ≤ 64 → held ≤ z → Passed s p n (k + held)
  zeros_pass f h = record { few = omega (arith, l); zeros = omega (arith, e, zeros_on s p k held i.zeros) }
