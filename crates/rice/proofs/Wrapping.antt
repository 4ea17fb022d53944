-- What holds at each width: its sizes, a pixel and its bits, the pixel that follows, pixels counted from the lowest one. Assumes nothing.
use mathlib.Core.Path.{◌≡◌, refl, sym, ap, ap₂, ◌∙◌}
use mathlib.Core.Bool.{Bool, true, false}
use Prim.Native.Nat.{ℕ, suc, ◌+◌, ◌-◌, ◌*◌, ◌/◌, ◌%◌, ◌^◌, ◌≤◌, ◌<◌}
use native.Mathlib.Omega.{arith}
use native.Mathlib.Nat.{mod-lt, mod-eq_of_lt, mod-eq-sub-mod, add-mod-mod, mod-add-mod, pos_of_ne-zero}
use borrow.Author.Tests.{lt-ltb, le-ltb, ltb-true, ltb-false, eq-eqb, ne_eqb}
use lib.Dec.{ltb, lit≤}
use lib.Bits.{bit_and, and_mask}
use lib.IntN.{ℤ, pos, negsuc, ◌+ℤ◌, +ℤ_idr}
use lib.Pow.{pow_pos}
use Rattle.rice.specs.Widths.{bits_of, fs_bits, fs_top, start_bytes, positives, pixel_of, in_width, modulo, wrap, difference, following}
use Rattle.rice.specs.Filling.{raised}
use Rattle.rice.specs.declared.width.Width.{Width}
use Rattle.rice.specs.declared.width.Width.TheVariants.{Eight, Sixteen, ThirtyTwo}
use Rattle.rice.proofs.Signs.{minus_pos, minus_neg}
use Rattle.rice.proofs.Moduli.{modulo-add, modulo_again}

-- what is fixed by a width, in bounds
pub record Sizes (w : Width) : Type 0 where
  pub some : positives w ≤ 2 ^ bits_of w
  pub low : positives w ≤ 2 ^ 31
  pub start : start_bytes w * 8 ≡ bits_of w
  pub high : 2 ^ bits_of w ≤ positives w + 2 ^ 31
  pub all : 2 ^ bits_of w ≤ 2 ^ 32
  pub width : bits_of w ≤ 32
  pub least : 8 ≤ bits_of w
  pub top : fs_top w ≤ 25
  pub field : fs_bits w ≤ 5

made : (w : Width) → positives w ≤ 2 ^ bits_of w → positives w ≤ 2 ^ 31 → start_bytes w * 8 ≡ bits_of w
    → 2 ^ bits_of w ≤ positives w + 2 ^ 31 → 2 ^ bits_of w ≤ 2 ^ 32 → bits_of w ≤ 32 → 8 ≤ bits_of w
    → fs_top w ≤ 25 → fs_bits w ≤ 5 → Sizes w
made w a b c d e f l g h = record {
  some = a;
  low = b;
  start = c;
  high = d;
  all = e;
  width = f;
  least = l;
  top = g;
  field = h;
}

pub sizes : (w : Width) → Sizes w
sizes Eight = made Eight (lit≤ tt) (lit≤ tt) refl (lit≤ tt) (lit≤ tt) (lit≤ tt) (lit≤ tt) (lit≤ tt) (lit≤ tt)
sizes Sixteen = made Sixteen (lit≤ tt) (lit≤ tt) refl (lit≤ tt) (lit≤ tt) (lit≤ tt) (lit≤ tt) (lit≤ tt) (lit≤ tt)
sizes ThirtyTwo = made ThirtyTwo (lit≤ tt) (lit≤ tt) refl (lit≤ tt) (lit≤ tt) (lit≤ tt) (lit≤ tt) (lit≤ tt) (lit≤ tt)

-- ---- a pixel and its bits

module _ (w : Width) (v : ℕ) where
  pub pixel_low : v < positives w → pixel_of w v ≡ pos v
  unfolding pixel_of
  pixel_low h = rw (lt-ltb v (positives w) h)

  pub pixel_high : positives w ≤ v → v < 2 ^ bits_of w → pixel_of w v ≡ negsuc (2 ^ bits_of w - suc v)
  unfolding pixel_of
  pixel_high h k = rw (le-ltb v (positives w) h) (minus_neg v (2 ^ bits_of w) k)

  -- the bits of a pixel are the pixel modulo 2 ^ width
  pixel_back : v < 2 ^ bits_of w → (t : Bool) → ltb v (positives w) ≡ t → modulo (pixel_of w v) (2 ^ bits_of w) ≡ v
  unfolding modulo
  pixel_back h true e = ap (λ (z : ℤ). modulo z (2 ^ bits_of w)) (pixel_low (ltb-true v (positives w) e)) ∙ mod-eq_of_lt h
  pixel_back h false e =
      let some : 2 ^ bits_of w - suc v < 2 ^ bits_of w = omega arith in
      ap (λ (z : ℤ). modulo z (2 ^ bits_of w)) (pixel_high (ltb-false v (positives w) e) h)
      ∙ ap (λ (n : ℕ). 2 ^ bits_of w - 1 - n) (mod-eq_of_lt some) ∙ omega arith

  pub pixel_modulo : v < 2 ^ bits_of w → modulo (pixel_of w v) (2 ^ bits_of w) ≡ v
  pixel_modulo h = pixel_back h (ltb v (positives w)) refl

-- a pixel of the width is the one with its bits
pub in_width_lem : (w : Width) (z : ℤ) → in_width w z ≡ true → pixel_of w (modulo z (2 ^ bits_of w)) ≡ z
unfolding in_width modulo
in_width_lem w (pos n) h =
    let low : n < positives w = ltb-true n (positives w) h in
    ap (pixel_of w) (mod-eq_of_lt (omega (arith, (sizes w).some))) ∙ pixel_low w n low
in_width_lem w (negsuc n) h =
    let few : n < 2 ^ bits_of w - positives w = ltb-true n (2 ^ bits_of w - positives w) h in
    let rest : n % 2 ^ bits_of w ≡ n = mod-eq_of_lt (omega arith) in
    ap (λ (k : ℕ). pixel_of w (2 ^ bits_of w - 1 - k)) rest ∙ pixel_high w (2 ^ bits_of w - 1 - n) (omega arith) (omega arith)
    ∙ ap negsuc (omega arith)

-- 32 bits and the bits of a width
pub modulo_width : (w : Width) (z : ℤ) → modulo z (2 ^ 32) % 2 ^ bits_of w ≡ modulo z (2 ^ bits_of w)
modulo_width w z =
    let all : 32 ≡ 32 - bits_of w + bits_of w = omega (arith, (sizes w).width) in
    ap (λ (n : ℕ). modulo z (2 ^ n) % 2 ^ bits_of w) all ∙ modulo_again z (32 - bits_of w) (bits_of w)

-- the running sum in the integers, wrapped, is the sum of residues
pub following_bits : (w : Width) (v u : ℕ) → v < 2 ^ bits_of w
    → pixel_of w ((v + modulo (difference u) (2 ^ 32)) % 2 ^ bits_of w) ≡ following w (pixel_of w v) u
unfolding wrap
following_bits w v u h =
    let M = 2 ^ bits_of w in
    ap (pixel_of w)
    (sym (modulo-add (pixel_of w v) (difference u) M (pow_pos (bits_of w))
    ∙ ap₂ (λ (a b : ℕ). (a + b) % M) (pixel_modulo w v h) (sym (modulo_width w (difference u)))
    ∙ add-mod-mod v (modulo (difference u) (2 ^ 32)) M))

-- a difference of 0 leaves a pixel of the width
pub following-none : (w : Width) (z : ℤ) → in_width w z ≡ true → following w z 0 ≡ z
unfolding wrap difference
following-none w z h = ap (λ (x : ℤ). pixel_of w (modulo x (2 ^ bits_of w))) (+ℤ_idr z) ∙ in_width_lem w z h

-- ---- the difference that u means, modulo 2 ^ 32

pub unmapped_even : (u : ℕ) → u % 2 ≡ 0 → u < 2 ^ 32 → u / 2 ≡ modulo (difference u) (2 ^ 32)
unfolding difference modulo
unmapped_even u h b = rw (eq-eqb (u % 2) 0 h) (sym (mod-eq_of_lt (omega arith)))

pub unmapped_odd : (u : ℕ) → (u % 2 ≡ 0 → ⊥) → u < 2 ^ 32 → 2 ^ 32 - 1 - u / 2 ≡ modulo (difference u) (2 ^ 32)
unfolding difference modulo
unmapped_odd u h b =
    let odd : 0 < u % 2 = pos_of_ne-zero h in
    let half : (u + 1) / 2 ≡ suc (u / 2) = omega arith in
    rw (ne_eqb (u % 2) 0 h, half) (ap (λ (n : ℕ). 2 ^ 32 - 1 - n) (sym (mod-eq_of_lt (omega arith))))

-- ---- by what the code computes

-- a mask of the width's bits
pub and_width : (w : Width) (n mask : ℕ) → mask + 1 ≡ 2 ^ bits_of w → bit_and n mask ≡ n % 2 ^ bits_of w
and_width w n mask e = ap (bit_and n) (omega arith) ∙ and_mask n (bits_of w)

pub and_width_lt : (w : Width) (n mask : ℕ) → mask + 1 ≡ 2 ^ bits_of w → bit_and n mask < 2 ^ bits_of w
and_width_lt w n mask e = rw (and_width w n mask e) (mod-lt n (pow_pos (bits_of w)))

-- ---- a pixel counted from the lowest one

module _ (w : Width) where
  -- the pixel with the bits that are so many above those of the lowest one
  raised_bits : (n : ℕ) → n < 2 ^ bits_of w → raised w n ≡ pixel_of w ((n + positives w) % 2 ^ bits_of w)
  raised_bits n h = go (ltb n (2 ^ bits_of w - positives w)) refl
    where
      go : (t : Bool) → ltb n (2 ^ bits_of w - positives w) ≡ t → raised w n ≡ pixel_of w ((n + positives w) % 2 ^ bits_of w)
      go true e =
          let low : n < 2 ^ bits_of w - positives w = ltb-true n (2 ^ bits_of w - positives w) e in
          let turned : (n + positives w) % 2 ^ bits_of w ≡ n + positives w = mod-eq_of_lt (omega arith) in
          minus_neg n (2 ^ bits_of w - positives w) low ∙ ap negsuc (omega arith)
          ∙ sym (ap (pixel_of w) turned ∙ pixel_high w (n + positives w) (omega arith) (omega arith))
      go false e =
          let high : 2 ^ bits_of w - positives w ≤ n = ltb-false n (2 ^ bits_of w - positives w) e in
          let turned : (n + positives w) % 2 ^ bits_of w ≡ n + positives w - 2 ^ bits_of w =
          mod-eq-sub-mod (omega (arith, sizes w)) ∙ mod-eq_of_lt (omega (arith, sizes w)) in
          minus_pos n (2 ^ bits_of w - positives w) high ∙ ap pos (omega (arith, sizes w))
          ∙ sym (ap (pixel_of w) turned ∙ pixel_low w (n + positives w - 2 ^ bits_of w) (omega (arith, sizes w)))

  -- the running sum, counted from the lowest pixel
  pub raised-following : (n u : ℕ) → n < 2 ^ bits_of w
      → raised w ((n + modulo (difference u) (2 ^ 32)) % 2 ^ bits_of w) ≡ following w (raised w n) u
  raised-following n u h =
      let M = 2 ^ bits_of w in
      let d = modulo (difference u) (2 ^ 32) in
      let v = (n + positives w) % M in
      let same : ((n + d) % M + positives w) % M ≡ (v + d) % M =
      mod-add-mod (n + d) M (positives w) ∙ ap (λ (k : ℕ). k % M) (omega arith) ∙ sym (mod-add-mod (n + positives w) M d) in
      raised_bits ((n + d) % M) (mod-lt (n + d) (pow_pos (bits_of w))) ∙ ap (pixel_of w) same
      ∙ following_bits w v u (mod-lt (n + positives w) (pow_pos (bits_of w)))
      ∙ ap (λ (z : ℤ). following w z u) (sym (raised_bits n h))

  module _ (below : ℕ) (b : below + positives w ≡ 2 ^ bits_of w) where
    -- the bits of a pixel, turned so that they count from the lowest one
    pub turned_raised : (v : ℕ) → v < 2 ^ bits_of w → raised w ((v + below) % 2 ^ bits_of w) ≡ pixel_of w v
    turned_raised v h =
        let M = 2 ^ bits_of w in
        let back : ((v + below) % M + positives w) % M ≡ v =
        mod-add-mod (v + below) M (positives w) ∙ ap (λ (k : ℕ). k % M) (omega arith) ∙ mod-eq-sub-mod {n = v + M} (omega arith)
        ∙ ap (λ (k : ℕ). k % M) (omega arith) ∙ mod-eq_of_lt h
        in
        raised_bits ((v + below) % M) (mod-lt (v + below) (pow_pos (bits_of w))) ∙ ap (pixel_of w) back

    -- a pixel of the width, counted from the lowest one
    pub record Level (z : ℤ) : Type 0 where
      pub level : ℕ
      pub small : level < 2 ^ bits_of w
      pub is : raised w level ≡ z
      pub sum : z +ℤ pos below ≡ pos level

    pub level_in : (z : ℤ) → in_width w z ≡ true → Level z
    unfolding in_width
    level_in (pos k) h =
        let low : k < positives w = ltb-true k (positives w) h in
        record {
          level = k + below;
          small = omega arith;
          is = minus_pos (k + below) (2 ^ bits_of w - positives w) (omega arith) ∙ ap pos (omega arith);
          sum = refl;
        }
    level_in (negsuc k) h =
        let few : k < 2 ^ bits_of w - positives w = ltb-true k (2 ^ bits_of w - positives w) h in
        let over : suc k ≤ below = omega arith in
        record {
          level = below - suc k;
          small = omega arith;
          is = minus_neg (below - suc k) (2 ^ bits_of w - positives w) (omega arith) ∙ ap negsuc (omega arith);
          sum = rw (le-ltb below (suc k) over);
        }
