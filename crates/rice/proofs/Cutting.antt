-- Laws of code words that are cut out of one word: what the cut computes, several one after another, one after an FS field.
-- Assumes nothing.
use mathlib.Core.Path.{◌≡◌, refl, sym, ap, ap₂, subst, ◌∙◌}
use mathlib.Core.Logic.{⊎_elim}
use mathlib.Core.List.{List}
use Prim.Native.Nat.{ℕ, suc, ◌+◌, ◌-◌, ◌*◌, ◌/◌, ◌%◌, ◌^◌, ◌≤◌, ◌<◌}
use native.Mathlib.Nat.{mod-eq_of_lt, mod-eq-sub-mod, mul-le-mul, mul-le-mul_right, zero-mul, pow-suc, eq-zero-or-pos, pos_of_ne-zero}
use native.Mathlib.Omega.{arith}
use lib.Bits.{bit_and, bit_xor, and_mask, xor_add_and}
use lib.Count.{count_leading_zeros, leading_le, leading_length, leading_top}
use lib.Pow.{pow-add, pow_mono, shl-shr, shr_le, shr_lt, shr_mono}
use Rattle.rice.specs.Tile.{bits_in, field_at}
use Rattle.rice.specs.Widths.{fs_bits, fs_top}
use Rattle.rice.specs.Reads.{found, field_read, diff_read}
use Rattle.rice.specs.Held.{held_bits}
use Rattle.rice.specs.Words.{Told, Pair, Pairs, Single}
use Rattle.rice.specs.declared.width.Width.{Width}
use Rattle.rice.specs.declared.width.Code.TheVariants.{Same, Split}
use Rattle.rice.proofs.HeldBits.{held_shift, held_first}
use Rattle.rice.proofs.Wrapping.{sizes}
use Rattle.rice.proofs.FsCodes.{code_same, code_split}
use Rattle.rice.proofs.Reading.{field_found, word_read}

-- ---- what the code computes

-- from the number of the highest bit that is set
used_is : (n fs : ℕ) → n < 64 → fs ≤ 24 → 192 + fs - bit_xor n 63 ≡ 128 + (n + 1 + fs)
used_is n fs k l = let low : bit_and n 63 ≡ n % 64 = and_mask n 6 in omega (arith, xor_add_and n 63, low)

pub xor_small : (n : ℕ) → n ≤ 64 → bit_xor n 63 ≤ 127
xor_small n k = omega (arith, xor_add_and n 63)

-- the first bits of a number with its highest bit at place j, down to that of place j - fs: the highest is one of them
module _ (w j fs : ℕ) (h : fs ≤ j) where
  first-least : 2 ^ j ≤ w → 2 ^ fs ≤ w / 2 ^ (j - fs)
  first-least a =
      let all : j ≡ fs + (j - fs) = omega arith in
      let top : 2 ^ j / 2 ^ (j - fs) ≡ 2 ^ fs = ap (λ (n : ℕ). 2 ^ n / 2 ^ (j - fs)) all
      ∙ ap (λ (n : ℕ). n / 2 ^ (j - fs)) (pow-add 2 fs (j - fs)) ∙ shl-shr (2 ^ fs) (j - fs) in
      omega (arith, top, shr_mono (j - fs) a)

  first_rest : 2 ^ j ≤ w → w < 2 ^ suc j → w / 2 ^ (j - fs) ≡ 2 ^ fs + w / 2 ^ (j - fs) % 2 ^ fs
  first_rest a b =
      let x = w / 2 ^ (j - fs) in
      let all : suc j ≡ suc fs + (j - fs) = omega arith in
      let below : x < 2 ^ suc fs = shr_lt (suc fs) (j - fs) (rw all at b) in
      let twice : 2 ^ suc fs ≡ 2 ^ fs * 2 = pow-suc 2 fs in
      let least = first-least a in
      let rest : x % 2 ^ fs ≡ x - 2 ^ fs = mod-eq-sub-mod least ∙ mod-eq_of_lt (omega (arith, below, twice)) in
      omega (arith, rest, least)

-- the bits used and 128 more, and the bits of the code word from its one on
abbrev used_in : ℕ → ℕ → ℕ
used_in w most = most - bit_xor (count_leading_zeros 64 w) 63

abbrev one_in : ℕ → ℕ → ℕ
one_in w most = w / 2 ^ ((256 - used_in w most) % 64)

module _ (w fs most scale : ℕ) (k : w < 2 ^ 64) (l : fs ≤ 24) (d : most ≡ 192 + fs) (e : scale ≡ 2 ^ fs) where
  long-is : 0 < w → used_in w most ≡ 128 + (count_leading_zeros 64 w + 1 + fs)
  long-is o =
      let t = leading_top 64 w o k in
      ap (λ (m : ℕ). m - bit_xor (count_leading_zeros 64 w) 63) d ∙ used_is (count_leading_zeros 64 w) fs (omega (arith, t.1)) l

  pub product_small : count_leading_zeros 64 w * scale ≤ 2 ^ 30
  product_small = rw e (mul-le-mul {n₁ = count_leading_zeros 64 w} {n₂ = 64} (leading_le 64 w) (pow_mono l))

  -- a word with a one at its top has no zeros before it, any other is below 2 ^ 63
  pub sum_fits : one_in w most + count_leading_zeros 64 w * scale < 2 ^ 64
  sum_fits =
      let t = leading_length 64 w k in
      let less = shr_le w ((256 - used_in w most) % 64) in
      ⊎_elim
      (λ z. omega (arith, less, ap (λ (n : ℕ). n * scale) z ∙ zero-mul scale))
      (λ p. let below : w < 2 ^ 63 = omega (arith, t.2, pow_mono {i = t.0} {j = 63} (omega (arith, t.1))) in
      omega (arith, less, product_small))
      (eq-zero-or-pos (count_leading_zeros 64 w))

  pub scale_within : scale ≤ one_in w most + count_leading_zeros 64 w * scale
  scale_within =
      let t = leading_length 64 w k in
      ⊎_elim
      (λ z.
      let size : t.0 ≡ 64 = omega (arith, t.1, z) in
      let high : 2 ^ 64 ≤ 2 * w + 1 = rw size at t.3 in
      let cut : (256 - used_in w most) % 64 ≡ 63 - fs = omega (arith, long-is (omega (arith, high)), z) in
      let least : 2 ^ fs ≤ one_in w most = rw cut (first-least w 63 fs (omega arith) (omega arith)) in
      omega (arith, least, e))
      (λ p. omega (arith, mul-le-mul_right scale p))
      (eq-zero-or-pos (count_leading_zeros 64 w))

  number_is : 0 < w → used_in w most ≤ 185 → one_in w most + count_leading_zeros 64 w * scale - scale
      ≡ count_leading_zeros 64 w * 2 ^ fs + w / 2 ^ (64 - (used_in w most - 128)) % 2 ^ fs
  number_is o b =
      let t = leading_top 64 w o k in
      let u = long-is o in
      let cut : (256 - used_in w most) % 64 ≡ t.0 - fs = omega (arith, u, t.1, b) in
      let same : 64 - (used_in w most - 128) ≡ t.0 - fs = omega (arith, u, t.1, b) in
      let rest = first_rest w t.0 fs (omega (arith, u, t.1, b)) t.2 t.3 in
      rw (cut, same, e) (omega (arith, rest))

  pub word_told : Told w fs (one_in w most + count_leading_zeros 64 w * scale - scale)
      (used_in w most) (w * 2 ^ (used_in w most % 64) % 2 ^ 64)
  word_told =
      let x = xor_small (count_leading_zeros 64 w) (leading_le 64 w) in
      record {
        long = long-is;
        number = number_is;
        after = λ o b.
            let small : used_in w most % 64 ≡ used_in w most - 128 = omega (arith, long-is o, b) in
            ap (λ (n : ℕ). w * 2 ^ n % 2 ^ 64) small;
        none = λ z.
            ap (λ (n : ℕ). n * 2 ^ (used_in w most % 64) % 2 ^ 64) z
            ∙ ap (λ (n : ℕ). n % 2 ^ 64) (zero-mul (2 ^ (used_in w most % 64)));
        most = omega (arith, x, d);
        least = omega (arith, x, d);
      }

-- ---- what is told of a code word, where the word is what is held of a tile

module _ {w fs value used rest : ℕ} (t : Told w fs value used rest) where
  -- what a word leaves is not 0, so it is not 0 itself
  pub told-some : 0 < rest → 0 < w
  told-some h = pos_of_ne-zero (λ z. omega (arith, t.none z, h))

  pub told-least : 0 < w → 129 ≤ used
  told-least h = omega (arith, t.long h)

module _ (s : List ℕ) (p m fs : ℕ) {w value used rest : ℕ} (l : fs ≤ 24) (k : m ≤ 64) (h : p + m ≤ bits_in s)
    (e : w ≡ held_bits s p m) (o : 0 < w) (t : Told w fs value used rest) (a : used - 128 ≤ m) (b : used ≤ 185) where
  pub told-read : diff_read (Split fs) s p ≡ found value (p + (used - 128))
  told-read =
      let n = count_leading_zeros 64 w in
      let long : used - 128 ≡ n + 1 + fs = omega (arith, t.long o) in
      word_read s p n fs m (ap (count_leading_zeros 64) e) (omega (arith, long)) k h l
      ∙ ap₂ (λ (x u : ℕ). found (n * 2 ^ fs + x / 2 ^ (64 - u) % 2 ^ fs) (p + u)) (sym e) (sym long)
      ∙ ap (λ (x : ℕ). found x (p + (used - 128))) (sym (t.number o b))

  pub told-after : rest ≡ held_bits s (p + (used - 128)) (m - (used - 128))
  told-after = t.after o b ∙ ap (λ (x : ℕ). x * 2 ^ (used - 128) % 2 ^ 64) e ∙ held_shift s p m (used - 128) a k

-- two code words, the second out of what the first leaves
module _ (s : List ℕ) (p m fs : ℕ) {w x a y x' b z : ℕ} (l : fs ≤ 24) (k : m ≤ 64) (h : p + m ≤ bits_in s)
    (e : w ≡ held_bits s p m)
    (t : Told w fs x a y) (u : Told y fs x' b z) (o : 0 < y) (i : a + b ≤ 256 + m) (j : a + b ≤ 313) where
  bounds : (129 ≤ a) × (129 ≤ b)
  bounds = (told-least t (told-some t o), told-least u o)

  second : y ≡ held_bits s (p + (a - 128)) (m - (a - 128))
  second = told-after s p m fs l k h e (told-some t o) t (omega (arith, bounds)) (omega (arith, bounds))

  place : p + (a - 128) + (b - 128) ≡ p + (a + b) - 256
  place = omega (arith, bounds)

  pub pair_told : Pair s p fs x x' (p + (a + b) - 256)
  pair_told = record {
    middle = p + (a - 128);
    first = told-read s p m fs l k h e (told-some t o) t (omega (arith, bounds)) (omega (arith, bounds));
    second =
        told-read s (p + (a - 128)) (m - (a - 128)) fs l (omega arith) (omega (arith, bounds)) second o u
        (omega (arith, bounds)) (omega (arith, bounds))
        ∙ ap (found x') place;
  }

  pair_after : z ≡ held_bits s (p + (a + b) - 256) (m - (a + b - 256))
  pair_after =
      let less : m - (a - 128) - (b - 128) ≡ m - (a + b - 256) = omega (arith, bounds) in
      told-after s (p + (a - 128)) (m - (a - 128)) fs l (omega arith) (omega (arith, bounds)) second o u
      (omega (arith, bounds)) (omega (arith, bounds))
      ∙ ap₂ (λ (q n : ℕ). held_bits s q n) place less

-- four of them
module _ {fs v w x y z a b c d i j n o : ℕ} (t₁ : Told v fs i a w) (t₂ : Told w fs j b x) (t₃ : Told x fs n c y)
    (t₄ : Told y fs o d z)
    (some : 0 < y) where
  pub four_least : (129 ≤ a) × (129 ≤ b) × (129 ≤ c) × (129 ≤ d)
  four_least =
      let f = told-some t₃ some in
      let g = told-some t₂ f in
      (told-least t₁ (told-some t₁ g), told-least t₂ g, told-least t₃ f, told-least t₄ some)

  pub four_told : (s : List ℕ) (p m : ℕ) → fs ≤ 24 → m ≤ 64 → 57 ≤ m → p + m ≤ bits_in s → v ≡ held_bits s p m
      → a + b + c + d ≤ 569 → Pairs s p fs i j n o (p + (a + b + c + d) - 512)
  four_told s p m l k r h e few =
      let q = four_least in
      let g = told-some t₂ (told-some t₃ some) in
      let place : p + (a + b) - 256 + (c + d) - 256 ≡ p + (a + b + c + d) - 512 = omega (arith, q) in
      record {
        half = p + (a + b) - 256;
        one = pair_told s p m fs l k h e t₁ t₂ g (omega (arith, q)) (omega (arith, q));
        two =
            subst (Pair s (p + (a + b) - 256) fs n o) place
            (pair_told s (p + (a + b) - 256) (m - (a + b - 256)) fs l (omega arith) (omega (arith, q))
            (pair_after s p m fs l k h e t₁ t₂ g (omega (arith, q)) (omega (arith, q)))
            t₃ t₄ some (omega (arith, q)) (omega (arith, q)));
      }

-- ---- an FS field, and one code word after it

module _ (w : Width) (s : List ℕ) (p m n x : ℕ) (k : m ≤ 64) (r : 57 ≤ m) (h : p + m ≤ bits_in s) (e : x ≡ held_bits s p m)
    (size : n ≡ fs_bits w) where
  small : n ≤ 5
  small = omega (arith, size, (sizes w).field)

  head : field_read s p (fs_bits w) ≡ found (x / 2 ^ (64 - n)) (p + n)
  head =
      let is : x / 2 ^ (64 - n) ≡ field_at s p n =
      ap (λ (y : ℕ). y / 2 ^ (64 - n)) e ∙ held_first s p n m (omega (arith, small)) k in
      ap (field_read s p) (sym size) ∙ field_found s p n (omega (arith, small)) ∙ ap (λ (y : ℕ). found y (p + n)) (sym is)

  -- a block that is its FS field alone
  pub same-told : x / 2 ^ (64 - n) ≡ 0 → Single w s p 0 (p + n)
  unfolding diff_read
  same-told none = record {
    field = x / 2 ^ (64 - n);
    code = Same;
    start = p + n;
    head = head;
    known = code_same w (x / 2 ^ (64 - n)) none;
    read = refl;
  }

  pub one_told : (x / 2 ^ (64 - n) ≡ 0 → ⊥) → x / 2 ^ (64 - n) ≤ fs_top w → {value used rest : ℕ}
      → Told (x * 2 ^ n % 2 ^ 64) (x / 2 ^ (64 - n) - 1) value used rest → 0 < x * 2 ^ n % 2 ^ 64 → n + used ≤ 185
      → Single w s p value (p + (n + used) - 128)
  one_told some top {value} {used} {rest} t o few =
      let f = x / 2 ^ (64 - n) in
      let after : x * 2 ^ n % 2 ^ 64 ≡ held_bits s (p + n) (m - n) =
      ap (λ (y : ℕ). y * 2 ^ n % 2 ^ 64) e ∙ held_shift s p m n (omega (arith, small)) k in
      let least = told-least t o in
      let place : p + n + (used - 128) ≡ p + (n + used) - 128 = omega (arith, least) in
      record {
        field = f;
        code = Split (f - 1);
        start = p + n;
        head = head;
        known = code_split w f some top;
        read =
            told-read s (p + n) (m - n) (f - 1) (omega (arith, top, (sizes w).top)) (omega (arith, small)) (omega (arith, small)) after o t
            (omega (arith, least, small)) (omega (arith, small))
            ∙ ap (found value) place;
      }
