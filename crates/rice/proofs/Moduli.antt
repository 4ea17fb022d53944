-- Laws of whole numbers modulo m: sums, and a modulus that divides another. Assumes nothing.
use mathlib.Core.Path.{◌≡◌, refl, sym, ap, ◌∙◌}
use mathlib.Core.Bool.{Bool, true, false}
use Prim.Native.Nat.{ℕ, suc, ◌+◌, ◌-◌, ◌*◌, ◌/◌, ◌%◌, ◌^◌, ◌<◌}
use native.Mathlib.Nat.{add_comm, add-mul, one-mul, mul_assoc}
use native.Mathlib.Nat.{add-mod, mod-add-mod, add-mod-mod, mod-lt, mod-eq_of_lt, add-mul-mod_self_right, div-add-mod'}
use native.Mathlib.Omega.{arith}
use lib.Dec.{ltb}
use borrow.Author.Tests.{ltb-true, ltb-false}
use lib.IntN.{ℤ, pos, negsuc, sub_ℕ, ◌+ℤ◌}
use lib.Pow.{pow-add, pow_pos, mod-mod-pow}
use Rattle.rice.specs.Widths.{modulo}

-- what n and a multiple of m leave between them
complement : (n m : ℕ) → 0 < m → m - 1 - n % m + suc n ≡ (n / m + 1) * m
complement n m h = rw (add-mul (n / m) 1 m, one-mul m) (omega (arith, div-add-mod' n m, mod-lt n h))

-- numbers that make a multiple of m with a one between them
flip : (m d e j : ℕ) → 0 < m → d + suc e ≡ j * m → m - 1 - d % m ≡ e % m
flip m d e j h s =
    let sum : d + (e / m + 1) * m ≡ m - 1 - e % m + j * m = omega (arith, complement e m h) in
    let rest : d % m ≡ m - 1 - e % m =
    sym (add-mul-mod_self_right d (e / m + 1) m) ∙ ap (λ (n : ℕ). n % m) sum ∙ add-mul-mod_self_right (m - 1 - e % m) j m
    ∙ mod-eq_of_lt (omega (arith, mod-lt e h))
    in
    omega (arith, mod-lt e h)

-- a difference of two numbers, where c makes a multiple of m with the second
sub-modulo : (m x y c j : ℕ) → 0 < m → c + y ≡ j * m → modulo (sub_ℕ x y) m ≡ (x + c) % m
unfolding modulo
sub-modulo m x y c j h s = go (ltb x y) refl
  where
    go : (t : Bool) → ltb x y ≡ t → modulo (sub_ℕ x y) m ≡ (x + c) % m
    go true e = rw e (flip m (y - suc x) (x + c) j h (omega (arith, ltb-true x y e)))
    go false e =
        let sum : x - y + j * m ≡ x + c = omega (arith, ltb-false x y e) in
        rw e (sym (add-mul-mod_self_right (x - y) j m) ∙ ap (λ (n : ℕ). n % m) sum)

-- the sum of two numbers
pub modulo-add : (x y : ℤ) (m : ℕ) → 0 < m → modulo (x +ℤ y) m ≡ (modulo x m + modulo y m) % m
unfolding modulo
modulo-add (pos a) (pos b) m h = add-mod a b m
modulo-add (pos a) (negsuc b) m h =
    sub-modulo m a (suc b) (m - 1 - b % m) (b / m + 1) h (complement b m h) ∙ sym (mod-add-mod a m (m - 1 - b % m))
modulo-add (negsuc a) (pos b) m h =
    sub-modulo m b (suc a) (m - 1 - a % m) (a / m + 1) h (complement a m h)
    ∙ ap (λ (n : ℕ). n % m) (add_comm b (m - 1 - a % m)) ∙ sym (add-mod-mod (m - 1 - a % m) b m)
modulo-add (negsuc a) (negsuc b) m h =
    flip m (suc (a + b)) (m - 1 - a % m + (m - 1 - b % m)) (a / m + 1 + (b / m + 1)) h
    (rw (add-mul (a / m + 1) (b / m + 1) m) (omega (arith, complement a m h, complement b m h)))

-- a modulus 2 ^ k, after one that it divides
pub modulo_again : (z : ℤ) (j k : ℕ) → modulo z (2 ^ (j + k)) % 2 ^ k ≡ modulo z (2 ^ k)
unfolding modulo
modulo_again (pos n) j k = mod-mod-pow n j k
modulo_again (negsuc n) j k =
    let M = 2 ^ (j + k) in
    let many : (n / M + 1) * M ≡ (n / M + 1) * 2 ^ j * 2 ^ k = ap (λ (x : ℕ). (n / M + 1) * x) (pow-add 2 j k)
    ∙ sym (mul_assoc (n / M + 1) (2 ^ j) (2 ^ k)) in
    sym (flip (2 ^ k) n (M - 1 - n % M) ((n / M + 1) * 2 ^ j) (pow_pos k)
    (omega (arith, complement n M (pow_pos (j + k)), mod-lt n (pow_pos (j + k)), many)))

pub modulo_lt : (z : ℤ) (m : ℕ) → 0 < m → modulo z m < m
unfolding modulo
modulo_lt (pos n) m h = mod-lt n h
modulo_lt (negsuc n) m h = omega arith
