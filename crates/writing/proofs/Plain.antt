-- Logicals and numbers on their card.
use Rattle.std.specs.Prelude.{None, Some}
use Prim.Native.Char.{code}
use Prim.Native.Nat.{ℕ, suc, ◌+◌, ◌-◌, ◌^◌, ◌<◌, ◌≤◌}
use native.Mathlib.Omega.{arith}
use mathlib.Core.Path.{◌≡◌, refl, sym, ap, ◌∙◌}
use mathlib.Core.Bool.{Bool, true, false, true≢false, ◌&&◌}
use mathlib.Core.List.{List, [], ◌∷◌, ◌++◌, append_assoc, append-nil}
use borrow.Author.Tests.{leb-true, leb-false, le-leb, lt-leb, lt-ltb, ltb-true, ltb-false}
use lib.Dec.{ltb, leb}
use lib.IntN.{ℤ, pos, negsuc}
use lib.ListN.{length, take, length-append, length-replicate, length-take}
use lib.Seq.{sets, take_all}
use Rattle.laws.proofs.Truths.{and_false}
use mir.Syntax.{w64}
use mir.Val.{SFits}
use Rattle.text.specs.Text.{size, filled}
use Rattle.numbers.specs.declared.Size.TheVariants.{Finite, Infinite, Nan}
use Rattle.numbers.specs.declared.Value.{Value}
use Rattle.numbers.specs.declared.Value.TheVariants.{Integer, Float, Logical, String, Undefined, Invalid}
use Rattle.numerals.specs.Numerals.{minus_of, signed_digits}
use Rattle.roles.specs.Roles.{Comment}
use Rattle.writing.specs.Pieces.{tail_of}
use Rattle.writing.specs.Written.{name_front, justified, plain_text, plain_cards, truth_text, decimal_text}
use Rattle.writing.specs.Rules.{fits_card, is_short, is_text, is_long, is_significant, is_power, is_value}
use Rattle.writing.specs.Block.{flat}
use Rattle.writing.specs.Passes.{spaces, spaced, body_of, scale_of, put_where}
use Rattle.writing.proofs.Placing.{sets_then}
use Rattle.writing.proofs.Bodies.{name-card, front_length, body_length}

pub plain_length : (t : List ℕ) (c : Comment) → length (plain_text t c) ≡ 20 - length t + length t + length (tail_of c)
unfolding justified
plain_length t c = simp (length-append, length-replicate)

-- whether a number fits its card, as it is asked for
pub room_told : (t : List ℕ) (c : Comment) {own : List ℕ} {r : Bool} → own ≡ t
    → r ≡ leb (20 - length own + length own + length (tail_of c)) 70 → fits_card t c ≡ r
room_told t c e f =
    ap (λ (n : ℕ). leb n 70) (plain_length t c) ∙ sym (f ∙ ap (λ (l : List ℕ). leb (20 - length l + length l + length (tail_of c)) 70) e)

-- spaces, a number, a comment and spaces
pub number_put : (d t : List ℕ) (c : Comment) {d₁ d₂ d₃ : List ℕ} {start : ℕ} → start ≡ 10 + (20 - length t)
    → d₁ ≡ sets d 10 (spaces (start - 10)) → d₂ ≡ sets d₁ start t
    → d₃ ≡ sets d₂ (start + length t) (spaced (80 - (start + length t)) (tail_of c)) → d₃ ≡ sets d 10 (body_of (plain_text t c))
unfolding filled justified
number_put d t c {d₁} {d₂} {d₃} {start} place e f g =
    let m = 20 - length t in
    let k = 80 - (start + length t) in
    let n = length (tail_of c) in
    let margin : start - 10 ≡ m = omega arith in
    let wide : length (spaces m) ≡ m = length-replicate m (code " ") in
    let first : d₁ ≡ sets d 10 (spaces m) = e ∙ ap (λ (j : ℕ). sets d 10 (spaces j)) margin in
    let second : d₂ ≡ sets d 10 (spaces m ++ t) = sets_then d 10 (spaces m) t first (omega (arith, wide)) f in
    let there : start + length t ≡ 10 + length (spaces m ++ t) = omega (arith, length-append (spaces m) t, wide) in
    let room : k - n ≡ 70 - length ((spaces m ++ t) ++ tail_of c) =
    omega (arith, length-append (spaces m ++ t) (tail_of c), length-append (spaces m) t, wide) in
    sets_then d 10 (spaces m ++ t) (spaced k (tail_of c)) second there g
    ∙ ap (sets d 10)
    (sym (append_assoc (spaces m ++ t) (tail_of c) (spaces (k - n)))
    ∙ ap (λ (j : ℕ). ((spaces m ++ t) ++ tail_of c) ++ spaces j) room)

-- its card
pub plain_flat : (name t : List ℕ) (c : Comment) → length name ≤ 8
    → flat (plain_cards name t c) ≡ name_front name ++ body_of (plain_text t c)
unfolding flat
plain_flat name t c h = append-nil _ ∙ name-card name (plain_text t c) h

pub plain_bytes : (name t : List ℕ) (c : Comment) → length name ≤ 8 → fits_card t c ≡ true
    → length (flat (plain_cards name t c)) ≡ 80
plain_bytes name t c h e =
    let body = body_of (plain_text t c) in
    ap length (plain_flat name t c h)
    ∙ omega (
      arith,
      length-append (name_front name) body,
      front_length name h,
      body_length (plain_text t c) (leb-true (length (plain_text t c)) 70 e),
    )

-- a number that is longer than a card does not fit
pub long_over : (t : List ℕ) (c : Comment) → 70 < length t → fits_card t c ≡ false
long_over t c h = lt-leb (length (plain_text t c)) 70 (omega (arith, plain_length t c))

-- so its first 80 bytes tell as much
pub first_tell : (name t : List ℕ) (c : Comment) (block : List ℕ)
    → put_where (fits_card (take size t) c) (plain_cards name (take size t) c) block
    ≡ put_where (fits_card t c) (plain_cards name t c) block
unfolding put_where
first_tell name t c block = go (ltb 80 (length t)) refl
  where
    go : (u : Bool) → ltb 80 (length t) ≡ u
        → put_where (fits_card (take size t) c) (plain_cards name (take size t) c) block ≡ put_where (fits_card t c) (plain_cards name t c)
        block
    go true e =
        let long = ltb-true 80 (length t) e in
        let cut : 70 < length (take size t) = omega (arith, length-take size t) in
        rw (long_over (take size t) c cut, long_over t c (omega arith))
    go false e =
        ap (λ (l : List ℕ). put_where (fits_card l c) (plain_cards name l c) block) (take_all size t (ltb-false 80 (length t) e))

-- ---- decimals

-- the sign and the digits, and what stands behind them
pub decimal-is : (minus : Bool) (d : List ℕ) (power : ℤ) → decimal_text minus d power ≡ (minus_of minus ++ d) ++ scale_of d power
decimal-is minus [] power = sym (append_assoc (minus_of minus) [] (scale_of [] power))
decimal-is minus (b ∷ d) power = sym (append_assoc (minus_of minus) (b ∷ d) (scale_of (b ∷ d) power))

pub decimal_over : (minus : Bool) (d : List ℕ) (power : ℤ) (c : Comment) → 70 < length d
    → fits_card (decimal_text minus d power) c ≡ false
decimal_over minus d power c h =
    let front = minus_of minus ++ d in
    let long = ap length (decimal-is minus d power) in
    long_over (decimal_text minus d power) c (omega (arith, long, length-append front (scale_of d power), length-append (minus_of minus) d))

-- a decimal that may be written on no card
pub decimal_bad : (minus : Bool) (d : List ℕ) (power : ℤ) (c : Comment)
    → (leb (length d) 70 && (is_significant d && is_power d power)) ≡ false → is_value (Float minus (Finite power)) d c ≡ false
decimal_bad minus d power c e = go (leb (length d) 70) refl
  where
    go : (u : Bool) → leb (length d) 70 ≡ u → is_value (Float minus (Finite power)) d c ≡ false
    go true p =
        let odd : (is_significant d && is_power d power) ≡ false =
        sym (ap (λ (u : Bool). u && (is_significant d && is_power d power)) p) ∙ e in
        rw odd
    go false p =
        and_false
        (is_significant d && is_power d power)
        (fits_card (decimal_text minus d power) c)
        (decimal_over minus d power c (leb-false (length d) 70 p))

-- ---- the bytes of a comment

pub short_tail : (n : ℕ) (c : Comment) → is_short n c ≡ true → length (tail_of c) ≤ n + 2
short_tail n None e = omega arith
short_tail n (Some c) e = omega (arith, leb-true (length c) n e)

-- ---- by the kind of value

-- an integer of the code has 64 bits
pub is_long_lem : (z : ℤ) → SFits w64 z → is_long z ≡ true
is_long_lem (pos n) f = lt-ltb n (2 ^ 63) f.sfits
is_long_lem (negsuc n) f = le-leb (suc n) (2 ^ 63) f.sfits

-- a comment that is longer than a card stands beside no value
pub comment_over : (v : Value) (text : List ℕ) (c : Comment) → is_short 70 c ≡ false → is_value v text c ≡ false
comment_over v text None e = absurd (true≢false e)
comment_over v text (Some r) e = by v
  where
    long : 70 < length r
    long = leb-false (length r) 70 e

    over : (t : List ℕ) → fits_card t (Some r) ≡ false
    over t = lt-leb (length (plain_text t (Some r))) 70 (omega (arith, plain_length t (Some r), long))

    by : (v : Value) → is_value v text (Some r) ≡ false
    by (Integer z) = and_false (is_long z) (fits_card (signed_digits z) (Some r)) (over (signed_digits z))
    by (Float minus (Finite power)) =
        and_false
        (is_significant text && is_power text power)
        (fits_card (decimal_text minus text power) (Some r))
        (over (decimal_text minus text power))
    by (Float minus Infinite) = refl
    by (Float minus Nan) = refl
    by (Logical t) = over (truth_text t)
    by String = and_false (is_text text) (is_short 65 (Some r)) (lt-leb (length r) 65 (omega (arith, long)))
    by Undefined = refl
    by Invalid = refl

pub minus_length : (minus : Bool) → length (minus_of minus) ≤ 1
minus_length true = omega arith
minus_length false = omega arith
