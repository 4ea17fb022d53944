-- The digits of a number: how many there are, and how they are put into an array from its end on.
use Prim.Native.Nat.{ℕ, zero, suc, ◌+◌, ◌-◌, ◌*◌, ◌/◌, ◌%◌, ◌^◌, ◌<◌, ◌≤◌}
use native.Mathlib.Nat.{pow-suc}
use native.Mathlib.Omega.{arith}
use mathlib.Core.Path.{◌≡◌, refl, sym, ap, subst, ◌∙◌}
use mathlib.Core.Bool.{Bool, true, false, cond}
use mathlib.Core.List.{List, [], ◌∷◌, ◌++◌}
use borrow.Author.Tests.{lt-ltb, le-ltb, ltb-false}
use lib.Dec.{ltb}
use lib.IntN.{ℤ, pos, negsuc}
use mir.Syntax.{w64}
use mir.Val.{SFits}
use lib.ListN.{length, set, take, drop, length-append, length-set, length-drop}
use lib.Seq.{drop-cons, get_or-set_same, drop-set-lt}
use Rattle.text.specs.declared.Text.{Text}
use Rattle.text.specs.Text.{size, text_of, bytes_of}
use Rattle.text.proofs.Texts.{whole-text, text-bytes}
use Rattle.numerals.specs.Numerals.{digit_byte, digits_before, decimal_digits, signed_digits}

-- the power of ten above a number of two digits or more
room_less : (at left : ℕ) → 1 ≤ at → 10 ≤ left → left < 10 ^ at → (2 ≤ at) × (left / 10 < 10 ^ (at - 1))
room_less zero left some h room = absurd (omega arith)
room_less (suc zero) left some h room = absurd (omega arith)
room_less (suc (suc a)) left some h room =
    let p : 10 ^ suc (suc a) ≡ 10 ^ suc a * 10 = pow-suc 10 (suc a) in
    let q : suc (suc a) - 1 ≡ suc a = omega arith in
    (omega arith, rw q (omega arith))

-- ---- how many digits there are

-- a number has a digit
abbrev pub Some : List ℕ → Type 0
Some l = (b : ℕ) × (rest : List ℕ) × (l ≡ b ∷ rest)

some-before : (more n b : ℕ) (v : List ℕ) → Some (digits_before more n (b ∷ v))
unfolding digits_before
some-before zero n b v = (b, v, refl)
some-before (suc more) n b v = go (ltb n 10) (some-before more (n / 10) (digit_byte (n % 10)) (b ∷ v))
  where
    go : (t : Bool) → Some (digits_before more (n / 10) (digit_byte (n % 10) ∷ b ∷ v))
        → Some (cond t (digit_byte n ∷ b ∷ v) (digits_before more (n / 10) (digit_byte (n % 10) ∷ b ∷ v)))
    go true e = (digit_byte n, b ∷ v, refl)
    go false e = e

pub some-digits : (n : ℕ) → Some (decimal_digits n)
unfolding digits_before decimal_digits
some-digits n = go (ltb n 10) (some-before n (n / 10) (digit_byte (n % 10)) [])
  where
    go : (t : Bool) → Some (digits_before n (n / 10) (digit_byte (n % 10) ∷ []))
        → Some (cond t (digit_byte n ∷ []) (digits_before n (n / 10) (digit_byte (n % 10) ∷ [])))
    go true e = (digit_byte n, [], refl)
    go false e = e

-- a number below a power of ten has no more digits than the power
few-before : (more n at : ℕ) (v : List ℕ) → 1 ≤ at → n < 10 ^ at → length (digits_before more n v) ≤ at + length v
unfolding digits_before
few-before zero n at v some room = omega arith
few-before (suc more) n at v some room =
    go (ltb n 10) refl (λ more-than. few-before more (n / 10) (at - 1) (digit_byte (n % 10) ∷ v) more-than.0 more-than.1)
  where
    go : (t : Bool) → ltb n 10 ≡ t
        → let front = digits_before more (n / 10) (digit_byte (n % 10) ∷ v) in
        ((1 ≤ at - 1) × (n / 10 < 10 ^ (at - 1)) → length front ≤ at - 1 + suc (length v))
        → length (cond t (digit_byte n ∷ v) front) ≤ at + length v
    go true e later = omega arith
    go false e later =
        let r = room_less at n some (ltb-false n 10 e) room in
        omega (arith, later (omega arith, r.1), r.0)

pub few-digits : (n : ℕ) → n < 2 ^ 64 → length (decimal_digits n) ≤ 20
unfolding decimal_digits
few-digits n h = few-before (suc n) n 20 [] (omega arith) (omega arith)

pub few_signed : (z : ℤ) → SFits w64 z → length (signed_digits z) ≤ 21
few_signed (pos n) f = omega (arith, few-digits n (omega (arith, f.sfits)))
few_signed (negsuc n) f = omega (arith, few-digits (suc n) (omega (arith, f.sfits)))

-- so many digits are told in no more turns than the power
few_turns : (at more n : ℕ) (v : List ℕ) → 1 ≤ at → n < 10 ^ at → n < more → digits_before more n v ≡ digits_before at n v
unfolding digits_before
few_turns zero more n v some room enough = absurd (omega arith)
few_turns (suc at) zero n v some room enough = absurd (omega arith)
few_turns (suc at) (suc more) n v some room enough =
    go (ltb n 10) refl (λ h. few_turns at more (n / 10) (digit_byte (n % 10) ∷ v) h.0 h.1.0 h.1.1)
  where
    go : (t : Bool) → ltb n 10 ≡ t
        → ((1 ≤ at) × ((n / 10 < 10 ^ at) × (n / 10 < more))
        → digits_before more (n / 10) (digit_byte (n % 10) ∷ v) ≡ digits_before at (n / 10) (digit_byte (n % 10) ∷ v))
        → cond t (digit_byte n ∷ v) (digits_before more (n / 10) (digit_byte (n % 10) ∷ v))
        ≡ cond t (digit_byte n ∷ v) (digits_before at (n / 10) (digit_byte (n % 10) ∷ v))
    go true e later = refl
    go false e later =
        let big = ltb-false n 10 e in
        let r = room_less (suc at) n some big room in
        let less : suc at - 1 ≡ at = omega arith in
        later (omega arith, (subst (λ (k : ℕ). n / 10 < 10 ^ k) less r.1, omega arith))

pub digits-told : (at n : ℕ) → 1 ≤ at → n < 10 ^ at → decimal_digits n ≡ digits_before at n []
unfolding decimal_digits
digits-told at n some room = few_turns at (suc n) n [] some room (omega arith)

-- bytes in front of a text that holds v
pub text-before : {t : Text} (a v : List ℕ) → t ≡ text_of v → length a + length v ≤ size
    → text_of (take size (a ++ bytes_of t)) ≡ text_of (a ++ v)
text-before a v e h =
    ap (λ (l : List ℕ). text_of (take size (a ++ l))) (text-bytes v e) ∙ whole-text (a ++ v) (omega (arith, length-append a v))

-- ---- digits in an array

-- a byte stored in front of a rest
front-set : (l : List ℕ) (i b : ℕ) → i < length l → drop i (set l i b) ≡ b ∷ drop (suc i) l
front-set l i b h =
    let long : length (set l i b) ≡ length l = simp length-set in
    drop-cons (set l i b) i 0 (omega arith)
    ∙ ap (λ (x : ℕ). x ∷ drop (suc i) (set l i b)) (get_or-set_same l i b 0 h)
    ∙ ap (λ (t : List ℕ). b ∷ t) (drop-set-lt (suc i) l i b (omega arith))

-- the digits of n: those from place `at` on stand in the array, those of `left` are to come
pub record Going (n : ℕ) (bytes : List ℕ) (at left : ℕ) : Type 0 where
  pub more : ℕ
  pub enough : left < more
  pub long : length bytes ≡ 20
  pub within : at ≤ 20
  pub some : 1 ≤ at
  pub room : left < 10 ^ at
  pub done : digits_before more left (drop at bytes) ≡ decimal_digits n

pub begins : (n : ℕ) (bytes : List ℕ) → n < 2 ^ 64 → length bytes ≡ 20 → drop 20 bytes ≡ [] → Going n bytes 20 n
unfolding decimal_digits
begins n bytes small long e =
    record {
      more = suc n;
      enough = omega arith;
      long = long;
      within = omega arith;
      some = omega arith;
      room = omega arith;
      done = ap (digits_before (suc n) n) e;
    }

module _ {n : ℕ} {bytes : List ℕ} {at left : ℕ} (g : Going n bytes at left) where
  -- one turn of the definition
  fewer : suc (g.more - 1) ≡ g.more
  fewer = omega arith

  -- a digit stored in front of the others
  stored : (d : ℕ) → drop (at - 1) (set bytes (at - 1) d) ≡ d ∷ drop at bytes
  stored d =
      let next : suc (at - 1) ≡ at = omega arith in
      front-set bytes (at - 1) d (omega arith) ∙ ap (λ (k : ℕ). d ∷ drop k bytes) next

  pub goes_on : 10 ≤ left → Going n (set bytes (at - 1) (digit_byte (left % 10))) (at - 1) (left / 10)
  unfolding digits_before
  goes_on h =
      let r = room_less at left g.some h g.room in
      let d = digit_byte (left % 10) in
      let turn : digits_before (suc (g.more - 1)) left (drop at bytes) ≡ digits_before (g.more - 1) (left / 10) (d ∷ drop at bytes) =
      rw (le-ltb left 10 h) in
      record {
        more = g.more - 1;
        enough = omega arith;
        long = simp length-set g.long;
        within = omega arith;
        some = omega arith;
        room = r.1;
        done = ap (digits_before (g.more - 1) (left / 10)) (stored d) ∙ sym turn
            ∙ ap (λ (k : ℕ). digits_before k left (drop at bytes)) fewer ∙ g.done;
      }

  pub ends : left < 10 → drop (at - 1) (set bytes (at - 1) (digit_byte left)) ≡ decimal_digits n
  unfolding digits_before
  ends h =
      let turn : digits_before (suc (g.more - 1)) left (drop at bytes) ≡ digit_byte left ∷ drop at bytes = rw (lt-ltb left 10 h) in
      stored (digit_byte left) ∙ sym turn ∙ ap (λ (k : ℕ). digits_before k left (drop at bytes)) fewer ∙ g.done

-- the end of the array, as a text
pub whole-end : (l w : List ℕ) (i : ℕ) → length l ≡ 20 → drop i l ≡ w → text_of (take size (drop i l)) ≡ text_of w
whole-end l w i long e = whole-text (drop i l) (omega (arith, length-drop i l)) ∙ ap text_of e
