-- The digits that are written, and their sign, as they are read.
use Prim.Native.Nat.{ℕ, zero, suc, ◌/◌, ◌%◌, ◌<◌, ◌≤◌}
use Prim.Native.Char.{code}
use native.Mathlib.Omega.{arith}
use mathlib.Core.Path.{◌≡◌, refl, sym, ap, subst, ◌∙◌}
use mathlib.Core.Bool.{Bool, true, false, cond, ◌&&◌}
use mathlib.Core.List.{List, [], ◌∷◌, ◌++◌}
use borrow.Author.Tests.{ne_eqb, le-leb, leb-true, ltb-true}
use lib.Dec.{eqb, leb, ltb}
use Rattle.std.proofs.lemmas.Bool.{or_right}
use Rattle.laws.proofs.Truths.{and_both}
use Rattle.text.specs.Bytes.{is_digit, every}
use Rattle.text.specs.Trim.{trim_start}
use Rattle.numbers.specs.Signs.{is_sign, is_negative, unsigned}
use Rattle.numbers.specs.Digits.{is_digits}
use Rattle.numerals.specs.Numerals.{digit_byte, digits_before, decimal_digits, minus_of}
use Rattle.numerals.proofs.Decimals.{some-digits}
use Rattle.value.specs.Values.{starts_number, start_of}
use Rattle.writing.specs.Rules.{is_name_byte}
use Rattle.rereading.proofs.Endings.{every_first, every_rest, every_weaker}
use Rattle.rereading.proofs.Plain.{Figures, figures}
use Rattle.value.specs.declared.Start.TheVariants.{Number as Numeric}

digit_here : (n : ℕ) → n < 10 → is_digit (digit_byte n) ≡ true
unfolding is_digit
digit_here n h = rw (le-leb (code "0") (digit_byte n) (omega arith), le-leb (digit_byte n) (code "9") (omega arith))

before-digits : (m n : ℕ) (v : List ℕ) → every is_digit v ≡ true → every is_digit (digits_before m n v) ≡ true
unfolding digits_before every
before-digits zero n v e = e
before-digits (suc m) n v e =
    go (ltb n 10) refl (before-digits m (n / 10) (digit_byte (n % 10) ∷ v) (rw (digit_here (n % 10) (omega arith)) e))
  where
    go : (t : Bool) → ltb n 10 ≡ t → every is_digit (digits_before m (n / 10) (digit_byte (n % 10) ∷ v)) ≡ true
        → every is_digit (cond t (digit_byte n ∷ v) (digits_before m (n / 10) (digit_byte (n % 10) ∷ v))) ≡ true
    go true x later = rw (digit_here n (ltb-true n 10 x)) e
    go false x later = later

-- a digit or more, and nothing else
pub data Digital : List ℕ → Type 0 where
  digital : {b : ℕ} {s : List ℕ} → is_digit b ≡ true → every is_digit s ≡ true → Digital (b ∷ s)

digital_all : (b : ℕ) (s : List ℕ) → every is_digit (b ∷ s) ≡ true → Digital (b ∷ s)
digital_all b s e = digital (every_first is_digit b s e) (every_rest is_digit b s e)

-- the digits that are written are such
pub digital_written : (n : ℕ) → Digital (decimal_digits n)
unfolding decimal_digits every
digital_written n =
    let (b, s, e) = some-digits n in
    subst Digital (sym e) (digital_all b s (ap (every is_digit) (sym e) ∙ before-digits (suc n) n [] refl))

-- and they are read as digits
start_all : (p : ℕ → Bool) (s : List ℕ) → every p s ≡ true → trim_start p s ≡ []
unfolding trim_start
start_all p [] e = refl
start_all p (b ∷ s) e = rw (every_first p b s e, start_all p s (every_rest p b s e))

pub digital_read : {s : List ℕ} → Digital s → is_digits s ≡ true
unfolding is_digits trim_start
digital_read (digital {b} {s} h e) = rw (h, start_all is_digit s e)

-- ---- a digit is none of the other bytes that a number's reading asks for
pub digit_range : (b : ℕ) → is_digit b ≡ true → (code "0" ≤ b) × (b ≤ code "9")
unfolding is_digit
digit_range b e =
    let both = and_both (leb (code "0") b) (leb b (code "9")) e in
    (leb-true (code "0") b both.0, leb-true b (code "9") both.1)

digit_not : (b k : ℕ) → is_digit b ≡ true → k < code "0" → eqb b k ≡ false
digit_not b k e h = ne_eqb b k (λ x. let y : b ≡ k = x in omega (arith, digit_range b e))

pub digit_above : (b k : ℕ) → is_digit b ≡ true → code "9" < k → eqb b k ≡ false
digit_above b k e h = ne_eqb b k (λ x. let y : b ≡ k = x in omega (arith, digit_range b e))

pub digit_name : (b : ℕ) → is_digit b ≡ true → is_name_byte b ≡ true
unfolding is_name_byte
digit_name b e = rw e (or_right (leb (code "A") b && leb b (code "Z")) true refl)

digit_sign : (b : ℕ) → is_digit b ≡ true → is_sign b ≡ false
unfolding is_sign
digit_sign b e = rw (digit_not b (code "+") e (omega arith), digit_not b (code "-") e (omega arith))

pub digital_names : {s : List ℕ} → Digital s → every is_name_byte s ≡ true
unfolding every
digital_names (digital {b} {s} h e) = rw (digit_name b h, every_weaker is_digit is_name_byte digit_name s e)

start_digit : (b : ℕ) → is_digit b ≡ true → start_of b ≡ Numeric
unfolding start_of starts_number
start_digit b e =
    rw (
      digit_not b (code "'") e (omega arith),
      digit_above b (code "T") e (omega arith),
      digit_above b (code "F") e (omega arith),
      digit_not b (code "(") e (omega arith),
      digit_not b (code "+") e (omega arith),
      digit_not b (code "-") e (omega arith),
      digit_not b (code ".") e (omega arith),
      e,
    )

-- ---- a minus or none before a digit
module _ (b : ℕ) (s : List ℕ) (h : is_digit b ≡ true) where
  pub unsigned-front : (minus : Bool) → unsigned (minus_of minus ++ b ∷ s) ≡ b ∷ s
  unfolding unsigned is_sign
  unsigned-front true = refl
  unsigned-front false = rw (digit_sign b h)

  pub negative_front : (minus : Bool) → is_negative (minus_of minus ++ b ∷ s) ≡ minus
  unfolding is_negative
  negative_front true = refl
  negative_front false = digit_not b (code "-") h (omega arith)

  pub figures_front : (minus : Bool) → every is_name_byte (b ∷ s) ≡ true → Figures (minus_of minus ++ b ∷ s)
  unfolding start_of starts_number every is_name_byte is_digit
  figures_front true e = figures refl e
  figures_front false e = figures (start_digit b h) e
