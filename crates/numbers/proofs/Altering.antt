-- A text that is read as a decimal has no D, so making every D an E leaves it as it is.
use Rattle.std.specs.Prelude.{None, Option, Some}
use Prim.Native.Char.{code}
use Prim.Native.Nat.{ℕ}
use mathlib.Core.Path.{◌≡◌, refl, sym, ap, ap₂, ◌∙◌}
use mathlib.Core.Bool.{Bool, true, false, true≢false, cond, ◌||◌, not}
use mathlib.Core.List.{List, [], ◌∷◌, map}
use borrow.Author.Tests.{ne_eqb}
use lib.Dec.{eqb}
use lib.IntN.{ℤ}
use lib.ListN.{length}
use Rattle.laws.proofs.Truths.{false≢true, and_both}
use Rattle.text.specs.Bytes.{ascii, every, is_digit, d_to_e}
use Rattle.text.specs.Same.{same}
use Rattle.text.specs.Trim.{trim_start}
use Rattle.numbers.specs.Signs.{is_sign, is_negative, unsigned}
use Rattle.numbers.specs.Digits.{is_empty, is_digits}
use Rattle.numbers.specs.Answers.{decimal_number, invalid, is_read}
use Rattle.numbers.specs.Integers.{integer_of}
use Rattle.numbers.specs.declared.Size.TheVariants.{Infinite, Nan}
use Rattle.numbers.specs.Decimals.{fraction_of, after_fraction, digits_of, is_mark, written_of, exponent_of, with_exponent}
use Rattle.numbers.specs.Decimals.{finite_of, lowered, is_word, decimal_of}
use Rattle.numbers.specs.Numbers.{read_number}

-- a text that stays as it is
abbrev Stays : List ℕ → Type 0
Stays s = map d_to_e s ≡ s

-- so it is with a byte that passes a test which D does not
byte_stays : (p : ℕ → Bool) (b : ℕ) → p (code "D") ≡ false → p b ≡ true → d_to_e b ≡ b
unfolding d_to_e
byte_stays p b none some =
    let other : b ≡ code "D" → ⊥ = λ e. true≢false (sym some ∙ ap p e ∙ none) in
    rw (ne_eqb b (code "D") other)

digit_no : is_digit (code "D") ≡ false
unfolding is_digit
digit_no = refl

sign_no : is_sign (code "D") ≡ false
unfolding is_sign
sign_no = refl

mark_no : is_mark (code "D") ≡ false
unfolding is_mark
mark_no = refl

point_no : eqb (code "D") (code ".") ≡ false
point_no = refl

-- the digits at the front stay
digits_front : (s : List ℕ) → Stays (trim_start is_digit s) → Stays s
unfolding trim_start
digits_front [] h = refl
digits_front (b ∷ s) h = go (is_digit b) refl (λ r. digits_front s r) h
  where
    go : (t : Bool) → is_digit b ≡ t → (Stays (trim_start is_digit s) → Stays s) → Stays (cond t (trim_start is_digit s) (b ∷ s))
        → Stays (b ∷ s)
    go true e next r = ap₂ ◌∷◌ (byte_stays is_digit b digit_no e) (next r)
    go false e next r = r

empty-is : (s : List ℕ) → is_empty s ≡ true → Stays s
empty-is [] e = refl
empty-is (b ∷ s) e = absurd (false≢true e)

all_digits : (s : List ℕ) → is_digits s ≡ true → Stays s
unfolding is_digits
all_digits [] e = refl
all_digits (b ∷ s) e = digits_front (b ∷ s) (empty-is (trim_start is_digit (b ∷ s)) e)

-- a sign at the front stays
signed : (s : List ℕ) → Stays (unsigned s) → Stays s
unfolding unsigned
signed [] h = refl
signed (b ∷ s) h = go (is_sign b) refl h
  where
    go : (t : Bool) → is_sign b ≡ t → Stays (cond t s (b ∷ s)) → Stays (b ∷ s)
    go true e r = ap₂ ◌∷◌ (byte_stays is_sign b sign_no e) r
    go false e r = r

-- an exponent stays
exponent : (s : List ℕ) (z : ℤ) → exponent_of s ≡ Some z → Stays s
unfolding exponent_of written_of
exponent [] z e = refl
exponent (b ∷ s) z e = go (is_mark b) refl (is_digits (unsigned s)) refl _ e
  where
    go : (t : Bool) → is_mark b ≡ t → (u : Bool) → is_digits (unsigned s) ≡ u → (x : ℤ) → cond t (cond u (Some x) None) None ≡ Some z
        → Stays (b ∷ s)
    go true m true d x w = ap₂ ◌∷◌ (byte_stays is_mark b mark_no m) (signed s (all_digits (unsigned s) d))
    go true m false d x w = cc
    go false m u d x w = cc

-- a point with its digits stays
pointed : (s : List ℕ) → Stays (after_fraction s) → Stays s
unfolding after_fraction
pointed [] h = refl
pointed (b ∷ s) h = go (eqb b (code ".")) refl h
  where
    go : (t : Bool) → eqb b (code ".") ≡ t → Stays (cond t (trim_start is_digit s) (b ∷ s)) → Stays (b ∷ s)
    go true e r = ap₂ ◌∷◌ (byte_stays (λ (x : ℕ). eqb x (code ".")) b point_no e) (digits_front s r)
    go false e r = r

-- a finite decimal stays
finite : (w t : List ℕ) → is_read (finite_of (is_negative w) t (invalid w)).value ≡ true → Stays t
unfolding finite_of
finite w t read = go (exponent_of (after_fraction rest)) refl read
  where
    rest : List ℕ
    rest = trim_start is_digit t

    go : (x : Option ℤ) → exponent_of (after_fraction rest) ≡ x
        → is_read (with_exponent x (is_negative w) (digits_of t) (length (fraction_of rest)) (invalid w)).value ≡ true → Stays t
    go None e r = absurd (false≢true r)
    go (Some z) e r = digits_front t (pointed rest (exponent (after_fraction rest) z e))

-- a word without a d, in any letter case, stays
abbrev not-d : ℕ → Bool
not-d b = not (eqb (code "d") b)

no_d : (c : ℕ) → not-d c ≡ true → eqb (lowered (code "D")) c ≡ false
unfolding lowered
no_d c e = go (eqb (code "d") c) e
  where
    go : (t : Bool) → not t ≡ true → t ≡ false
    go true h = absurd (false≢true h)
    go false h = refl

word : (word s : List ℕ) → every not-d word ≡ true → is_word word s ≡ true → Stays s
unfolding is_word same every
word w [] d e = refl
word [] (b ∷ s) d e = absurd (false≢true e)
word (c ∷ w) (b ∷ s) d e =
    let other = and_both (not-d c) (every not-d w) d in
    let equal = and_both (eqb (lowered b) c) (same (map lowered s) w) e in
    ap₂ ◌∷◌ (byte_stays (λ (x : ℕ). eqb (lowered x) c) b (no_d c other.0) equal.0) (word w s other.1 equal.1)

-- what is read as a decimal stays
decimal : (w : List ℕ) → is_read (decimal_of w).value ≡ true → Stays w
unfolding decimal_of every
decimal w read = signed w (go (is_word (ascii "inf") t) refl (is_word (ascii "infinity") t) refl (is_word (ascii "nan") t) refl read)
  where
    t : List ℕ
    t = unsigned w

    go : (inf : Bool) → is_word (ascii "inf") t ≡ inf → (infinity : Bool) → is_word (ascii "infinity") t ≡ infinity
        → (nan : Bool) → is_word (ascii "nan") t ≡ nan
        → is_read (cond (inf || infinity) (decimal_number (is_negative w) Infinite [])
        (cond nan (decimal_number (is_negative w) Nan []) (finite_of (is_negative w) t (invalid w)))).value ≡ true
        → Stays t
    go true e i f n g r = word (ascii "inf") t refl e
    go false e true f n g r = word (ascii "infinity") t refl f
    go false e false f true g r = word (ascii "nan") t refl g
    go false e false f false g r = finite w t r

-- so what is no integer is read as the altered text is
pub one_try : (w : List ℕ) → invalid w ≡ integer_of w → decimal_of (map d_to_e w) ≡ read_number w
unfolding read_number
one_try w none = rw (← none) (go (is_read (decimal_of w).value) refl)
  where
    go : (t : Bool) → is_read (decimal_of w).value ≡ t
        → decimal_of (map d_to_e w) ≡ cond t (decimal_of w) (decimal_of (map d_to_e w))
    go true e = ap decimal_of (decimal w e)
    go false e = refl
