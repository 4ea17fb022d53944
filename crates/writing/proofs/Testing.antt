-- What may be written, test by test.
use Prim.Native.Char.{code}
use Prim.Native.Nat.{ℕ, ◌+◌, ◌-◌, ◌<◌, ◌≤◌}
use native.Mathlib.Omega.{arith}
use mathlib.Core.Path.{◌≡◌, refl, sym, ap, ◌∙◌}
use mathlib.Core.Bool.{Bool, true, false, not, ◌&&◌, ◌||◌}
use mathlib.Core.List.{List, [], ◌∷◌}
use lib.Dec.{eqb, leb}
use lib.ListN.{length, get_or, drop_of_length-le}
use borrow.Author.Tests.{le-leb, lt-leb, leb-true}
use Rattle.laws.proofs.Truths.{and_both, and_false}
use Rattle.std.specs.List.{ends_with as ends_in}
use Rattle.std.proofs.lemmas.Bool.Decides.{nat_tests}
use Rattle.text.specs.Bytes.{ascii, is_printable, are_printable, is_digit, is_zero, every}
use Rattle.text.specs.Ends.{ends_with}
use Rattle.text.specs.Same.{same}
use Rattle.text.specs.Trim.{trim}
use Rattle.text.proofs.Printing.{every_printable}
use Rattle.text.proofs.Trimming.{at_next}
use Rattle.card.specs.declared.Class.{Class}
use Rattle.card.specs.declared.Class.TheVariants.{Empty, Comment, History, Continue, Xtension, Hierarch, End, Other}
use Rattle.card.specs.Keywords.{class_of}
use Rattle.writing.specs.Rules.{is_name_byte, is_other, is_name, is_remark}
use Rattle.writing.specs.Rules.{ends_well, is_text, is_significant}

-- ---- names

pub name-long : (n : List ℕ) → 8 < length n → is_name n ≡ false
unfolding is_name
name-long n h = rw (lt-leb (length n) 8 h)

module _ (n : List ℕ) (short : length n ≤ 8) where
  pub name_odd : every is_name_byte n ≡ false → is_name n ≡ false
  unfolding is_name
  name_odd e = rw (le-leb (length n) 8 short, e)

  pub name_class : every is_name_byte n ≡ true → is_name n ≡ is_other (class_of n)
  unfolding is_name
  name_class e = rw (le-leb (length n) 8 short, e)

pub name-length : (n : List ℕ) → is_name n ≡ true → length n ≤ 8
unfolding is_name
name-length n e = leb-true (length n) 8 (and_both (leb (length n) 8) (every is_name_byte n && is_other (class_of n)) e).0

pub not-other : (c : Class) → (c ≡ Other → ⊥) → is_other c ≡ false
not-other Empty h = refl
not-other Comment h = refl
not-other History h = refl
not-other Continue h = refl
not-other Xtension h = refl
not-other Hierarch h = refl
not-other End h = refl
not-other Other h = absurd (h refl)

-- ---- comments and strings

pub remark_odd : (c : List ℕ) → are_printable c ≡ false → is_remark c ≡ false
unfolding is_remark
remark_odd c e = rw (every_printable c, e)

pub remark_end : (c : List ℕ) → are_printable c ≡ true → is_remark c ≡ not (ends_with (code " ") c)
unfolding is_remark
remark_end c e = rw (every_printable c, e)

-- the byte at the end, as a slice tells it
pub ends-byte : (b : ℕ) → eqb 0 b ≡ false → (s : List ℕ) → ends_in eqb s (b ∷ []) ≡ ends_with b s
unfolding ends_with
ends-byte b e [] = sym e
ends-byte b e (x ∷ s) =
    let t : List ℕ = x ∷ s in
    let i = length t - 1 in
    let there : i < length t = omega arith in
    let end : length t ≤ i + 1 = omega arith in
    rw (at_next t i there, drop_of_length-le t end) (alike (get_or t i 0))
  where
    alike : (x : ℕ) → (eqb b x && true) ≡ eqb x b
    alike x = grind (arith, nat_tests)

pub text-long : (s : List ℕ) → 2000 < length s → is_text s ≡ false
unfolding is_text
text-long s h = and_false (every is_printable s) (leb (length s) 2000 && ends_well s) (rw (lt-leb (length s) 2000 h))

pub text_odd : (s : List ℕ) → are_printable s ≡ false → is_text s ≡ false
unfolding is_text
text_odd s e = rw (every_printable s, e)

pub text-end : (s : List ℕ) → length s ≤ 2000 → are_printable s ≡ true → is_text s ≡ ends_well s
unfolding is_text
text-end s h e = rw (every_printable s, e, le-leb (length s) 2000 h)

-- the end of a text, as it is asked for
module _ (s : List ℕ) where
  pub ends_open : ends_in eqb s (code "&" ∷ []) ≡ true → ends_well s ≡ false
  unfolding ends_well
  ends_open e =
      and_false
      (not (ends_with (code " ") s) || same s (ascii " "))
      (not (ends_with (code "&") s))
      (ap not (sym (ends-byte (code "&") refl s) ∙ e))

  pub ends-closed : ends_in eqb s (code "&" ∷ []) ≡ false → ends_well s ≡ (not (ends_in eqb s (code " " ∷ [])) || same s (ascii " "))
  unfolding ends_well
  ends-closed e =
      rw (sym (ends-byte (code "&") refl s) ∙ e, sym (ends-byte (code " ") refl s))
      (both (not (ends_in eqb s (code " " ∷ [])) || same s (ascii " ")))
    where
      both : (t : Bool) → (t && true) ≡ t
      both true = refl
      both false = refl

-- ---- numbers

pub digits_odd : (d : List ℕ) → every is_digit d ≡ false → is_significant d ≡ false
unfolding is_significant
digits_odd d e = rw e

pub digits_ends : (d : List ℕ) → every is_digit d ≡ true → is_significant d ≡ same (trim is_zero d) d
unfolding is_significant
digits_ends d e = rw e
