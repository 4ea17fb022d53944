-- A line is its segments and a line feed, and is laid segment by segment.
use Rattle.std.specs.Prelude.{None, Some}
use Prim.Native.Char.{code}
use Prim.Native.Nat.{ℕ, ◌+◌, ◌≤◌, ◌<◌}
use native.Mathlib.Omega.{arith}
use mathlib.Core.Path.{◌≡◌, refl, sym, ap, ◌∙◌}
use mathlib.Core.Bool.{true, false}
use mathlib.Core.List.{List, [], ◌∷◌, ◌++◌, append_assoc, append-nil}
use borrow.Author.Tests.{ne_eqb, le-leb, lt-leb}
use lib.Dec.{eqb}
use lib.IntN.{ℤ, pos, negsuc}
use lib.ListN.{length, length-append}
use lib.Seq.{sets}
use Rattle.numbers.specs.declared.Size.TheVariants.{Finite, Infinite, Nan}
use Rattle.numbers.specs.declared.Value.{Value}
use Rattle.numbers.specs.declared.Value.TheVariants.{Integer, Float, Logical, String, Undefined, Invalid}
use Rattle.numbers.specs.Digits.{is_empty}
use Rattle.text.specs.declared.Text.{Text}
use Rattle.text.specs.Bytes.{ascii, line_feed}
use Rattle.text.specs.Text.{text_of, bytes_of}
use Rattle.text.proofs.Texts.{text-bytes}
use Rattle.numerals.specs.Numerals.{decimal_digits, signed_digits}
use Rattle.numerals.proofs.Decimals.{some-digits}
use Rattle.refusal.specs.declared.Fault.{Fault}
use Rattle.refusal.specs.Numbers.{number_of}
use Rattle.lines.specs.Lines.{kind_letter, reading_of, spaced_reading, times_part, entry_line, count_line, column_part, refused_line}
use Rattle.lines.specs.Lines.{line_outcome, laid}
use Rattle.lines.specs.Segments.{line_head, middle_of, reading_tail}

-- ---- an entry

-- an integer has a digit, so that it stands behind a space
spaced_signed : (z : ℤ) → spaced_reading (signed_digits z) ≡ code " " ∷ signed_digits z
spaced_signed (pos n) = let s = some-digits n in rw s.2 refl
spaced_signed (negsuc n) = refl

-- the head, the middle and the tail are all that stands behind the name
segments : (v : Value) (digits text : List ℕ)
    → line_head v (is_empty text) ++ middle_of v digits text ++ reading_tail v (is_empty digits)
    ≡ ascii " " ++ kind_letter v ∷ spaced_reading (reading_of v digits text)
segments (Integer z) digits text = ap (λ (l : List ℕ). ascii " I" ++ l) (sym (spaced_signed z))
segments (Float true (Finite power)) [] text = refl
segments (Float false (Finite power)) [] text = refl
segments (Float true (Finite power)) (d ∷ digits) text = refl
segments (Float false (Finite power)) (d ∷ digits) text = refl
segments (Float true Infinite) digits text = refl
segments (Float false Infinite) digits text = refl
segments (Float true Nan) digits text = refl
segments (Float false Nan) digits text = refl
segments (Logical true) digits text = refl
segments (Logical false) digits text = refl
segments String digits [] = refl
segments String digits (b ∷ text) = append-nil (ascii " S " ++ b ∷ text)
segments Undefined digits text = refl
segments Invalid digits [] = refl
segments Invalid digits (b ∷ text) = append-nil (ascii " X " ++ b ∷ text)

-- the middle is no longer than the digits and the text
pub middle_few : (v : Value) (digits text : List ℕ) → length (middle_of v digits text) ≤ length digits + length text
middle_few (Integer z) digits text = omega arith
middle_few (Float minus (Finite power)) digits text = omega arith
middle_few (Float minus Infinite) digits text = omega arith
middle_few (Float minus Nan) digits text = omega arith
middle_few (Logical b) digits text = omega arith
middle_few String digits text = omega arith
middle_few Undefined digits text = omega arith
middle_few Invalid digits text = omega arith

-- the segments of the three lines, as texts that were made of them
pub entry_segments : {head tail : Text} (name : List ℕ) (v : Value) (digits text middle : List ℕ) (n : ℕ)
    → head ≡ text_of (line_head v (is_empty text)) → middle ≡ middle_of v digits text
    → tail ≡ text_of (reading_tail v (is_empty digits) ++ times_part n)
    → name ++ bytes_of head ++ middle ++ bytes_of tail ++ line_feed ∷ [] ≡ entry_line name v digits text n
unfolding entry_line
entry_segments name v digits text middle n p e q =
    let h = line_head v (is_empty text) in
    let m = middle_of v digits text in
    let t = reading_tail v (is_empty digits) in
    let times = times_part n in
    let reading = kind_letter v ∷ spaced_reading (reading_of v digits text) in
    let parted : name ++ h ++ m ++ t ≡ name ++ ascii " " ++ reading =
    ap (λ (l : List ℕ). l ++ t) (append_assoc name h m) ∙ append_assoc name (h ++ m) t
    ∙ ap (λ (l : List ℕ). name ++ l) (segments v digits text) ∙ sym (append_assoc name (ascii " ") reading) in
    let numbered = sym (append_assoc (name ++ h ++ m) t times) ∙ ap (λ (l : List ℕ). l ++ times) parted in
    (λ j. name ++ text-bytes h p j ++ e j ++ text-bytes (t ++ times) q j ++ line_feed ∷ [])
    ∙ ap (λ (l : List ℕ). l ++ line_feed ∷ []) numbered

pub count_segments : (n : ℕ) {count none : Text} → count ≡ text_of (decimal_digits n) → none ≡ text_of []
    → bytes_of count ++ bytes_of none ++ ascii " keywords" ++ bytes_of none ++ line_feed ∷ [] ≡ count_line n
unfolding count_line
count_segments n p q =
    (λ j. text-bytes (decimal_digits n) p j ++ text-bytes [] q j ++ ascii " keywords" ++ text-bytes [] q j ++ line_feed ∷ [])
    ∙ simp append-nil

pub refused_segments : (fault : Fault) (card : ℕ) {word number place : Text} → word ≡ text_of (ascii "refused ")
    → number ≡ text_of (decimal_digits (number_of fault.why)) → place ≡ text_of (decimal_digits card ++ column_part fault.column)
    → bytes_of word ++ bytes_of number ++ ascii " at " ++ bytes_of place ++ line_feed ∷ [] ≡ refused_line fault card
unfolding refused_line
refused_segments fault card p q r =
    let number = decimal_digits (number_of fault.why) in
    let front = ascii "refused " ++ number ++ ascii " at " in
    let column = column_part fault.column in
    (λ j. text-bytes (ascii "refused ") p j ++ text-bytes number q j ++ ascii " at "
    ++ text-bytes (decimal_digits card ++ column) r j ++ line_feed ∷ [])
    ∙ ap (λ (l : List ℕ). l ++ line_feed ∷ []) (sym (append_assoc front (decimal_digits card) column))

-- ---- a line in a buffer

module _ (line d : List ℕ) where
  pub laid-short : length d < length line → line_outcome None d ≡ laid line d
  unfolding laid
  laid-short h = rw (lt-leb (length line) (length d) h)

  pub laid-fits : length line ≤ length d → line_outcome (Some (length line)) (sets d 0 line) ≡ laid line d
  unfolding laid
  laid-fits h = rw (le-leb (length line) (length d) h)

-- the length of five lists
pub length_segments : (a b m e f : List ℕ) → length (a ++ b ++ m ++ e ++ f) ≡ length a + length b + length m + length e + length f
length_segments a b m e f = simp length-append

-- the test of the length
pub empty-told : (s : List ℕ) → eqb (length s) 0 ≡ is_empty s
empty-told [] = refl
empty-told (b ∷ s) = ne_eqb (length (b ∷ s)) 0 (λ e. omega arith)
