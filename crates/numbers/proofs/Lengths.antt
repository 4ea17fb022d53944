-- The text that a number holds where it is invalid is no longer than what was read.
use Prim.Native.Nat.{ℕ, ◌≤◌}
use native.Mathlib.Omega.{arith}
use mathlib.Core.Path.{◌≡◌, subst}
use mathlib.Core.Bool.{Bool, true, false, cond, ◌&&◌, ◌||◌}
use mathlib.Core.List.{List, [], map}
use lib.ListN.{length, length-map}
use Rattle.text.specs.Bytes.{ascii, is_digit, d_to_e}
use Rattle.text.specs.Trim.{trim_start}
use Rattle.std.specs.Prelude.{None, Option, Some}
use lib.IntN.{ℤ}
use Rattle.numbers.specs.declared.Value.{Value}
use Rattle.numbers.specs.declared.Value.TheVariants.{Integer, Float, Logical, String, Undefined, Invalid}
use Rattle.numbers.specs.declared.Number.{Number}
use Rattle.numbers.specs.declared.Size.TheVariants.{Infinite, Nan}
use Rattle.numbers.specs.Signs.{is_negative, unsigned, signed_of, fits64}
use Rattle.numbers.specs.Digits.{is_empty, is_digits, digits_value}
use Rattle.numbers.specs.Answers.{whole_of, decimal_number, is_read, invalid}
use Rattle.numbers.specs.Integers.{integer_of}
use Rattle.numbers.specs.Decimals.{fraction_of, after_fraction, digits_of, exponent_of}
use Rattle.numbers.specs.Decimals.{scaled, with_exponent, finite_of, is_word, decimal_of}
use Rattle.numbers.specs.Numbers.{read_number}

-- the length of the text, which for an integer or a decimal is none of the value's
abbrev pub held_len : Value → ℕ → ℕ
held_len (Integer z) n = 0
held_len (Float minus size) n = 0
held_len (Logical b) n = n
held_len String n = n
held_len Undefined n = n
held_len Invalid n = n

abbrev Held : ℕ → Number → Type 0
Held n r = held_len r.value r.text.len ≤ n

one_of : (n : ℕ) (t : Bool) (x y : Number) → Held n x → Held n y → Held n (cond t x y)
one_of n true x y a b = a
one_of n false x y a b = b

integer-held : (s : List ℕ) → Held (length s) (integer_of s)
unfolding integer_of
integer-held s =
    let minus = is_negative s in
    let n = digits_value (unsigned s) in
    one_of (length s) (is_digits (unsigned s) && fits64 minus n) (whole_of (signed_of minus n)) (invalid s) (omega arith) (omega arith)

with_held : (n : ℕ) (x : Option ℤ) (minus : Bool) (digits : List ℕ) (places : ℕ) (other : Number) → Held n other
    → Held n (with_exponent x minus digits places other)
unfolding scaled
with_held n (Some e) minus digits places other h = one_of n (is_empty digits) other (scaled minus digits places e) h (omega arith)
with_held n None minus digits places other h = h

decimal-held : (s : List ℕ) → Held (length s) (decimal_of s)
unfolding decimal_of finite_of
decimal-held s =
    let minus = is_negative s in
    let t = unsigned s in
    let rest = trim_start is_digit t in
    let finite = finite_of minus t (invalid s) in
    let nan = decimal_number minus Nan [] in
    let is_nan = is_word (ascii "nan") t in
    one_of (length s) (is_word (ascii "inf") t || is_word (ascii "infinity") t) (decimal_number minus Infinite []) (cond is_nan nan finite)
    (omega arith)
    (one_of (length s) is_nan nan finite (omega arith)
    (with_held (length s) (exponent_of (after_fraction rest)) minus (digits_of t) (length (fraction_of rest)) (invalid s) (omega arith)))

pub number_short : (s : List ℕ) → held_len (read_number s).value (read_number s).text.len ≤ length s
unfolding read_number
number_short s =
    let same : length (map d_to_e s) ≡ length s = length-map s d_to_e in
    one_of (length s) (is_read (integer_of s).value) (integer_of s) _ (integer-held s)
    (one_of (length s) (is_read (decimal_of s).value) (decimal_of s) _ (decimal-held s)
    (subst (λ (n : ℕ). Held n (decimal_of (map d_to_e s))) same (decimal-held (map d_to_e s))))
