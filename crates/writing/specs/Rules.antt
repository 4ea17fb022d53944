-- What may be written (SPECIFICATION 16.3: refusals 19 and 20).
use Rattle.std.specs.Prelude.{ℕ, suc, Bool, true, false, not, ◌&&◌, ◌||◌, List, [], ◌∷◌, eqb, leb, ℤ, pos, negsuc, length, None, Some}
use Prim.Native.Char.{code}
use Rattle.text.specs.Bytes.{ascii, is_printable, every, is_digit, is_zero}
use Rattle.text.specs.Ends.{ends_with}
use Rattle.text.specs.Same.{same}
use Rattle.text.specs.Trim.{trim}
use Rattle.numbers.specs.Signs.{fits64}
use Rattle.numbers.specs.Decimals.{max_exponent}
use Rattle.numbers.specs.declared.Size.TheVariants.{Finite, Infinite, Nan}
use Rattle.numbers.specs.declared.Value.{Value}
use Rattle.numbers.specs.declared.Value.TheVariants.{Integer, Float, Logical, String, Undefined, Invalid}
use Rattle.numerals.specs.Numerals.{signed_digits}
use Rattle.card.specs.declared.Class.{Class}
use Rattle.card.specs.declared.Class.TheVariants.{Empty, Comment, History, Continue, Xtension, Hierarch, End, Other}
use Rattle.card.specs.Keywords.{class_of}
use Rattle.roles.specs.Roles as R
use Rattle.writing.specs.Pieces.{text_room}
use Rattle.writing.specs.Written.{truth_text, decimal_text, plain_text}

-- ---- names

-- A to Z, 0 to 9, hyphen and underscore (the standard, 4.1.2.1)
unfoldable pub is_name_byte : ℕ → Bool
is_name_byte b = (leb (code "A") b && leb b (code "Z")) || (is_digit b || (eqb b (code "-") || eqb b (code "_")))

-- neither empty nor one of the six special keywords
abbrev pub is_other : Class → Bool
is_other Empty = false
is_other Comment = false
is_other History = false
is_other Continue = false
is_other Xtension = false
is_other Hierarch = false
is_other End = false
is_other Other = true

-- 1 to 8 such bytes that are no special keyword
unfoldable pub is_name : List ℕ → Bool
is_name n = leb (length n) 8 && (every is_name_byte n && is_other (class_of n))

-- ---- comments

-- printable, with no space at its end
unfoldable pub is_remark : List ℕ → Bool
is_remark c = every is_printable c && not (ends_with (code " ") c)

-- such a comment, or none
abbrev pub is_comment : R.Comment → Bool
is_comment None = true
is_comment (Some c) = is_remark c

-- of at most n bytes
abbrev pub is_short : ℕ → R.Comment → Bool
is_short n None = true
is_short n (Some c) = leb (length c) n

-- ---- strings

abbrev pub text_limit : ℕ
text_limit = 2000

-- the longest comment beside a string
abbrev pub remark_limit : ℕ
remark_limit = 65

-- no space at its end unless it is one space, and no & there
unfoldable pub ends_well : List ℕ → Bool
ends_well s = (not (ends_with (code " ") s) || same s (ascii " ")) && not (ends_with (code "&") s)

unfoldable pub is_text : List ℕ → Bool
is_text s = every is_printable s && (leb (length s) text_limit && ends_well s)

-- ---- numbers

-- an integer of 64 signed bits
abbrev pub is_long : ℤ → Bool
is_long (pos n) = fits64 false n
is_long (negsuc n) = fits64 true (suc n)

-- digits without a zero at either end
unfoldable pub is_significant : List ℕ → Bool
is_significant d = every is_digit d && same (trim is_zero d) d

-- a power of at most 99,999 in size; zero, which has no digits, has the power 0
abbrev pub is_power : List ℕ → ℤ → Bool
is_power [] (pos n) = eqb n 0
is_power [] (negsuc n) = false
is_power (b ∷ d) (pos n) = leb n max_exponent
is_power (b ∷ d) (negsuc n) = leb (suc n) max_exponent

-- a logical or number with its comment does not pass byte 79
abbrev pub fits_card : List ℕ → R.Comment → Bool
fits_card t c = leb (length (plain_text t c)) text_room

-- ---- by the kind of value

abbrev pub is_value : Value → List ℕ → R.Comment → Bool
is_value (Integer z) text c = is_long z && fits_card (signed_digits z) c
is_value (Float minus (Finite power)) text c = (is_significant text && is_power text power) && fits_card (decimal_text minus text power) c
is_value (Float minus Infinite) text c = false
is_value (Float minus Nan) text c = false
is_value (Logical t) text c = fits_card (truth_text t) c
is_value String text c = is_text text && is_short remark_limit c
is_value Undefined text c = false
is_value Invalid text c = false

unfoldable pub is_writable : Value → List ℕ → R.Comment → Bool
is_writable v text c = is_comment c && is_value v text c
