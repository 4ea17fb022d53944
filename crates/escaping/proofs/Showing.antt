-- Laws of bytes made visible.
use Prim.Native.Nat.{ℕ, ◌+◌, ◌/◌, ◌%◌, ◌≤◌, ◌<◌}
use native.Mathlib.Omega.{arith}
use Prim.Native.Char.{code}
use mathlib.Core.Path.{◌≡◌, refl, sym, ap, ◌∙◌}
use mathlib.Core.Bool.{Bool, true, false}
use mathlib.Core.List.{List, [], ◌∷◌, ◌++◌}
use lib.ListN.{length, drop, get_or, length-append}
use lib.Seq.{sets}
use Rattle.text.specs.Bytes.{is_printable}
use Rattle.text.proofs.Trimming.{at_next}
use Rattle.text.proofs.Laying.{sets-append}
use Rattle.escaping.specs.Escaping.{hex_digit, escaped_byte, escaped}

-- a printable byte is shown as it is
pub as_it_is : (b : ℕ) → is_printable b ≡ true → escaped_byte b ≡ b ∷ []
unfolding escaped_byte
as_it_is b e = rw e

-- any other one is shown by its number
pub by_number : (b : ℕ) → is_printable b ≡ false
    → escaped_byte b ≡ code "\\" ∷ code "x" ∷ hex_digit (b / 16) ∷ hex_digit (b % 16) ∷ []
unfolding escaped_byte
by_number b e = rw e

-- a byte becomes four bytes at most
pub byte-few : (b : ℕ) → length (escaped_byte b) ≤ 4
byte-few b = go (is_printable b) refl
  where
    go : (t : Bool) → is_printable b ≡ t → length (escaped_byte b) ≤ 4
    go true e = rw (as_it_is b e) (omega arith)
    go false e = rw (by_number b e) (omega arith)

-- a text whose byte at i is shown next
pub next : (s : List ℕ) (i : ℕ) → i < length s → escaped (drop i s) ≡ escaped_byte (get_or s i 0) ++ escaped (drop (i + 1) s)
unfolding escaped
next s i h = ap escaped (at_next s i h)

-- the byte at i is put at a place, and the rest is left
pub put_next : (s d : List ℕ) (i at : ℕ) → i < length s
    → sets (sets d at (escaped_byte (get_or s i 0))) (at + length (escaped_byte (get_or s i 0))) (escaped (drop (i + 1) s))
    ≡ sets d at (escaped (drop i s))
put_next s d i at h =
    sym (sets-append (escaped_byte (get_or s i 0)) (escaped (drop (i + 1) s)) d at) ∙ sym (ap (sets d at) (next s i h))

-- how many bytes are to come
pub count_next : (s : List ℕ) (i : ℕ) → i < length s
    → length (escaped (drop i s)) ≡ length (escaped_byte (get_or s i 0)) + length (escaped (drop (i + 1) s))
count_next s i h = ap length (next s i h) ∙ length-append (escaped_byte (get_or s i 0)) (escaped (drop (i + 1) s))

-- behind the last byte nothing is to come
pub at_the_end : {n m : ℕ} → n + length (escaped []) ≡ m → n ≡ m
unfolding escaped
at_the_end e = omega (arith, e)

pub stored_all : (d : List ℕ) (at : ℕ) → d ≡ sets d at (escaped [])
unfolding escaped
stored_all d at = refl
