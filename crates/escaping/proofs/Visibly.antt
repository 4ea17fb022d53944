-- What is shown is printable, and some texts made visible.
use Prim.Native.Nat.{ℕ, ◌+◌, ◌/◌, ◌%◌, ◌<◌, ◌≤◌}
use native.Mathlib.Omega.{arith}
use mathlib.Core.Path.{◌≡◌, refl}
use mathlib.Core.Bool.{Bool, true, false, cond}
use mathlib.Core.List.{List, [], ◌∷◌, ◌++◌, map}
use lib.Dec.{ltb}
use borrow.Author.Tests.{ltb-true, le-leb}
use Rattle.laws.proofs.Truths.{and_both}
use Rattle.text.specs.Bytes.{ascii, is_printable, are_printable}
use Rattle.escaping.specs.Escaping.{hex_digit, escaped_byte, escaped, are_bytes, Visible}
use Rattle.escaping.proofs.Showing.{as_it_is, by_number}

-- numbers from 32 to 126
pub within : (n : ℕ) → 32 ≤ n → n ≤ 126 → is_printable n ≡ true
unfolding is_printable
within n low high = rw (le-leb 32 n low, le-leb n 126 high)

-- a hexadecimal digit is printable
pub digit_shown : (n : ℕ) → n < 16 → is_printable (hex_digit n) ≡ true
digit_shown n h = go (ltb n 10) refl
  where
    go : (t : Bool) → ltb n 10 ≡ t → is_printable (cond t (48 + n) (55 + n)) ≡ true
    go true e = within (48 + n) (omega arith) (omega (arith, ltb-true n 10 e))
    go false e = within (55 + n) (omega arith) (omega (arith, h))

-- one behind the other
pub both : (s t : List ℕ) → are_printable s ≡ true → are_printable t ≡ true → are_printable (s ++ t) ≡ true
unfolding are_printable
both [] t e f = f
both (b ∷ s) t e f = let p = and_both (is_printable b) (are_printable s) e in rw p.0 (both s t p.1 f)

-- a byte as it is shown
pub byte-shown : (b : ℕ) → b < 256 → are_printable (escaped_byte b) ≡ true
unfolding are_printable is_printable
byte-shown b h = go (is_printable b) refl
  where
    go : (t : Bool) → is_printable b ≡ t → are_printable (escaped_byte b) ≡ true
    go true e = rw (as_it_is b e, e)
    go false e = rw (by_number b e, digit_shown (b / 16) (omega arith), digit_shown (b % 16) (omega arith))

pub visible : Visible
unfolding escaped are_printable are_bytes
visible [] e = refl
visible (b ∷ s) e =
    let p = and_both (ltb b 256) (are_bytes s) e in
    both (escaped_byte b) (escaped s) (byte-shown b (ltb-true b 256 p.0)) (visible s p.1)

-- a line feed, an escape and the bytes beside them
pub rows : map escaped
    ((65 ∷ 10 ∷ 66 ∷ []) ∷ (27 ∷ 31 ∷ 32 ∷ 126 ∷ 127 ∷ []) ∷ (0 ∷ 159 ∷ 250 ∷ 255 ∷ []) ∷ [] ∷ [])
    ≡ map ascii ("A\\x0AB" ∷ "\\x1B\\x1F ~\\x7F" ∷ "\\x00\\x9F\\xFA\\xFF" ∷ "" ∷ [])
unfolding escaped escaped_byte is_printable
rows = refl
