-- Signs (SPECIFICATION 7; FITS Standard 4.2.3 and 4.2.4), and numbers by their sign and size.
use Prim.Native.Char.{code}
use Rattle.std.specs.Prelude.{ℕ, ◌^◌, Bool, true, false, cond, ◌||◌, List, [], ◌∷◌, eqb, leb, ltb, ℤ, pos, neg_ℤ}

-- plus or minus
unfoldable pub is_sign : ℕ → Bool
is_sign b = eqb b (code "+") || eqb b (code "-")

-- a minus stands at the front
unfoldable pub is_negative : List ℕ → Bool
is_negative [] = false
is_negative (b ∷ s) = eqb b (code "-")

-- what follows the sign, if there is one
unfoldable pub unsigned : List ℕ → List ℕ
unsigned [] = []
unsigned (b ∷ s) = cond (is_sign b) s (b ∷ s)

-- a number by its sign, negative or not, and its size
abbrev pub signed_of : Bool → ℕ → ℤ
signed_of true n = neg_ℤ (pos n)
signed_of false n = pos n

-- it fits 64 signed bits: -2^63 is the least, 2^63 - 1 the largest
abbrev pub fits64 : Bool → ℕ → Bool
fits64 true n = leb n (2 ^ 63)
fits64 false n = ltb n (2 ^ 63)
