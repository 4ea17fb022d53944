-- The three widths, and pixels as whole numbers (SPECIFICATION 12.2; FITS Standard 10.4.1).
use Rattle.std.specs.Prelude.{ℕ, ◌+◌, ◌-◌, ◌/◌, ◌%◌, ◌^◌, Bool, cond, eqb, ltb, ℤ, pos, negsuc, neg_ℤ, ◌+ℤ◌, ◌-ℤ◌}
use Rattle.rice.specs.declared.width.Width.{Width}
use Rattle.rice.specs.declared.width.Width.TheVariants.{Eight, Sixteen, ThirtyTwo}

-- the bits of a pixel
abbrev pub bits_of : Width → ℕ
bits_of Eight = 8
bits_of Sixteen = 16
bits_of ThirtyTwo = 32

-- the bits of an FS field
abbrev pub fs_bits : Width → ℕ
fs_bits Eight = 3
fs_bits Sixteen = 4
fs_bits ThirtyTwo = 5

-- the fs at which differences are raw
abbrev pub fs_top : Width → ℕ
fs_top Eight = 6
fs_top Sixteen = 14
fs_top ThirtyTwo = 25

-- the bytes of the start value
abbrev pub start_bytes : Width → ℕ
start_bytes Eight = 1
start_bytes Sixteen = 2
start_bytes ThirtyTwo = 4

-- how many pixels of a width are not negative: all of them at 8 bits, half of them otherwise
abbrev pub positives : Width → ℕ
positives Eight = 2 ^ 8
positives Sixteen = 2 ^ 15
positives ThirtyTwo = 2 ^ 31

-- the pixel whose bits make the number v: unsigned at 8 bits, signed otherwise
unfoldable pub pixel_of : Width → ℕ → ℤ
pixel_of w v = cond (ltb v (positives w)) (pos v) (pos v -ℤ pos (2 ^ bits_of w))

-- whether a pixel is one of the width's
unfoldable pub in_width : Width → ℤ → Bool
in_width w (pos n) = ltb n (positives w)
in_width w (negsuc n) = ltb n (2 ^ bits_of w - positives w)

-- z modulo m, from 0 to m - 1; negsuc n is -(n + 1)
unfoldable pub modulo : ℤ → ℕ → ℕ
modulo (pos n) m = n % m
modulo (negsuc n) m = m - 1 - n % m

-- z wrapped to the width
unfoldable pub wrap : Width → ℤ → ℤ
wrap w z = pixel_of w (modulo z (2 ^ bits_of w))

-- the difference that u means: u / 2 for an even u, -(u + 1) / 2 for an odd one
unfoldable pub difference : ℕ → ℤ
difference u = cond (eqb (u % 2) 0) (pos (u / 2)) (neg_ℤ (pos ((u + 1) / 2)))

-- the pixel after the last one: the running sum, wrapped
abbrev pub following : Width → ℤ → ℕ → ℤ
following w last u = wrap w (last +ℤ difference u)
