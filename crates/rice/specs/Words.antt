-- What the private functions owe each other: code words that are cut out of one window, several at a time.
use Rattle.std.specs.Prelude.{◌≡◌, Option, Some, None, List, ℕ, ◌+◌, ◌-◌, ◌*◌, ◌/◌, ◌%◌, ◌^◌, ◌≤◌, ◌<◌}
use Rattle.std.specs.Int.Count.{count_leading_zeros}
use Rattle.rice.specs.Widths.{fs_bits}
use Rattle.rice.specs.Reads.{found, field_read, diff_read}
use Rattle.rice.specs.Blocks.{code_of}
use Rattle.rice.specs.declared.width.Width.{Width}
use Rattle.rice.specs.declared.width.Code.{Code}
use Rattle.rice.specs.declared.width.Code.TheVariants.{Split}
use Rattle.rice.specs.declared.words.Four.{Four}

-- what is told of the code word at the top of a word w that is not 0, where it has at most 57 bits: its number, its bits and 128 more,
-- and what follows it; a word that is 0 leaves 0
pub record Told (w fs value used rest : ℕ) : Type 0 where
  pub long : 0 < w → used ≡ 128 + (count_leading_zeros 64 w + 1 + fs)
  pub number : 0 < w → used ≤ 185 → value ≡ count_leading_zeros 64 w * 2 ^ fs + w / 2 ^ (64 - (used - 128)) % 2 ^ fs
  pub after : 0 < w → used ≤ 185 → rest ≡ w * 2 ^ (used - 128) % 2 ^ 64
  pub none : w ≡ 0 → rest ≡ 0
  pub most : used ≤ 216
  pub least : 65 ≤ used

-- two numbers from place p on, and the place after them
pub record Pair (s : List ℕ) (p fs a b q : ℕ) : Type 0 where
  pub middle : ℕ
  pub first : diff_read (Split fs) s p ≡ found a middle
  pub second : diff_read (Split fs) s middle ≡ found b q

-- four of them
pub record Pairs (s : List ℕ) (p fs a b c d q : ℕ) : Type 0 where
  pub half : ℕ
  pub one : Pair s p fs a b half
  pub two : Pair s half fs c d q

-- the number in a block of one pixel, and the place after it
pub record Single (w : Width) (s : List ℕ) (p u q : ℕ) : Type 0 where
  pub field : ℕ
  pub code : Code
  pub start : ℕ
  pub head : field_read s p (fs_bits w) ≡ found field start
  pub known : code_of w field ≡ Some code
  pub read : diff_read code s start ≡ found u q

-- an answer, where there is one
abbrev pub OneOf : Width → List ℕ → ℕ → Option (ℕ × ℕ) → Type 0
OneOf w s p (Some (u, q)) = Single w s p u q
OneOf w s p None = Unit {0}

abbrev pub TwoOf : List ℕ → ℕ → ℕ → Option (ℕ × ℕ × ℕ) → Type 0
TwoOf s p fs (Some (a, b, q)) = Pair s p fs a b q
TwoOf s p fs None = Unit {0}

abbrev pub FourAt : List ℕ → ℕ → ℕ → Four → Type 0
FourAt s p fs f = Pairs s p fs f.a f.b f.c f.d f.end

abbrev pub FourOf : List ℕ → ℕ → ℕ → Option Four → Type 0
FourOf s p fs (Some f) = FourAt s p fs f
FourOf s p fs None = Unit {0}
