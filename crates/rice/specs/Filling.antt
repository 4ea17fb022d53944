-- What the private functions owe each other: a block that is filled from a spot on.
use Rattle.std.specs.Prelude.{◌≡◌, Result, Ok, Err, List, ℕ, ◌+◌, ◌-◌, ◌*◌, ◌^◌, ◌≤◌, ◌<◌, ℤ, pos, ◌-ℤ◌, length}
use Rattle.std.proofs.lemmas.List.Edits.{sets}
use Rattle.rice.specs.Tile.{bits_in}
use Rattle.rice.specs.Widths.{bits_of, positives}
use Rattle.rice.specs.Blocks.{End, complete, cut, run_of}
use Rattle.rice.specs.declared.Cursor.{Cursor}
use Rattle.rice.specs.declared.width.Width.{Width}
use Rattle.rice.specs.declared.width.Code.{Code}
use Rattle.rice.specs.declared.width.Code.TheVariants.{Raw}
use Rattle.rice.specs.declared.pixels.Spot.{Spot}

-- the pixel that stands so many above the width's lowest one
abbrev pub raised : Width → ℕ → ℤ
raised w n = pos n -ℤ pos (2 ^ bits_of w - positives w)

-- a cursor whose last pixel stands so many above the lowest one
abbrev pub counted : Width → ℕ → ℕ → ℕ → Cursor
counted w bit done level = record { bit = bit; done = done; last = raised w level }

-- the spot before a block's first pixel
abbrev pub spot_at : ℕ → ℕ → Spot
spot_at p n = record { bit = p; level = n; next = 0 }

-- a spot within the tile, the width and the part
abbrev pub Inside : Width → List ℕ → List ℤ → Spot → Type 0
Inside w s part a = (a.bit ≤ bits_in s) × (a.level < 2 ^ bits_of w) × (a.next ≤ length part)

-- what a block comes to: how it ends, what the part then holds, and how many of its pixels are then written
pub record Outlook : Type 0 where
  pub end : End
  pub content : List ℤ
  pub written : ℕ

-- from a spot on
abbrev pub outlook : Width → Code → List ℕ → List ℤ → Spot → Outlook
outlook w code s part a =
    let r = run_of w code s (length part - a.next) a.bit (raised w a.level) in
    record { end = r.end; content = sets part a.next r.pixels; written = a.next + length r.pixels }

-- from the spot a and the part old on, b and new are reached: what the block comes to stays the same
pub record Onward (w : Width) (code : Code) (s : List ℕ) (old new : List ℤ) (a b : Spot) : Type 0 where
  pub same : outlook w code s new b ≡ outlook w code s old a
  pub sized : length new ≡ length old
  pub inside : Inside w s new b

-- the block is filled to its end, with the last pixel z at place p
abbrev pub whole_at : ℕ → ℤ → List ℤ → Outlook
whole_at p z new = record { end = complete p z; content = new; written = length new }

-- filling from the spot a on comes to an answer
abbrev pub CameTo : Width → Code → List ℕ → List ℤ → List ℤ → Spot → Result Spot ℕ → Type 0
CameTo w code s old new a (Ok b) =
    (outlook w code s old a ≡ whole_at b.bit (raised w b.level) new) × (b.level < 2 ^ bits_of w) × (length new ≡ length old)
CameTo w code s old new a (Err n) =
    (outlook w code s old a ≡ record { end = cut; content = new; written = n }) × (length new ≡ length old)

-- a raw block comes to its last pixel
abbrev pub RawTo : Width → List ℕ → List ℤ → List ℤ → Spot → ℕ → Type 0
RawTo w s old new a n =
    (outlook w (Raw (bits_of w)) s old a ≡ whole_at (a.bit + bits_of w * length old) (raised w n) new)
    × (n < 2 ^ bits_of w) × (length new ≡ length old)
