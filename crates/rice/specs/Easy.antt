-- What the private functions owe each other: blocks that are decoded one after another, the cursor's rules being known to hold.
use Rattle.std.specs.Prelude.{◌≡◌, true, Some, List, ℕ, suc, ◌+◌, ◌*◌, ◌≤◌, ℤ, length}
use Rattle.rice.specs.Tile.{bits_in}
use Rattle.rice.specs.Reads.{most_bytes}
use Rattle.rice.specs.Widths.{bits_of, start_bytes, in_width}
use Rattle.rice.specs.Steps.{most_pixels, most_block, plan_of, stands, DecodeOutcome, steps_of}
use Rattle.rice.specs.declared.width.Width.{Width}
use Rattle.rice.specs.declared.Cursor.{Cursor}
use Rattle.rice.specs.declared.Layout.{Layout}

-- everything is within its limits, the pixels are as many as nx, and the cursor keeps its rules
pub record Standing (w : Width) (s : List ℕ) (nx nblock : ℕ) (c : Cursor) (px : List ℤ) : Type 0 where
  pub planned : plan_of (length s) nx nblock (bits_of w) ≡ Some w
  pub sized : length px ≡ nx
  pub rules : stands w s nx nblock c ≡ true
  -- what follows from these
  pub low : start_bytes w * 8 ≤ c.bit
  pub high : c.bit ≤ bits_in s
  pub done : c.done ≤ nx
  pub last : in_width w c.last ≡ true
  pub few : nx ≤ most_pixels
  pub block : 1 ≤ nblock
  pub blocks : nblock ≤ most_block
  pub tile : length s ≤ most_bytes

-- some steps from the cursor c with the pixels px, and at least one more, come to what the rest of them come to from d with new
pub record Reaches (w : Width) (s : List ℕ) (nx nblock : ℕ) (c : Cursor) (px : List ℤ) (d : Cursor) (new : List ℤ) : Type 0 where
  pub steps : ℕ
  pub same : (k : ℕ) → steps_of s nx nblock (bits_of w) (steps + suc k) c px ≡ steps_of s nx nblock (bits_of w) (suc k) d new
  pub further : c.done + steps ≤ d.done
  pub standing : Standing w s nx nblock d new

-- the same in a layout, and what all steps come to there
abbrev pub StandingIn : Layout → List ℕ → Cursor → List ℤ → Type 0
StandingIn l s c px = Standing l.scale.width s l.nx l.nblock c px

abbrev pub ReachesIn : Layout → List ℕ → Cursor → List ℤ → Cursor → List ℤ → Type 0
ReachesIn l s c px d new = Reaches l.scale.width s l.nx l.nblock c px d new

abbrev pub steps_in : Layout → List ℕ → Cursor → List ℤ → DecodeOutcome
steps_in l s c px = steps_of s l.nx l.nblock (bits_of l.scale.width) (suc l.nx) c px
