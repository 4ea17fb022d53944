-- Opening, stepping and decoding a tile, with every refusal (SPECIFICATION 2 and 12).
use Rattle.std.specs.Prelude.{Option, Some, None, Result, Ok, Err}
use Rattle.std.specs.Prelude.{Bool, cond, ◌&&◌, ◌||◌, List, ◌++◌, ℕ, zero, suc, ◌+◌, ◌-◌, ◌*◌, ◌%◌, min, eqb, leb, ℤ, length, take, drop}
use Rattle.refusal.specs.Numbers.{fault_of}
use Rattle.refusal.specs.declared.Fault.{Fault}
use Rattle.refusal.specs.declared.Refusal.{Refusal}
use Rattle.refusal.specs.declared.Refusal.TheVariants as R
use Rattle.rice.specs.Tile.{bits_in}
use Rattle.rice.specs.Widths.{start_bytes, pixel_of, in_width}
use Rattle.rice.specs.Reads.{Read, found, short, field_read, most_bytes}
use Rattle.rice.specs.Blocks.{broken, StepOutcome, step_refused, block_of}
use Rattle.rice.specs.declared.width.Width.{Width}
use Rattle.rice.specs.declared.width.Width.TheVariants.{Eight, Sixteen, ThirtyTwo}
use Rattle.rice.specs.declared.Cursor.{Cursor}
use Rattle.rice.specs.declared.Broken.{Broken}

-- the most pixels of a tile and of a block (SPECIFICATION 1)
abbrev pub most_pixels : ℕ
most_pixels = 1048576

abbrev pub most_block : ℕ
most_block = 65536

-- whether nx, nblock and the tile's length are within their limits
unfoldable pub in_limits : ℕ → ℕ → ℕ → Bool
in_limits len nx nblock = leb 1 nx && (leb nx most_pixels && (leb 1 nblock && (leb nblock most_block && leb len most_bytes)))

-- the width of so many bits
unfoldable pub width_of : ℕ → Option Width
width_of bits =
    cond (eqb bits 8) (Some Eight) (cond (eqb bits 16) (Some Sixteen) (cond (eqb bits 32) (Some ThirtyTwo) None))

-- the width, where everything is within its limits
unfoldable pub plan_of : ℕ → ℕ → ℕ → ℕ → Option Width
plan_of len nx nblock bits = cond (in_limits len nx nblock) (width_of bits) None

-- ---- opening

abbrev pub start_at : Width → Read → Result Cursor Fault
start_at w (found v q) = Ok (record { bit = q; done = 0; last = pixel_of w v })
start_at w short = Err (fault_of R.TileEnds)

abbrev pub open_in : List ℕ → Option Width → Result Cursor Fault
open_in s (Some w) = start_at w (field_read s 0 (start_bytes w * 8))
open_in s None = Err (fault_of R.Limits)

-- the cursor after the start value
unfoldable pub open_of : List ℕ → ℕ → ℕ → ℕ → Result Cursor Fault
open_of s nx nblock bits = open_in s (plan_of (length s) nx nblock bits)

-- ---- a step

-- whether a cursor keeps its rules
unfoldable pub stands : Width → List ℕ → ℕ → ℕ → Cursor → Bool
stands w s nx nblock c =
    leb (start_bytes w * 8) c.bit && (leb c.bit (bits_in s) && (leb c.done nx
    && ((eqb c.done nx || eqb (c.done % nblock) 0) && in_width w c.last)))

-- the pixels from d to e are lent to a block, the others stay
abbrev pub part_lent : Width → List ℕ → Cursor → List ℤ → ℕ → ℕ → StepOutcome
part_lent w s c px d e =
    let o = block_of w s c (take (e - d) (drop d px)) in
    record { answer = o.answer; content = take d px ++ (o.content ++ drop e px) }

abbrev pub step_in : List ℕ → ℕ → ℕ → Cursor → List ℤ → Option Width → StepOutcome
step_in s nx nblock c px (Some w) =
    cond (eqb (length px) nx)
    (cond (stands w s nx nblock c)
    (cond (eqb c.done nx) (record { answer = Ok None; content = px }) (part_lent w s c px c.done (min (c.done + nblock) nx)))
    (step_refused R.BadCursor px))
    (step_refused R.PixelCount px)
step_in s nx nblock c px None = step_refused R.Limits px

-- a step from a cursor: its answer, and what the lent pixels then are
unfoldable pub step_of : List ℕ → ℕ → ℕ → ℕ → Cursor → List ℤ → StepOutcome
step_of s nx nblock bits c px = step_in s nx nblock c px (plan_of (length s) nx nblock bits)

-- ---- whole decoding: steps from opening

-- an answer of whole decoding, and what the lent pixels then are
pub record DecodeOutcome : Type 0 where
  pub answer : Result ℕ Broken
  pub content : List ℤ

-- a refusal before any pixel is written
abbrev pub decode_refused : Refusal → List ℤ → DecodeOutcome
decode_refused why px = record { answer = Err (broken why 0); content = px }

-- after a step from the cursor c: the bits used, where all is done; the steps that are left; or a refusal,
-- with the number of all pixels written
abbrev pub after_step : (Cursor → List ℤ → DecodeOutcome) → Cursor → List ℤ → Result (Option Cursor) Broken → DecodeOutcome
after_step rest c px (Ok None) = record { answer = Ok c.bit; content = px }
after_step rest c px (Ok (Some d)) = rest d px
after_step rest c px (Err b) = record { answer = Err (record { fault = b.fault; written = c.done + b.written }); content = px }

-- step after step from a cursor on, k of them at most; nx + 1 are always enough
unfoldable pub steps_of : List ℕ → ℕ → ℕ → ℕ → ℕ → Cursor → List ℤ → DecodeOutcome
steps_of s nx nblock bits zero c px = record { answer = Err (broken R.BadCursor c.done); content = px }
steps_of s nx nblock bits (suc k) c px =
    let o = step_of s nx nblock bits c px in
    after_step (steps_of s nx nblock bits k) c o.content o.answer

abbrev pub decode_from : List ℕ → ℕ → ℕ → ℕ → List ℤ → Result Cursor Fault → DecodeOutcome
decode_from s nx nblock bits px (Ok c) = steps_of s nx nblock bits (suc nx) c px
decode_from s nx nblock bits px (Err fault) = record { answer = Err (record { fault = fault; written = 0 }); content = px }

abbrev pub decode_in : List ℕ → ℕ → ℕ → ℕ → List ℤ → Option Width → DecodeOutcome
decode_in s nx nblock bits px (Some w) =
    cond (eqb (length px) nx) (decode_from s nx nblock bits px (open_of s nx nblock bits))
    (decode_refused R.PixelCount px)
decode_in s nx nblock bits px None = decode_refused R.Limits px

-- a tile decoded whole: its answer, and what the lent pixels then are
unfoldable pub decode_of : List ℕ → ℕ → ℕ → ℕ → List ℤ → DecodeOutcome
decode_of s nx nblock bits px = decode_in s nx nblock bits px (plan_of (length s) nx nblock bits)
