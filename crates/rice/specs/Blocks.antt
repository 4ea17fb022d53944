-- One block: its FS field and its pixels (SPECIFICATION 12.3; FITS Standard 10.4.1).
use Rattle.std.specs.Prelude.{cond, Option, Some, None, Result, Ok, Err, List, [], ◌∷◌, ℕ, zero, suc, ◌+◌, ◌-◌, ℤ, eqb, leb, length}
use Rattle.std.proofs.lemmas.List.Edits.{sets}
use Rattle.refusal.specs.Numbers.{fault_of}
use Rattle.refusal.specs.declared.Refusal.{Refusal}
use Rattle.refusal.specs.declared.Refusal.TheVariants as R
use Rattle.rice.specs.Widths.{bits_of, fs_bits, fs_top, following}
use Rattle.rice.specs.Reads.{Read, found, short, field_read, diff_read, moved}
use Rattle.rice.specs.declared.width.Width.{Width}
use Rattle.rice.specs.declared.width.Code.{Code}
use Rattle.rice.specs.declared.width.Code.TheVariants.{Same, Raw, Split}
use Rattle.rice.specs.declared.Cursor.{Cursor}
use Rattle.rice.specs.declared.Broken.{Broken}

-- the code that an FS field says: fs is the field less 1; at -1 all differences are 0, at the top each is raw,
-- below it a run of zeros, a one and fs bits
unfoldable pub code_of : Width → ℕ → Option Code
code_of w field =
    cond (eqb field 0) (Some Same)
    (cond (leb field (fs_top w)) (Some (Split (field - 1)))
    (cond (eqb field (fs_top w + 1)) (Some (Raw (bits_of w))) None))

-- how a run of pixels ends: at a place, with its last pixel; or the tile ends in it
pub data End : Type 0 where
  complete : ℕ → ℤ → End
  cut : End

-- the pixels of a run, and how it ends
pub record Run : Type 0 where
  pub pixels : List ℤ
  pub end : End

abbrev pub also : ℤ → Run → Run
also x r = record { pixels = x ∷ r.pixels; end = r.end }

-- from a read on, after the last pixel
abbrev pub onward : Width → ℤ → (ℕ → ℤ → Run) → Read → Run
onward w last rest (found u q) = also (following w last u) (rest q (following w last u))
onward w last rest short = record { pixels = []; end = cut }

-- k pixels from place p on, after the last pixel
unfoldable pub run_of : Width → Code → List ℕ → ℕ → ℕ → ℤ → Run
run_of w code s zero p last = record { pixels = []; end = complete p last }
run_of w code s (suc k) p last = onward w last (run_of w code s k) (diff_read code s p)

-- n pixels from a cursor on
abbrev pub run_from : Width → Code → List ℕ → Cursor → ℕ → Run
run_from w code s c n = run_of w code s n c.bit c.last

-- a refusal, after so many pixels
abbrev pub broken : Refusal → ℕ → Broken
broken why n = record { fault = fault_of why; written = n }

-- what a cursor answers to a run of n pixels, k of which are written: the cursor after it, or the tile ends, with k
abbrev pub ran_to : Cursor → ℕ → End → ℕ → Result (Option Cursor) Broken
ran_to c n (complete p last) k = Ok (Some (record { bit = p; done = c.done + n; last = last }))
ran_to c n cut k = Err (broken R.TileEnds k)

abbrev pub filled_of : Cursor → ℕ → Run → Result (Option Cursor) Broken
filled_of c n r = ran_to c n r.end (length r.pixels)

-- an answer, and what the lent pixels then are
pub record StepOutcome : Type 0 where
  pub answer : Result (Option Cursor) Broken
  pub content : List ℤ

-- a refusal before any pixel is written
abbrev pub step_refused : Refusal → List ℤ → StepOutcome
step_refused why px = record { answer = Err (broken why 0); content = px }

-- a block whose FS field says a code: its pixels are stored in the part from the part's start on
abbrev pub coded : Width → List ℕ → Cursor → List ℤ → Option Code → StepOutcome
coded w s c part (Some code) =
    let r = run_from w code s c (length part) in
    record { answer = filled_of c (length part) r; content = sets part 0 r.pixels }
coded w s c part None = step_refused R.FsAboveTop part

abbrev pub with_field : Width → List ℕ → Cursor → List ℤ → Read → StepOutcome
with_field w s c part (found f q) = coded w s (moved c q) part (code_of w f)
with_field w s c part short = step_refused R.TileEnds part

-- a block at a cursor, whose pixels go into the part
unfoldable pub block_of : Width → List ℕ → Cursor → List ℤ → StepOutcome
block_of w s c part = with_field w s c part (field_read s c.bit (fs_bits w))
