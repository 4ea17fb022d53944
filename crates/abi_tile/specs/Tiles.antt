-- What the C boundary says of a tile: its answers and counts in numbers, and the cursor that is left.
use Rattle.std.specs.Prelude.{ℕ, ◌≡◌, Option, Some, None, Result, Ok, Err, List, ℤ}
use Rattle.laws.specs.Lending.{Lent, Passed}
use Rattle.refusal.specs.Numbers.{number_of}
use Rattle.refusal.specs.declared.Fault.{Fault}
use Rattle.rice.specs.Steps.{open_of, step_of, decode_of}
use Rattle.rice.specs.declared.Cursor.{Cursor}
use Rattle.rice.specs.declared.Broken.{Broken}

-- a cursor in three numbers
abbrev pub cursor_of : ℕ → ℕ → ℤ → Cursor
cursor_of bit done last = record { bit = bit; done = done; last = last }

abbrev pub cursor_in : Passed ℕ → Passed ℕ → Passed ℤ → Lent Cursor
cursor_in bit done last = record {
  was = cursor_of bit.entry.now done.entry.now last.entry.now;
  left = cursor_of bit.exit.now done.exit.now last.exit.now;
}

-- ---- opening

-- 0, or the refusal's number
abbrev pub open_said : Result Cursor Fault → ℕ
open_said (Ok c) = 0
open_said (Err fault) = number_of fault.why

-- a refusal leaves the cursor as it was
abbrev pub cursor_after : Result Cursor Fault → Cursor → Cursor
cursor_after (Ok c) was = c
cursor_after (Err fault) was = was

-- what opening a tile leaves: its answer r, and the cursor
pub record OpenLeft (tile : List ℕ) (nx nblock bits : ℕ) (cursor : Lent Cursor) (r : ℕ) : Type 0 where
  pub answer : r ≡ open_said (open_of tile nx nblock bits)
  pub place : cursor.left ≡ cursor_after (open_of tile nx nblock bits) cursor.was

-- ---- a step

-- the answer where nothing is left: no refusal has this number
abbrev pub nothing_left : ℕ
nothing_left = 254

-- 0 where a step was made, or the refusal's number
abbrev pub step_said : Result (Option Cursor) Broken → ℕ
step_said (Ok None) = nothing_left
step_said (Ok (Some c)) = 0
step_said (Err b) = number_of b.fault.why

-- only a step that was made moves the cursor
abbrev pub stepped_to : Result (Option Cursor) Broken → Cursor → Cursor
stepped_to (Ok None) was = was
stepped_to (Ok (Some c)) was = c
stepped_to (Err b) was = was

-- only a refusal says how many pixels of the step were written
abbrev pub written_after : Result (Option Cursor) Broken → ℕ → ℕ
written_after (Ok None) was = was
written_after (Ok (Some c)) was = was
written_after (Err b) was = b.written

-- what a step leaves: its answer r, the cursor, the pixels, and how many of them were written
pub record StepLeft (tile : List ℕ) (nx nblock bits : ℕ) (cursor : Lent Cursor) (pixels : Lent (List ℤ))
    (written : Lent ℕ) (r : ℕ) : Type 0 where
  pub answer : r ≡ step_said (step_of tile nx nblock bits cursor.was pixels.was).answer
  pub place : cursor.left ≡ stepped_to (step_of tile nx nblock bits cursor.was pixels.was).answer cursor.was
  pub content : pixels.left ≡ (step_of tile nx nblock bits cursor.was pixels.was).content
  pub told : written.left ≡ written_after (step_of tile nx nblock bits cursor.was pixels.was).answer written.was

-- ---- whole decoding

-- 0, or the refusal's number
abbrev pub decode_said : Result ℕ Broken → ℕ
decode_said (Ok used) = 0
decode_said (Err b) = number_of b.fault.why

-- the bits used; after a refusal the pixels written
abbrev pub count_of : Result ℕ Broken → ℕ
count_of (Ok used) = used
count_of (Err b) = b.written

-- what whole decoding leaves: its answer r, the pixels, and the count
pub record DecodeLeft (tile : List ℕ) (nx nblock bits : ℕ) (pixels : Lent (List ℤ)) (count : Lent ℕ) (r : ℕ) : Type 0 where
  pub answer : r ≡ decode_said (decode_of tile nx nblock bits pixels.was).answer
  pub content : pixels.left ≡ (decode_of tile nx nblock bits pixels.was).content
  pub told : count.left ≡ count_of (decode_of tile nx nblock bits pixels.was).answer
