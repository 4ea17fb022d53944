-- What is known where the names of a header are printed.
use Rattle.std.specs.Prelude.{ℕ, ◌+◌, ◌≤◌, ◌≡◌, List, length, take, None, Ok, Option, Some}
use Rattle.finding.specs.Finding.{header_of}
use Rattle.listing.specs.Listing.{list_of}
use Rattle.lines.specs.Lines.{line_room}
use Rattle.bounds.specs.Longest.{longest_text}

-- the header is accepted, and these are the first cards, the last entries and the numbers of its list
pub record IsListed (h first last times : List ℕ) : Type 0 where
  pub end : ℕ
  pub accepted : header_of h ≡ Ok end
  pub first-cards : first ≡ (list_of h).first
  pub last_entries : last ≡ (list_of h).last
  pub how_often : times ≡ (list_of h).times

-- two buffers that every text and every line of a header fits in
pub record IsWide (text line : List ℕ) : Type 0 where
  pub for_text : longest_text ≤ length text
  pub for_line : longest_text + line_room ≤ length line

-- the first n bytes of a buffer are a line
pub record Front (n : ℕ) (out line : List ℕ) : Type 0 where
  pub content : take n out ≡ line
  pub count : n ≡ length line
  pub few : n ≤ length out

-- how many bytes a line has that was written
abbrev pub length_of : Option ℕ → ℕ
length_of (Some n) = n
length_of None = 0
