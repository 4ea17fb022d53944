-- What a scan finds, as the code hands it over: the value text in an array. And what the parts of a text are made from.
use Rattle.std.specs.Prelude.{ℕ, ◌+◌, ◌-◌, ◌<◌, ◌≤◌, ◌≡◌, cond, List, eqb, length, take, drop, Result}
use Rattle.splitting.specs.declared.Quoting.{Quoting}
use Rattle.splitting.specs.declared.Quoting.TheVariants.{Outside, Closed}
use Rattle.splitting.specs.declared.Halves.{Halves}
use Rattle.splitting.specs.declared.Slash.TheVariants.{At, Nowhere}
use Rattle.splitting.specs.declared.Stretch.{Stretch}
use Rattle.splitting.specs.declared.Stretch.TheVariants.{UpTo, All, Unknown}
use Rattle.splitting.specs.declared.Scanned.{Scanned}
use Rattle.text.specs.Text.{text_of}
use Rattle.refusal.specs.declared.Refusal.{Refusal}
use Rattle.splitting.specs.Scan.{Scan, put_before, scan_from}
use Rattle.splitting.specs.Split.{parts_at}
use Rattle.splitting.specs.Columns.{odd_by}
use Rattle.refusal.specs.declared.Fault.{Fault}
use Rattle.refusal.specs.Numbers.{answer_placed}

abbrev pub answered : Scan → Scanned
answered r = record { slash = r.place; value = text_of r.value }

unfoldable pub scanned_of : List ℕ → Scanned
scanned_of s = answered (scan_from Outside s 0)

-- what is known of a text that is its own value text up to its slash, or whole
abbrev pub Stretches : Stretch → List ℕ → Type 0
Stretches (UpTo i) s = (i < length s) × (scan_from Outside s 0 ≡ record { place = At i; value = take i s })
Stretches All s = scan_from Outside s 0 ≡ record { place = Nowhere; value = s }
Stretches Unknown s = Unit {0}

-- all bytes before place i were put as they stand, and the scan is in state q
pub record Passed (s : List ℕ) (q : Quoting) (i : ℕ) : Type 0 where
  pub within : i ≤ length s
  pub left : put_before (take i s) (scan_from q (drop i s) i) ≡ scan_from Outside s 0

-- the same behind a string: it is closed there, unless the text ends first
pub record PassedString (s : List ℕ) (from i : ℕ) : Type 0 where
  pub q : Quoting
  pub passed : Passed s q i
  pub further : from ≤ i
  pub closed : i < length s → q ≡ Closed

-- the first byte of a text of `all` bytes that stands from byte `from` on, where `left` of them are left behind the blanks at its front
abbrev pub first_of : ℕ → ℕ → ℕ → ℕ
first_of from all left = cond (eqb left 0) from (from + (all - left))

-- the halves of a text without its blanks, which begins at byte `first`
unfoldable pub halves_at : ℕ → List ℕ → Result Halves Fault
halves_at first s =
    let r = scan_from Outside s 0 in
    answer_placed (λ (why : Refusal). odd_by r.place first) (parts_at r.place s r.value)
