-- The byte of its card at which a text is refused (SPECIFICATION 2.4). The text stands on the card from byte `from` on.
use Rattle.std.specs.Prelude.{ℕ, ◌+◌, cond, List, [], ◌∷◌, eqb, length, None, Option, Some, Result}
use Rattle.refusal.specs.declared.Refusal.{Refusal}
use Rattle.refusal.specs.declared.Refusal.TheVariants as R
use Rattle.refusal.specs.declared.Fault.{Fault}
use Rattle.refusal.specs.Numbers.{number_of, answer_placed}
use Rattle.text.specs.declared.Text.{Text}
use Rattle.text.specs.Bytes.{is_blank}
use Rattle.text.specs.Trim.{trim_start, leading, trim}
use Rattle.splitting.specs.declared.Slash.{Slash}
use Rattle.splitting.specs.declared.Slash.TheVariants as S
use Rattle.splitting.specs.declared.Quoting.TheVariants.{Outside}
use Rattle.splitting.specs.declared.SplitRead.{SplitRead}
use Rattle.splitting.specs.Scan.{scan_from}
use Rattle.splitting.specs.Split.{split_of}
use Rattle.splitting.specs.Strings.{string_of}

-- ---- the columns

-- the first byte of a text without its blanks: the one behind those at its front. A text of blanks alone has the byte that it stands from.
abbrev pub first_by : List ℕ → ℕ → ℕ → ℕ
first_by [] from blanks = from
first_by (b ∷ s) from blanks = from + blanks

unfoldable pub first_byte : ℕ → List ℕ → ℕ
first_byte from t = first_by (trim_start is_blank t) from (length (leading is_blank t))

-- the byte that the scan of a text without its blanks refuses, where the text begins at byte `first`
abbrev pub odd_by : Slash → ℕ → Option ℕ
odd_by (S.At i) first = None
odd_by S.Nowhere first = None
odd_by (S.Bad i) first = Some (first + i)

abbrev pub odd_byte : ℕ → List ℕ → Option ℕ
odd_byte from t = odd_by (scan_from Outside (trim is_blank t) 0).place (first_byte from t)

-- 2 is met at the byte that the scan refuses, and any other refusal of a text (3, 4, 5, 8) at its first byte
abbrev pub text_column : ℕ → List ℕ → Refusal → Option ℕ
text_column from t why = cond (eqb (number_of why) (number_of R.OddByte)) (odd_byte from t) (Some (first_byte from t))

-- ---- answers with the column beside a refusal

-- a text on its card
abbrev pub split_from : ℕ → List ℕ → SplitRead
split_from from t = record { first = first_byte from t; halves = answer_placed (text_column from t) (split_of t) }

-- every refusal at one byte
abbrev pub at_byte : ℕ → Refusal → Option ℕ
at_byte byte why = Some byte

-- a string whose text begins at byte `first` of its card
abbrev pub string_from : ℕ → List ℕ → Result Text Fault
string_from first s = answer_placed (at_byte first) (string_of s)
