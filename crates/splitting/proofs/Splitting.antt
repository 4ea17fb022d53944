-- What a scan finds lies within the text, and splitting by what was found.
use Rattle.std.specs.Prelude.{Option, Result, Ok, Err}
use Prim.Native.Nat.{ℕ, suc, ◌+◌, ◌-◌, ◌<◌, ◌≤◌}
use native.Mathlib.Nat.{zero-add}
use native.Mathlib.Omega.{arith}
use mathlib.Core.Path.{◌≡◌, refl, sym, ap, ◌∙◌}
use mathlib.Core.List.{List, [], ◌∷◌}
use borrow.Author.Tests.{ne_eqb}
use lib.ListN.{length, length-append}
use Rattle.refusal.specs.declared.Refusal.{Refusal}
use Rattle.refusal.specs.declared.Refusal.TheVariants as R
use Rattle.splitting.specs.declared.Quoting.{Quoting}
use Rattle.splitting.specs.declared.Quoting.TheVariants.{Outside}
use Rattle.splitting.specs.declared.Slash.{Slash}
use Rattle.splitting.specs.declared.Slash.TheVariants.{At, Nowhere, Bad}
use Rattle.splitting.specs.declared.Scanned.{Scanned}
use Rattle.splitting.specs.declared.Halves.{Halves}
use Rattle.text.specs.Bytes.{is_blank, is_space}
use Rattle.text.specs.Trim.{trim_start, leading, trim}
use Rattle.text.specs.Text.{size, bytes_of}
use Rattle.splitting.specs.Scan.{Move, ends, rejects, puts, passes, move, byte_class, Scan, after, scan_from}
use Rattle.splitting.specs.Scanned.{scanned_of, first_of, halves_at}
use Rattle.splitting.specs.Split.{parts_at, split_of}
use Rattle.splitting.specs.Columns.{first_by, first_byte, odd_by, text_column}
use Rattle.refusal.specs.declared.Fault.{Fault}
use Rattle.refusal.specs.Numbers.{answer_placed}
use Rattle.text.proofs.Trimming.{shorter, end_shorter, leading-and-rest}
use Rattle.text.proofs.Texts.{bytes-text}

-- a place, if there is one, is below n
abbrev pub Below : ℕ → Slash → Type 0
Below n (At k) = k < n
Below n Nowhere = Unit {0}
Below n (Bad k) = k < n

-- the value text is no longer than the text, and a place is one of its places
abbrev Within : ℕ → ℕ → Scan → Type 0
Within i n r = (length r.value ≤ n) × Below (i + n) r.place

pub scan_within : (q : Quoting) (s : List ℕ) (i : ℕ) → Within i (length s) (scan_from q s i)
unfolding scan_from after
scan_within q [] i = (omega arith, tt)
scan_within q (b ∷ s) i = turn (move q (byte_class b)) (λ (r : Quoting). scan_within r s (suc i))
  where
    later : (p : Slash) → Below (suc i + length s) p → Below (i + suc (length s)) p
    later (At k) h = omega arith
    later Nowhere h = tt
    later (Bad k) h = omega arith

    turn : (m : Move) → ((r : Quoting) → Within (suc i) (length s) (scan_from r s (suc i)))
        → Within i (suc (length s)) (after m b i (λ (r : Quoting). scan_from r s (suc i)))
    turn ends h = (omega arith, omega arith)
    turn rejects h = (omega arith, omega arith)
    turn (puts r) h = (omega (arith, (h r).0), later (scan_from r s (suc i)).place (h r).1)
    turn (passes r) h = (omega (arith, (h r).0), later (scan_from r s (suc i)).place (h r).1)

-- where the scan of a whole text stops
pub place-within : (s : List ℕ) → Below (length s) (scan_from Outside s 0).place
place-within s = rw (zero-add (length s)) at (scan_within Outside s 0).1

pub scanned_within : (s : List ℕ) (f : Scanned) → f ≡ scanned_of s → (f.value.len ≤ length s) × Below (length s) f.slash
unfolding scanned_of
scanned_within s f e = rw e ((scan_within Outside s 0).0, place-within s)

-- the parts of a text that begins at byte `first`, by where the slash stands
abbrev pub parts_from : ℕ → Slash → List ℕ → List ℕ → Result Halves Fault
parts_from first p s v = answer_placed (λ (why : Refusal). odd_by p first) (parts_at p s v)

-- the parts by what a scan of the text found
pub parts_found : (first : ℕ) (s : List ℕ) (f : Scanned) → f ≡ scanned_of s
    → parts_from first f.slash s (bytes_of f.value) ≡ halves_at first s
unfolding halves_at scanned_of
parts_found first s f scans = rw (scans, bytes-text)

-- the parts by what the scan of the text is known to find
pub parts_plain : (first : ℕ) (s v : List ℕ) (p : Slash) → scan_from Outside s 0 ≡ record { place = p; value = v }
    → parts_from first p s v ≡ halves_at first s
unfolding halves_at
parts_plain first s v p e = sym (ap (λ (r : Scan). parts_from first r.place s r.value) e)

-- 2 is the only refusal of the parts, so they ask for its column alone
parts_placed : (p : Slash) (first : ℕ) (s v : List ℕ) (f : Refusal → Option ℕ) → f R.OddByte ≡ odd_by p first
    → parts_from first p s v ≡ answer_placed f (parts_at p s v)
parts_placed (At i) first s v f e = refl
parts_placed Nowhere first s v f e = refl
parts_placed (Bad i) first s v f e =
    ap (λ (x : Option ℕ). answer_placed (λ (why : Refusal). x) (parts_at (Bad i) s v)) (sym e)

-- the halves of the trimmed text are those of the text on its card
pub halves_placed_lem : (from : ℕ) (t : List ℕ)
    → halves_at (first_byte from t) (trim is_blank t) ≡ answer_placed (text_column from t) (split_of t)
unfolding halves_at split_of
halves_placed_lem from t =
    let s = trim is_blank t in
    let r = scan_from Outside s 0 in
    parts_placed r.place (first_byte from t) s r.value (text_column from t) refl

-- ---- where a text begins

-- the blanks at the front and what is left of a text
parted : (t : List ℕ) → length (leading is_blank t) + length (trim_start is_blank t) ≡ length t
parted t = sym (length-append (leading is_blank t) (trim_start is_blank t)) ∙ ap length (leading-and-rest is_blank t)

-- the first byte by lengths: what the blanks at the front leave, and the whole
pub first_by_lengths : (from : ℕ) (t : List ℕ) → first_of from (length t) (length (trim_start is_blank t)) ≡ first_byte from t
unfolding first_byte
first_by_lengths from t = go (trim_start is_blank t) (length (leading is_blank t)) (length t) (parted t)
  where
    go : (rest : List ℕ) (blanks all : ℕ) → blanks + length rest ≡ all
        → first_of from all (length rest) ≡ first_by rest from blanks
    go [] blanks all e = refl
    go (b ∷ s) blanks all e =
        let some : suc (length s) ≡ 0 → ⊥ = λ e. omega arith in
        let cut : all - suc (length s) ≡ blanks = omega arith in
        rw (ne_eqb (suc (length s)) 0 some, cut)

module _ (from : ℕ) (t : List ℕ) (few : length t ≤ size - from) where
  -- a text that stands from a byte of the card on begins on the card
  pub first-within : from < size → first_byte from t < size
  unfolding first_byte
  first-within low = go (trim_start is_blank t) (parted t)
    where
      go : (rest : List ℕ) → length (leading is_blank t) + length rest ≡ length t
          → first_by rest from (length (leading is_blank t)) < size
      go [] e = low
      go (b ∷ s) e = omega arith

  -- and each byte of it without its blanks stands on the card
  pub byte-within : (i : ℕ) → i < length (trim is_blank t) → first_byte from t + i < size
  unfolding first_byte trim
  byte-within i h = go (trim_start is_blank t) (omega (arith, end_shorter is_blank (trim_start is_blank t))) (parted t)
    where
      go : (rest : List ℕ) → i < length rest → length (leading is_blank t) + length rest ≡ length t
          → first_by rest from (length (leading is_blank t)) + i < size
      go [] h e = absurd (omega arith)
      go (b ∷ s) h e = omega arith

-- the value text, if there is one, fits
abbrev pub ValueFits : Result Halves Fault → Type 0
ValueFits (Ok h) = h.value.len ≤ size
ValueFits (Err x) = Unit {0}

pub placed_fits : (f : Refusal → Option ℕ) (a : Result Halves Fault) → ValueFits a → ValueFits (answer_placed f a)
placed_fits f (Ok h) e = e
placed_fits f (Err x) e = tt

-- the value text fits where the text does
pub value_fits_lem : (t : List ℕ) → length t ≤ size → ValueFits (split_of t)
unfolding split_of
value_fits_lem t h = go r.place
  where
    s : List ℕ
    s = trim is_blank t

    r : Scan
    r = scan_from Outside s 0

    go : (p : Slash) → ValueFits (parts_at p s r.value)
    go (At i) = omega (arith, shorter is_space r.value, (scan_within Outside s 0).0, shorter is_blank t)
    go Nowhere = omega (arith, shorter is_space r.value, (scan_within Outside s 0).0, shorter is_blank t)
    go (Bad i) = tt
