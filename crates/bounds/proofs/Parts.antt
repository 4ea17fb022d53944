-- How long the words of one card are.
use Rattle.std.specs.Prelude.{Option, None, Some, Result, Err, Ok}
use Prim.Native.Char.{code}
use Prim.Native.Nat.{ℕ, suc, ◌-◌, ◌≤◌}
use native.Mathlib.Omega.{arith}
use mathlib.Core.Path.{◌≡◌}
use mathlib.Core.Bool.{Bool, true, false, cond}
use mathlib.Core.List.{List, [], ◌∷◌, map}
use lib.ListN.{length, drop, length-drop, length-map, length-take}
use Rattle.refusal.specs.declared.Fault.{Fault}
use Rattle.refusal.specs.declared.Refusal.TheVariants as R
use Rattle.refusal.specs.Numbers.{fault_of}
use Rattle.text.specs.declared.Text.{Text}
use Rattle.text.specs.Bytes.{is_space, is_blank, shown}
use Rattle.text.specs.Trim.{trim, trim_end}
use Rattle.text.specs.Ends.{stem, ends_with}
use Rattle.text.specs.Text.{bytes_of}
use Rattle.text.proofs.Trimming.{shorter, end_shorter}
use Rattle.numbers.specs.declared.Value.{Value}
use Rattle.numbers.specs.declared.Value.TheVariants as Val
use Rattle.numbers.specs.Numbers.{read_number}
use Rattle.numbers.proofs.Lengths.{held_len, number_short}
use Rattle.splitting.specs.declared.Slash.{Slash}
use Rattle.splitting.specs.declared.Slash.TheVariants as S
use Rattle.splitting.specs.declared.Quoting.TheVariants.{Outside}
use Rattle.splitting.specs.declared.Halves.{Halves}
use Rattle.splitting.specs.Scan.{Scan, scan_from}
use Rattle.splitting.specs.Split.{parts_at, split_of}
use Rattle.splitting.specs.Strings.{is_quote, or_space, settled_of, reads, opened, unopened, string_of}
use Rattle.splitting.proofs.Splitting.{scan_within}
use Rattle.value.specs.declared.ValueRead.{ValueRead}
use Rattle.value.specs.declared.Start.{Start}
use Rattle.value.specs.declared.Start.TheVariants as St
use Rattle.value.specs.Values.{keeps_comment, value_as, by_quotes, of_string, of_number}
use Rattle.value.specs.Values.{by_start, by_bytes, start_of, value_with, by_parts, value_of}
use Rattle.roles.specs.Roles.{has_text}

-- ---- a text that may be missing, and an answer that may be refused
abbrev pub text_len : Option Text → ℕ
text_len (Some t) = t.len
text_len None = 0

abbrev pub ReadShort : {A : Type 0} → (A → Type 0) → Result A Fault → Type 0
ReadShort Short (Ok a) = Short a
ReadShort Short (Err f) = Unit {0}

-- ---- splitting
pub record HalvesShort (n : ℕ) (h : Halves) : Type 0 where
  pub value : h.value.len ≤ n
  pub comment : text_len h.comment ≤ n

pub split_short : (t : List ℕ) → ReadShort (HalvesShort (length t)) (split_of t)
unfolding split_of
split_short t = go r.place
  where
    s : List ℕ
    s = trim is_blank t

    r : Scan
    r = scan_from Outside s 0

    value : length (trim is_space r.value) ≤ length t
    value = omega (arith, shorter is_space r.value, (scan_within Outside s 0).0, shorter is_blank t)

    go : (p : Slash) → ReadShort (HalvesShort (length t)) (parts_at p s r.value)
    go (S.At i) =
        let rest = map shown (drop (suc i) s) in
        let same : length rest ≡ length (drop (suc i) s) = length-map (drop (suc i) s) shown in
        record { value = value; comment = omega (arith, end_shorter is_space rest, same, length-drop (suc i) s, shorter is_blank t) }
    go S.Nowhere = record { value = value; comment = omega arith }
    go (S.Bad i) = tt

-- a text has as many bytes as its length, or fewer
pub bytes_len : (t : Text) → length (bytes_of t) ≤ t.len
bytes_len t = omega (arith, length-take t.len t.bytes)

-- ---- strings
settled_short : (s : List ℕ) → length (settled_of s) ≤ length s
unfolding settled_of
settled_short [] = omega arith
settled_short (b ∷ s) = go (trim_end is_space (b ∷ s)) (end_shorter is_space (b ∷ s))
  where
    go : (r : List ℕ) → length r ≤ suc (length s) → length (or_space r) ≤ suc (length s)
    go [] h = omega arith
    go (c ∷ r) h = h

stem-short : (s : List ℕ) → length (stem s) ≤ length s
unfolding stem
stem-short s = omega (arith, length-take (length s - 1) s)

-- a string's text is short
abbrev pub StringShort : ℕ → Result Text Fault → Type 0
StringShort n = ReadShort (λ (t : Text). t.len ≤ n)

-- one of two strings
either : (n : ℕ) (t : Bool) (x y : Result Text Fault) → StringShort n x → StringShort n y → StringShort n (cond t x y)
either n true x y a b = a
either n false x y a b = b

pub string-short : (s : List ℕ) → StringShort (length s) (string_of s)
unfolding string_of opened unopened
string-short [] = settled_short []
string-short (b ∷ s) =
    either (suc (length s)) (is_quote b) (opened s) (unopened (b ∷ s))
    (either (suc (length s)) (ends_with (code "'") s) (reads (stem s)) (Err (fault_of R.StringNotClosed))
    (omega (arith, settled_short (stem s), stem-short s)) tt)
    (either (suc (length s)) (ends_with (code "'") (b ∷ s)) (Err (fault_of R.StringNotOpened)) (reads (b ∷ s)) tt
    (settled_short (b ∷ s)))

-- ---- the text of a value, where it is shown
abbrev pub shown_len : Value → ℕ → ℕ
shown_len v n = cond (has_text v) n 0

number-shown : (v : Value) (n : ℕ) → shown_len v n ≤ held_len v n
number-shown (Val.Integer z) n = omega arith
number-shown (Val.Float minus size) n = omega arith
number-shown (Val.Logical t) n = omega arith
number-shown Val.String n = omega arith
number-shown Val.Undefined n = omega arith
number-shown Val.Invalid n = omega arith

-- ---- values
pub record ValueShort (n : ℕ) (r : ValueRead) : Type 0 where
  pub text : shown_len r.value r.text.len ≤ n
  pub comment : text_len r.comment ≤ n

-- a value with a text and a comment of which both are short
as_short : (n : ℕ) (v : Value) (t : Text) (c : Option Text) → shown_len v t.len ≤ n → text_len c ≤ n
    → ValueShort n (value_as v t c)
as_short n v t c a b = record { text = a; comment = go (keeps_comment v) }
  where
    go : (k : Bool) → text_len (cond k c None) ≤ n
    go true = b
    go false = omega arith

module _ (n : ℕ) (v : Text) (raw : List ℕ) (c : Option Text) (a : length (bytes_of v) ≤ n) (b : text_len c ≤ n)
    (r : length raw ≤ n) where
  started_short : (x : Start) → ReadShort (ValueShort n) (by_start x v raw c)
  unfolding of_string of_number
  started_short St.Quote = go (string_of (bytes_of v)) (string-short (bytes_of v))
    where
      go : (q : Result Text Fault) → StringShort (length (bytes_of v)) q → ReadShort (ValueShort n) (by_quotes q c)
      go (Ok t) h = as_short n Val.String t c (omega (arith, h)) b
      go (Err f) h = tt
  started_short (St.Truth t) = as_short n (Val.Logical t) _ c (omega arith) b
  started_short St.Number =
      let x = read_number (bytes_of v) in
      as_short n x.value x.text c (omega (arith, number-shown x.value x.text.len, number_short (bytes_of v))) b
  started_short St.Complex = tt
  started_short St.Else = as_short n Val.Invalid _ c r b

  with_short : ReadShort (ValueShort n) (value_with v raw c)
  unfolding value_with
  with_short = go (bytes_of v)
    where
      go : (l : List ℕ) → ReadShort (ValueShort n) (by_bytes l v raw c)
      go [] = as_short n Val.Undefined _ c (omega arith) b
      go (x ∷ l) = started_short (start_of x)

pub value-short : (raw : List ℕ) → ReadShort (ValueShort (length raw)) (value_of raw)
unfolding value_of
value-short raw = go (split_of raw) (split_short raw)
  where
    go : (x : Result Halves Fault) → ReadShort (HalvesShort (length raw)) x → ReadShort (ValueShort (length raw)) (by_parts x raw)
    go (Ok h) s = with_short (length raw) h.value raw h.comment (omega (arith, bytes_len h.value, s.value)) s.comment (omega arith)
    go (Err f) s = tt
