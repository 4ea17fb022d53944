-- Texts that are put together from two, and the number of cards behind an entry's reading.
use Prim.Native.Nat.{ℕ, ◌+◌, ◌^◌, ◌<◌, ◌≤◌}
use native.Mathlib.Omega.{arith}
use mathlib.Core.Path.{◌≡◌, ap, ◌∙◌}
use mathlib.Core.Bool.{Bool, true, false, cond}
use mathlib.Core.List.{List, [], ◌∷◌, ◌++◌, append-nil}
use borrow.Author.Tests.{lt-ltb, le-ltb}
use lib.Dec.{ltb}
use lib.ListN.{length, take}
use Rattle.text.specs.declared.Text.{Text}
use Rattle.text.specs.Bytes.{ascii, line_feed}
use Rattle.text.specs.Text.{size, text_of, bytes_of}
use Rattle.text.proofs.Texts.{text-bytes}
use Rattle.numerals.specs.Numerals.{decimal_digits}
use Rattle.numerals.proofs.Decimals.{few-digits, text-before}
use Rattle.lines.specs.Lines.{kind_letter, reading_of, spaced_reading, times_part, entry_line, plain_line, PlainOnce}

-- two texts that fit into one, made of u and of v
pub both_whole : {front behind : Text} (u v : List ℕ) → front ≡ text_of u → behind ≡ text_of v → length u + length v ≤ size
    → text_of (take size (bytes_of front ++ bytes_of behind)) ≡ text_of (u ++ v)
both_whole {behind = behind} u v p q h =
    ap (λ (l : List ℕ). text_of (take size (l ++ bytes_of behind))) (text-bytes u p) ∙ text-before u v q h

-- ---- the number of cards

pub none-shown : (n : ℕ) → n ≤ 1 → times_part n ≡ []
none-shown n h = rw (le-ltb 1 n h)

pub some-shown : (n : ℕ) → 1 < n → times_part n ≡ ascii " x" ++ decimal_digits n
some-shown n h = rw (lt-ltb 1 n h)

pub short-times : (n : ℕ) → n < 2 ^ 64 → length (times_part n) ≤ 22
short-times n h = go (ltb 1 n)
  where
    go : (t : Bool) → length (cond t (ascii " x" ++ decimal_digits n) []) ≤ 22
    go true = omega (arith, few-digits n h)
    go false = omega arith

-- a line without a number
pub plain_once : PlainOnce
unfolding entry_line plain_line
plain_once name v digits text n h =
    let front = name ++ ascii " " ++ kind_letter v ∷ spaced_reading (reading_of v digits text) in
    ap (λ (l : List ℕ). l ++ line_feed ∷ []) (ap (λ (l : List ℕ). front ++ l) (none-shown n h) ∙ append-nil front)
