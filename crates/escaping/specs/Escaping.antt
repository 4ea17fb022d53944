-- Bytes made visible: each one outside 32..126 as a backslash, x and two hexadecimal digits (SPECIFICATION 13).
use Rattle.std.specs.Prelude.{ℕ, ◌+◌, ◌/◌, ◌%◌, ◌≡◌, Bool, true, cond, ◌&&◌, List, [], ◌∷◌, ◌++◌, ltb, length, take}
use Prim.Native.Char.{code}
use Rattle.std.proofs.lemmas.List.Edits.{sets}
use Rattle.text.specs.Bytes.{is_printable, are_printable}
use Rattle.escaping.specs.declared.Escaped.{Escaped}

-- 0 to 9, then A to F
abbrev pub hex_digit : ℕ → ℕ
hex_digit n = cond (ltb n 10) (code "0" + n) (code "7" + n)

-- a byte as it is shown
unfoldable pub escaped_byte : ℕ → List ℕ
escaped_byte b = cond (is_printable b) (b ∷ []) (code "\\" ∷ code "x" ∷ hex_digit (b / 16) ∷ hex_digit (b % 16) ∷ [])

-- a text as it is shown
unfoldable pub escaped : List ℕ → List ℕ
escaped [] = []
escaped (b ∷ s) = escaped_byte b ++ escaped s

-- what was taken of a text and put into a lent buffer, and the buffer after it
pub record EscapeOutcome : Type 0 where
  pub taken : ℕ
  pub put : ℕ
  pub content : List ℕ

abbrev pub escape_outcome : Escaped → List ℕ → EscapeOutcome
escape_outcome r content = record { taken = r.taken; put = r.put; content = content }

-- the first bytes of a text, shown at the front of a buffer
abbrev pub escaped_in : List ℕ → List ℕ → EscapeOutcome
escaped_in part out = record { taken = length part; put = length (escaped part); content = sets out 0 (escaped part) }

-- as many bytes are taken as the buffer has four places for
abbrev pub escape_of : List ℕ → List ℕ → EscapeOutcome
escape_of s out = escaped_in (take (length out / 4) s) out

-- ---- what is shown forges no line

-- whether each of the numbers is a byte
unfoldable pub are_bytes : List ℕ → Bool
are_bytes [] = true
are_bytes (b ∷ s) = ltb b 256 && are_bytes s

-- a text that is made visible holds printable bytes alone, so no line feed and no ESC
abbrev pub Visible : Type 0
Visible = (s : List ℕ) → are_bytes s ≡ true → are_printable (escaped s) ≡ true
