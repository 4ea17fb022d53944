-- The passes over a text, and the parts of the cards, as they are written one behind another.
use Rattle.std.specs.Prelude.{ℕ, Bool, cond, List, [], ◌∷◌, ◌++◌, map, eqb, ℤ, replicate, Result}
use Prim.Native.Char.{code}
use Rattle.text.specs.Bytes.{ascii}
use Rattle.text.specs.Text.{filled}
use Rattle.numerals.specs.Numerals.{power_text}
use Rattle.roles.specs.Roles.{Comment}
use Rattle.refusal.specs.declared.Refusal.TheVariants.{UnwritableValue}
use Rattle.writing.specs.Pieces.{doubled, tail_of, Piece, piece_text, text_room}
use Rattle.writing.specs.Written.{card_from, continue_front}
use Rattle.writing.specs.Block.{flat, WriteOutcome, put_cards, not_written}
use Rattle.refusal.specs.declared.Fault.{Fault}

-- n spaces
abbrev pub spaces : ℕ → List ℕ
spaces n = replicate n (code " ")

-- a text, and spaces in every place up to n
abbrev pub spaced : ℕ → List ℕ → List ℕ
spaced n t = filled (code " ") n t

-- a byte as it stands within quotes
unfoldable pub in_quotes : ℕ → List ℕ
in_quotes b = cond (eqb b (code "'")) (code "'" ∷ code "'" ∷ []) (b ∷ [])

-- an opening quote, characters, what closes them, and a comment
abbrev pub closed_by : List ℕ → List ℕ → Comment → List ℕ
closed_by close s c = code "'" ∷ (doubled s ++ (close ++ tail_of c))

-- the bytes of a card from byte 10 on
abbrev pub body_of : List ℕ → List ℕ
body_of t = spaced text_room t

-- the bytes of a string's cards from byte 10 of the first one on
abbrev pub bodies_of : List Piece → List ℕ
bodies_of [] = []
bodies_of (p ∷ ps) = body_of (piece_text p) ++ flat (map (λ (q : Piece). card_from continue_front (piece_text q)) ps)

-- what stands behind the digits of a decimal
abbrev pub scale_of : List ℕ → ℤ → List ℕ
scale_of [] power = ascii "0E0"
scale_of (b ∷ d) power = power_text (code "E") power

-- an answer with the block that it leaves
abbrev pub write_outcome : Result ℕ Fault → List ℕ → WriteOutcome
write_outcome r block = record { answer = r; block = block }

-- cards put into a block where their value may be written
unfoldable pub put_where : Bool → List (List ℕ) → List ℕ → WriteOutcome
put_where writable cards block = cond writable (put_cards cards block) (not_written UnwritableValue block)
