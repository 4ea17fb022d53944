-- A string as it is written: within quotes, in pieces that fit a card (SPECIFICATION 16.2; the standard, 4.2.1.1 and 4.2.1.2).
use Rattle.std.specs.Prelude.{ℕ, zero, suc, ◌-◌, Bool, cond, List, [], ◌∷◌, ◌++◌, eqb, leb, length, Option, None, Some}
use Rattle.std.specs.Borrow.{Bor}
use Prim.Native.Char.{code}
use Rattle.text.specs.Bytes.{ascii}
use Rattle.roles.specs.Roles.{Comment}

-- a text in which every quote is doubled
unfoldable pub doubled : List ℕ → List ℕ
doubled [] = []
doubled (b ∷ s) = cond (eqb b (code "'")) (code "'" ∷ code "'" ∷ doubled s) (b ∷ doubled s)

-- within its quotes, unpadded
abbrev pub quoted : List ℕ → List ℕ
quoted s = code "'" ∷ (doubled s ++ ascii "'")

-- a comment as it follows a value: a space, a slash, and the comment directly behind it
abbrev pub tail_of : Comment → List ℕ
tail_of None = []
tail_of (Some c) = code " " ∷ code "/" ∷ c

-- a comment as it is lent
abbrev pub comment_lent : Option (Bor (List ℕ)) → Comment
comment_lent None = None
comment_lent (Some c) = Some c.now

-- the bytes that a character takes within quotes
unfoldable pub bytes_for : ℕ → ℕ
bytes_for b = cond (eqb b (code "'")) 2 1

-- as many characters as fit in n bytes, a doubled quote uncut
unfoldable pub fitting : ℕ → List ℕ → List ℕ
fitting n [] = []
fitting n (b ∷ s) = cond (leb (bytes_for b) n) (b ∷ fitting (n - bytes_for b) s) []

-- and those behind them
unfoldable pub leftover : ℕ → List ℕ → List ℕ
leftover n [] = []
leftover n (b ∷ s) = cond (leb (bytes_for b) n) (leftover (n - bytes_for b) s) (b ∷ s)

-- what one card holds of a string
pub record Piece : Type 0 where
  pub text : List ℕ
  pub comment : Comment

-- as it stands on the card, from byte 10 on
abbrev pub piece_text : Piece → List ℕ
piece_text p = quoted p.text ++ tail_of p.comment

-- the bytes of a card from byte 10 on
abbrev pub text_room : ℕ
text_room = 70

-- those that the characters of a card may take before the & of a string that goes on
abbrev pub open_room : ℕ
open_room = 67

-- a piece fits a card
abbrev pub fits : Piece → Bool
fits p = leb (length (piece_text p)) text_room

-- a string's rest with its comment, as the last card holds it
abbrev pub last_piece : List ℕ → Comment → Piece
last_piece s c = record { text = s; comment = c }

-- as many characters as fit, then &
abbrev pub open_piece : List ℕ → Piece
open_piece s = record { text = fitting open_room s ++ ascii "&"; comment = None }

-- the pieces of a string, at most n of them before the last
unfoldable pub pieces_from : ℕ → List ℕ → Comment → List Piece
pieces_from zero s c = last_piece s c ∷ []
pieces_from (suc n) s c = cond (fits (last_piece s c)) (last_piece s c ∷ []) (open_piece s ∷ pieces_from n (leftover open_room s) c)

-- each piece before the last takes a character at least, so there are no more of them than characters
abbrev pub pieces_of : List ℕ → Comment → List Piece
pieces_of s c = pieces_from (length s) s c
