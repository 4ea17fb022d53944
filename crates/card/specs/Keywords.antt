-- Keywords and names (SPECIFICATION 3; the standard, 4.1.2.1 and 4.4.2).
use Rattle.std.specs.Prelude.{ℕ, Bool, true, false, cond, List, [], ◌∷◌, ◌++◌, leb, take}
use Prim.Native.Char.{code}
use Rattle.text.specs.Bytes.{ascii, is_blank}
use Rattle.text.specs.Trim.{trim}
use Rattle.text.specs.Same.{same}
use Rattle.card.specs.declared.Class.{Class}
use Rattle.card.specs.declared.Class.TheVariants.{Empty, Comment, History, Continue, Xtension, Hierarch, End, Other}

-- the first byte behind those of ASCII
abbrev pub first_high : ℕ
first_high = 128

-- a byte of 128 or more stands in it
unfoldable pub has_high : List ℕ → Bool
has_high [] = false
has_high (b ∷ s) = cond (leb first_high b) true (has_high s)

-- bytes 0..7, trimmed at both ends
abbrev pub keyword_of : List ℕ → List ℕ
keyword_of c = trim is_blank (take 8 c)

-- what a keyword says of its card
unfoldable pub class_of : List ℕ → Class
class_of k =
    cond (same k []) Empty
    (cond (same k (ascii "COMMENT")) Comment
    (cond (same k (ascii "HISTORY")) History
    (cond (same k (ascii "CONTINUE")) Continue
    (cond (same k (ascii "XTENSION")) Xtension
    (cond (same k (ascii "HIERARCH")) Hierarch
    (cond (same k (ascii "END")) End
    Other))))))

-- ---- the name of a HIERARCH card: the blank-separated pieces, joined by full stops
abbrev pub onto : ℕ → List (List ℕ) → List (List ℕ)
onto b [] = (b ∷ []) ∷ []
onto b (p ∷ ps) = (b ∷ p) ∷ ps

-- what stands before, between and after the blanks; some pieces may be empty
unfoldable pub name_pieces : List ℕ → List (List ℕ)
name_pieces [] = [] ∷ []
name_pieces (b ∷ s) = cond (is_blank b) ([] ∷ name_pieces s) (onto b (name_pieces s))

-- a full stop before a name that is not empty
abbrev pub stop_and : List ℕ → List ℕ
stop_and [] = []
stop_and (b ∷ s) = code "." ∷ b ∷ s

-- the pieces that are not empty, joined by full stops
unfoldable pub join_pieces : List (List ℕ) → List ℕ
join_pieces [] = []
join_pieces ([] ∷ ps) = join_pieces ps
join_pieces ((b ∷ p) ∷ ps) = (b ∷ p) ++ stop_and (join_pieces ps)

abbrev pub dotted_name : List ℕ → List ℕ
dotted_name s = join_pieces (name_pieces s)
