-- The cards that hold a name and its value (SPECIFICATION 16.1 and 15.2; the standard, 4.1 and 4.2).
use Rattle.std.specs.Prelude.{ℕ, ◌-◌, Bool, true, false, cond, List, [], ◌∷◌, ◌++◌, map, length, replicate, ℤ}
use Prim.Native.Char.{code}
use Rattle.text.specs.Bytes.{ascii}
use Rattle.text.specs.Text.{size, filled}
use Rattle.numbers.specs.declared.Size.TheVariants.{Finite, Infinite, Nan}
use Rattle.numbers.specs.declared.Value.{Value}
use Rattle.numbers.specs.declared.Value.TheVariants.{Integer, Float, Logical, String, Undefined, Invalid}
use Rattle.numerals.specs.Numerals.{minus_of, signed_digits, finite_text}
use Rattle.roles.specs.Roles.{Comment, Held, has_text, has_digits, is_string}
use Rattle.writing.specs.Pieces.{tail_of, Piece, piece_text, pieces_of}

-- ---- one card

-- ten bytes in front, a text from byte 10 on, then spaces to byte 79
abbrev pub card_from : List ℕ → List ℕ → List ℕ
card_from front t = filled (code " ") size (front ++ t)

-- a name in bytes 0 to 7, "= " at 8 and 9
unfoldable pub name_front : List ℕ → List ℕ
name_front name = filled (code " ") 8 name ++ ascii "= "

abbrev pub continue_front : List ℕ
continue_front = ascii "CONTINUE  "

-- ---- logicals and numbers

abbrev pub truth_text : Bool → List ℕ
truth_text true = ascii "T"
truth_text false = ascii "F"

-- a decimal: its sign, its digits, E and its power
abbrev pub decimal_text : Bool → List ℕ → ℤ → List ℕ
decimal_text minus digits power = minus_of minus ++ finite_text (code "E") digits power

-- the bytes from byte 10 to byte 29, where a logical or number ends
abbrev pub number_room : ℕ
number_room = 20

-- it ends at byte 29, or starts at byte 10 where it is longer than 20
unfoldable pub justified : List ℕ → List ℕ
justified t = replicate (number_room - length t) (code " ") ++ t

-- with its comment behind it
abbrev pub plain_text : List ℕ → Comment → List ℕ
plain_text t c = justified t ++ tail_of c

abbrev pub plain_cards : List ℕ → List ℕ → Comment → List (List ℕ)
plain_cards name t c = card_from (name_front name) (plain_text t c) ∷ []

-- ---- strings

-- the first piece under the name, the others on CONTINUE cards
abbrev pub string_cards : List ℕ → List Piece → List (List ℕ)
string_cards name [] = []
string_cards name (p ∷ ps) = card_from (name_front name) (piece_text p) ∷ map (λ (q : Piece). card_from continue_front (piece_text q)) ps

-- ---- every kind

-- the cards of a value: a decimal's digits or a string's text stands beside it
abbrev pub written_cards : Value → List ℕ → List ℕ → Comment → List (List ℕ)
written_cards (Integer z) name text c = plain_cards name (signed_digits z) c
written_cards (Float minus (Finite power)) name text c = plain_cards name (decimal_text minus text power) c
written_cards (Float minus Infinite) name text c = []
written_cards (Float minus Nan) name text c = []
written_cards (Logical t) name text c = plain_cards name (truth_text t) c
written_cards String name text c = string_cards name (pieces_of text c)
written_cards Undefined name text c = []
written_cards Invalid name text c = []

-- what a lookup is to answer of them
abbrev pub held_for : Value → List ℕ → Comment → Held
held_for v text c =
    record {
      value = v;
      digits = cond (has_digits v) text [];
      words = record { text = cond (has_text v) text []; comment = c; joins = is_string v };
    }
