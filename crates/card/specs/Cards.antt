-- Any 80 bytes as a card, or one refusal (SPECIFICATION 3; the standard, 4.1 and 4.2).
use Rattle.std.specs.Prelude.{ℕ, ◌+◌, ◌-◌, Bool, true, false, cond, ◌&&◌, List, [], ◌∷◌, map, leb, length, get_or, take, drop}
use Rattle.std.specs.Prelude.{Err, None, Ok, Option, Result, Some}
use Prim.Native.Char.{code}
use Rattle.refusal.specs.declared.Fault.{Fault}
use Rattle.refusal.specs.declared.Refusal.TheVariants as R
use Rattle.refusal.specs.Numbers.{fault_of, answer_placed}
use Rattle.text.specs.declared.Text.{Text}
use Rattle.text.specs.Bytes.{ascii, is_space, is_blank, shown}
use Rattle.text.specs.Trim.{trim, trim_end}
use Rattle.text.specs.Same.{same}
use Rattle.text.specs.Ends.{ends_with}
use Rattle.text.specs.Place.{place_of}
use Rattle.text.specs.Text.{text_of, bytes_of}
use Rattle.splitting.specs.declared.Halves.{Halves}
use Rattle.splitting.specs.Split.{split_of}
use Rattle.splitting.specs.Strings.{is_quote, string_of}
use Rattle.numbers.specs.declared.Value.{Value}
use Rattle.value.specs.declared.ValueRead.{ValueRead}
use Rattle.value.specs.Values.{value_of}
use Rattle.card.specs.declared.Card.{Card}
use Rattle.card.specs.declared.Card.TheVariants as C
use Rattle.card.specs.declared.CardRead.{CardRead}
use Rattle.card.specs.declared.Class.{Class}
use Rattle.card.specs.declared.Class.TheVariants.{Empty, Comment, History, Continue, Xtension, Hierarch, End, Other}
use Rattle.card.specs.Keywords.{has_high, keyword_of, class_of, dotted_name}
use Rattle.card.specs.Columns.{column_of}

-- a card with no comment
abbrev pub card_as : Card → Text → Text → CardRead
card_as card name text = record { card = card; name = name; text = text; comment = None }

-- ---- empty, COMMENT, HISTORY: text from byte 8, each byte outside 32..126 replaced, then blanks cut at the end
abbrev pub remark_of : List ℕ → List ℕ
remark_of c = trim_end is_blank (map shown (drop 8 c))

-- an empty keyword with empty text is a space card
abbrev pub space_or : List ℕ → CardRead
space_or [] = card_as C.Space (text_of []) (text_of [])
space_or (b ∷ s) = card_as C.Comment (text_of []) (text_of (b ∷ s))

unfoldable pub empty_of : List ℕ → CardRead
empty_of c = space_or (remark_of c)

-- ---- CONTINUE: text from byte 8, a string with or without quotes
abbrev pub string_card : Result Text Fault → Text → Option Text → Result CardRead Fault
string_card (Ok text) name comment = Ok (record { card = C.Continuation; name = name; text = text; comment = comment })
string_card (Err fault) name comment = Err fault

abbrev pub continued : Result Halves Fault → Text → Result CardRead Fault
continued (Ok h) name = string_card (string_of (bytes_of h.value)) name h.comment
continued (Err fault) name = Err fault

unfoldable pub continuation_of : Text → List ℕ → Result CardRead Fault
continuation_of name c = continued (split_of (drop 8 c)) name

-- ---- XTENSION: text from byte 10, within quotes; the text inside them, without spaces at either end, and no comment
unfoldable pub is_within_quotes : List ℕ → Bool
is_within_quotes s = leb 2 (length s) && (is_quote (get_or s 0 0) && ends_with (code "'") s)

abbrev pub inside : List ℕ → List ℕ
inside s = take (length s - 1 - 1) (drop 1 s)

unfoldable pub quoted_card : Text → Text → Result CardRead Fault
quoted_card name v =
    cond (is_within_quotes (bytes_of v))
    (Ok (card_as C.Xtension name (text_of (trim is_space (inside (bytes_of v))))))
    (Err (fault_of R.ExtensionNotQuoted))

abbrev pub extended : Result Halves Fault → Text → Result CardRead Fault
extended (Ok h) name = quoted_card name h.value
extended (Err fault) name = Err fault

unfoldable pub extension_of : Text → List ℕ → Result CardRead Fault
extension_of name c = extended (split_of (drop 10 c)) name

-- ---- cards that hold a value
abbrev pub card_with : Bool → Value → Card
card_with true v = C.Hierarch v
card_with false v = C.Value v

abbrev pub of_value : Bool → Text → Result ValueRead Fault → Result CardRead Fault
of_value dotted name (Ok r) = Ok (record { card = card_with dotted r.value; name = name; text = r.text; comment = r.comment })
of_value dotted name (Err fault) = Err fault

-- ---- HIERARCH: the first = from byte 9 on; the name before it, the value text behind it
abbrev pub named : List ℕ → List ℕ → Result CardRead Fault
named [] raw = Err (fault_of R.NoName)
named (b ∷ n) raw = of_value true (text_of (b ∷ n)) (value_of raw)

abbrev pub by_equals : Option ℕ → List ℕ → Result CardRead Fault
by_equals None c = Err (fault_of R.NoEquals)
by_equals (Some i) c = named (dotted_name (take i (drop 9 c))) (drop (10 + i) c)

unfoldable pub hierarch_of : List ℕ → Result CardRead Fault
hierarch_of c = by_equals (place_of (code "=") (drop 9 c)) c

-- ---- any other keyword: with "= " at bytes 8 and 9 a value card, otherwise undefined, which holds the whole card
unfoldable pub other_of : Text → List ℕ → Result CardRead Fault
other_of name c =
    cond (same (take 2 (drop 8 c)) (ascii "= "))
    (of_value false name (value_of (drop 10 c)))
    (Ok (card_as C.Undefined name (text_of c)))

abbrev pub by_class : Class → Text → List ℕ → Result CardRead Fault
by_class Empty name c = Ok (empty_of c)
by_class Comment name c = Ok (card_as C.Comment name (text_of (remark_of c)))
by_class History name c = Ok (card_as C.History name (text_of (remark_of c)))
by_class Continue name c = continuation_of name c
by_class Xtension name c = extension_of name c
by_class Hierarch name c = hierarch_of c
by_class End name c = Ok (card_as C.End name (text_of []))
by_class Other name c = other_of name c

-- a card without a byte of 128 or more, by what its keyword says
abbrev pub low_of : List ℕ → Result CardRead Fault
low_of c = by_class (class_of (keyword_of c)) (text_of (keyword_of c)) c

-- a card by its bytes, a refusal without its column
unfoldable pub unplaced_of : List ℕ → Result CardRead Fault
unplaced_of c = cond (has_high c) (Err (fault_of R.HighByte)) (low_of c)

-- a card by its bytes, with the column beside a refusal
unfoldable pub card_of : List ℕ → Result CardRead Fault
card_of c = answer_placed (column_of c) (unplaced_of c)
