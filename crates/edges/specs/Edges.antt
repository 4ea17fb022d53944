-- The starred rows of SPECIFICATION 15: one table and one statement, proved by computing.
-- A row is a card, a header of several cards in which KIT is looked up, or a tile. Beside them stand rows of an entry by its card's
-- number, rows of each refusal of a card with its column (SPECIFICATION 2.4), rows of both halves of a lookup (SPECIFICATION 10), and rows
-- of a comment's unit by both readings (SPECIFICATION 8).
use Rattle.std.specs.Prelude.{ℕ, ◌≡◌, refl, Bool, true, false, List, [], ◌∷◌, ◌++◌, map, ℤ, pos, replicate, take}
use Rattle.std.specs.Prelude.{Option, None, Some, Result, Ok, Err}
use Prim.Native.Char.{code}
use Prim.Native.String.{String}
use Rattle.refusal.specs.declared.Fault.{Fault}
use Rattle.refusal.specs.Numbers.{number_of}
use Rattle.text.specs.Bytes.{ascii, tab, line_feed, delete, is_space, is_blank, is_printable, is_digit, is_zero, shown, d_to_e}
use Rattle.text.specs.Trim.{trim_start, leading, cons_trimmed, trim_end, trim}
use Rattle.text.specs.Same.{same}
use Rattle.text.specs.Ends.{stem, ends_with}
use Rattle.text.specs.Place.{place_from}
use Rattle.text.specs.Text.{bytes_of, filled}
use Rattle.splitting.specs.Scan.{after, scan_from, byte_class}
use Rattle.splitting.specs.Split.{split_of}
use Rattle.splitting.specs.Strings.{settled_of, opened, unopened, string_of}
use Rattle.splitting.specs.Columns.{first_byte}
use Rattle.numbers.specs.declared.Size.{Size}
use Rattle.numbers.specs.declared.Size.TheVariants.{Finite, Infinite, Nan}
use Rattle.numbers.specs.declared.Value.{Value}
use Rattle.numbers.specs.declared.Value.TheVariants.{Integer, Float, Logical, String as Str, Undefined, Invalid}
use Rattle.numbers.specs.Signs.{is_sign, is_negative, unsigned}
use Rattle.numbers.specs.Digits.{is_digits, digits_value_from}
use Rattle.numbers.specs.Integers.{integer_of}
use Rattle.numbers.specs.Decimals.{fraction_of, after_fraction, is_mark, written_of, exponent_of}
use Rattle.numbers.specs.Decimals.{scaled, finite_of, lowered, is_word, decimal_of}
use Rattle.numbers.specs.Numbers.{read_number}
use Rattle.value.specs.Values.{starts_number, start_of, of_string, of_number, value_with, value_of}
use Rattle.value.specs.Units.{unit_of, unit_past_space, unit_bytes}
use Rattle.card.specs.declared.Card.{Card}
use Rattle.card.specs.declared.Card.TheVariants as C
use Rattle.card.specs.declared.CardRead.{CardRead}
use Rattle.card.specs.Keywords.{has_high, class_of, name_pieces, join_pieces}
use Rattle.card.specs.Columns.{high_from}
use Rattle.card.specs.Cards.{other_of, continuation_of, is_within_quotes, quoted_card, extension_of, hierarch_of, unplaced_of, card_of}
use Rattle.joining.specs.Words.{ends_open, adds_nothing, join_text, join_comment, opens, join_words}
use Rattle.joining.specs.Lookup.{join_on, lookup}
use Rattle.roles.specs.Cards.{cards_in, is_bad_length}
use Rattle.finding.specs.Finding.{header_from, header_of}
use Rattle.entries.specs.declared.NoEntry.{NoEntry}
use Rattle.entries.specs.declared.NoEntry.TheVariants as N
use Rattle.entries.specs.Answers.{met_on}
use Rattle.entries.specs.Halves.{named, numbered, ValueOutcome, value_in, value_named, value_numbered}
use Rattle.entries.specs.Halves.{CommentOutcome, comment_in, comment_named}
use Rattle.rice.specs.declared.Broken.{Broken}
use Rattle.rice.specs.Tile.{bit_at, field_at, zeros_at}
use Rattle.rice.specs.Widths.{pixel_of, in_width, modulo, wrap, difference}
use Rattle.rice.specs.Reads.{field_read, run_read, diff_read}
use Rattle.rice.specs.Blocks.{run_of, code_of, block_of}
use Rattle.rice.specs.Steps.{in_limits, width_of, plan_of, stands, step_of, open_of, steps_of, DecodeOutcome, decode_of}

-- ---- what is read

-- a card by its keyword and its value text, by its text from byte 0 on, or by bytes that have no character between two texts; a header
-- by the texts of its cards, for both halves after the bytes that are lent to each; an entry by its card's number and these texts; a
-- comment by its bytes, or as KIT's in a header; a tile by its width, its number of pixels and its bytes
pub data Input : Type 0 where
  card : String → String → Input
  line : String → Input
  with_bytes : String → List ℕ → String → Input
  header : List String → Input
  both_halves : ℕ → ℕ → List String → Input
  entry_no : ℕ → List String → Input
  bare_comment : List ℕ → Input
  kit_comment : List String → Input
  tile : ℕ → ℕ → List ℕ → Input

-- bytes, then spaces up to n
abbrev pub spaces_to : ℕ → List ℕ → List ℕ
spaces_to n s = filled (code " ") n s

-- the 80 bytes of a value card (the standard, 4.1.2): the keyword in 8 bytes, the value indicator, the value text
abbrev pub card_bytes : String → String → List ℕ
card_bytes keyword text = spaces_to 80 (spaces_to 8 (ascii keyword) ++ ascii "= " ++ ascii text)

-- the bytes of a header: each text in 80 bytes
abbrev pub header_bytes : List String → List ℕ
header_bytes [] = []
header_bytes (t ∷ ts) = spaces_to 80 (ascii t) ++ header_bytes ts

-- a byte that splitting refuses: the vertical tab is no blank
abbrev pub vertical_tab : ℕ
vertical_tab = 11

-- ---- the readings

-- in the terms of SPECIFICATION 15: a string by its text, an integer, a decimal by its sign, digits and power of ten, a refusal without
-- a column by its number, a refused card by the number and the column, a refused header by the number, the card and the column or that
-- there is none, both halves of a lookup each by its reading and the length beside it, a comment as a string by its text, a unit by its
-- place and its bytes, both readings of it side by side, a tile by its pixels and the bits used, a refused tile by the number, the pixels
-- written and the pixels lent
pub data Reading : Type 0 where
  string : List ℕ → Reading
  integer : ℤ → Reading
  decimal : Bool → List ℕ → ℤ → Reading
  refusal : ℕ → Reading
  refused_at : ℕ → ℕ → Reading
  refused_in : ℕ → ℕ → Option ℕ → Reading
  halves : Reading → ℕ → Reading → ℕ → Reading
  unit_at : Option (ℕ × ℕ) → Option (List ℕ) → Reading
  both_units : Reading → Reading → Reading
  pixels : List ℤ → ℕ → Reading
  stopped : ℕ → ℕ → List ℤ → Reading
  other : Reading

-- a refusal's, by its column
abbrev pub by_column : Option ℕ → ℕ → Reading
by_column (Some byte) number = refused_at number byte
by_column None number = refusal number

abbrev pub by_fault : Fault → Reading
by_fault fault = by_column fault.column (number_of fault.why)

-- a decimal's, with its digits
abbrev pub by_size : Size → Bool → List ℕ → Reading
by_size (Finite power) minus digits = decimal minus digits power
by_size Infinite minus digits = other
by_size Nan minus digits = other

-- a value's, with the text beside it
abbrev pub by_value : Value → List ℕ → Reading
by_value (Integer z) text = integer z
by_value (Float minus size) text = by_size size minus text
by_value (Logical b) text = other
by_value Str text = string text
by_value Undefined text = other
by_value Invalid text = other

-- a card's, with the text beside it
abbrev pub by_card : Card → List ℕ → Reading
by_card (C.Value v) text = by_value v text
by_card C.Continuation text = other
by_card C.Xtension text = other
by_card C.Comment text = other
by_card C.History text = other
by_card (C.Hierarch v) text = other
by_card C.Space text = other
by_card C.End text = other
by_card C.Undefined text = other

abbrev pub of_card : Result CardRead Fault → Reading
of_card (Ok r) = by_card r.card (bytes_of r.text)
of_card (Err fault) = by_fault fault

-- the value's half of a lookup or of an entry, with its text in the lent buffer
abbrev pub by_lookup : Result Value NoEntry → List ℕ → Reading
by_lookup (Ok v) text = by_value v text
by_lookup (Err (N.Header stop)) text = refused_in (number_of stop.fault.why) stop.card stop.fault.column
by_lookup (Err (N.Refused fault)) text = by_fault fault

abbrev pub of_value : ValueOutcome → Reading
of_value o = by_lookup o.answer.answer (take o.answer.text o.text)

-- the comment's half
abbrev pub by_there : Bool → List ℕ → Reading
by_there true comment = string comment
by_there false comment = other

abbrev pub by_comment_answer : Result Bool NoEntry → List ℕ → Reading
by_comment_answer (Ok there) comment = by_there there comment
by_comment_answer (Err (N.Header stop)) comment = refused_in (number_of stop.fault.why) stop.card stop.fault.column
by_comment_answer (Err (N.Refused fault)) comment = by_fault fault

abbrev pub of_halves : ValueOutcome → CommentOutcome → Reading
of_halves v c =
    halves (of_value v) v.answer.text (by_comment_answer c.answer.answer (take c.answer.comment c.comment))
    c.answer.comment

-- a comment's unit, first as fitsrs reads it, then past a space
abbrev pub of_place : Option (ℕ × ℕ) → List ℕ → Reading
of_place p c = unit_at p (unit_bytes p c)

abbrev pub of_units : List ℕ → Reading
of_units c = both_units (of_place (unit_of c) c) (of_place (unit_past_space c) c)

abbrev pub of_kit : CommentOutcome → Reading
of_kit o = of_units (take o.answer.comment o.comment)

-- a tile's, with its pixels in the lent slice; its refusals have no column
abbrev pub by_tile_column : Option ℕ → ℕ → ℕ → List ℤ → Reading
by_tile_column (Some byte) number n content = other
by_tile_column None number n content = stopped number n content

abbrev pub by_decoded : Result ℕ Broken → List ℤ → Reading
by_decoded (Ok bits) content = pixels content bits
by_decoded (Err b) content = by_tile_column b.fault.column (number_of b.fault.why) b.written content

abbrev pub of_decoding : DecodeOutcome → Reading
of_decoding f = by_decoded f.answer f.content

-- what the definitions give; lent bytes are 0 and lent pixels 7 beforehand
abbrev pub reading : Input → Reading
reading (card keyword text) = of_card (card_of (card_bytes keyword text))
reading (line text) = of_card (card_of (spaces_to 80 (ascii text)))
reading (with_bytes before bytes behind) = of_card (card_of (spaces_to 80 (ascii before ++ bytes ++ ascii behind)))
reading (header texts) = of_value (value_named (header_bytes texts) (ascii "KIT") (replicate 80 0))
reading (both_halves m n texts) =
    of_halves (value_named (header_bytes texts) (ascii "KIT") (replicate m 0))
    (comment_named (header_bytes texts) (ascii "KIT") (replicate n 0))
reading (entry_no i texts) = of_value (value_numbered (header_bytes texts) i (replicate 80 0))
reading (bare_comment c) = of_units c
reading (kit_comment texts) = of_kit (comment_named (header_bytes texts) (ascii "KIT") (replicate 80 0))
reading (tile bits nx bytes) = of_decoding (decode_of bytes nx 32 bits (replicate nx (pos 7)))

-- ---- the table

pub record Row : Type 0 where
  pub input : Input
  pub reading : Reading

abbrev pub row : Input → Reading → Row
row i r = record { input = i; reading = r }

abbrev pub table : List Row
table =
    row (card "KEY" "''") (string [])
    ∷ row (card "KEY" "'   '") (string (ascii " "))
    ∷ row (card "KEY" "'O''RING'") (string (ascii "O'RING"))
    ∷ row (card "KEY" "'abc''") (string (ascii "abc"))
    ∷ row (card "KEY" "9223372036854775807") (integer (pos 9223372036854775807))
    ∷ row (card "KEY" "9223372036854775808") (decimal false (ascii "9223372036854775808") (pos 0))
    ∷ row (card "KEY" "1.5D3") (decimal false (ascii "15") (pos 2))
    ∷ row (header ("KIT     = 'FKM-&'" ∷ "COMMENT in between" ∷ "CONTINUE  '75'" ∷ "END" ∷ [])) (string (ascii "FKM-75"))
    ∷ row (header ("KIT     = 'FKM &'" ∷ "CONTINUE  ''" ∷ "END" ∷ [])) (string (ascii "FKM"))
    ∷ row (header ("KIT     = 'FKM-&'" ∷ "SIZE    = 5" ∷ "CONTINUE  '75'" ∷ "END" ∷ [])) (string (ascii "FKM-&"))
    ∷ row (entry_no 0 ("KIT     = 'a&'" ∷ "WCS     = (1" ∷ "CONTINUE  'b'" ∷ "END" ∷ [])) (refused_in 5 1 (Some 10))
    ∷ row (entry_no 1 ("KIT     = 'a&'" ∷ "WCS     = (1" ∷ "CONTINUE  'b'" ∷ "END" ∷ [])) (refused_in 5 1 (Some 10))
    ∷ row (entry_no 0 ("KIT     = 'FKM-&'" ∷ "CONTINUE  '75-&" ∷ "CONTINUE  'A2'" ∷ "END" ∷ [])) (refused_in 3 1 (Some 10))
    ∷ row (entry_no 0 ("KIT     = 'FKM-&'" ∷ "CONTINUE  '75'" ∷ "WCS     = (1" ∷ "END" ∷ [])) (string (ascii "FKM-75"))
    ∷ row (entry_no 2 ("KIT     = 'a'" ∷ "END" ∷ "KIT     = 'b'" ∷ [])) (string (ascii "b"))
    ∷ row (entry_no 1 ("KIT     = 'a'" ∷ "END" ∷ [])) (refusal 12)
    ∷ row (tile 8 2 (0x0A ∷ 0x00 ∷ [])) (pixels (pos 10 ∷ pos 10 ∷ []) 11)
    ∷ row (tile 8 2 (0x0A ∷ 0x32 ∷ [])) (pixels (pos 10 ∷ pos 11 ∷ []) 15)
    ∷ row (tile 8 1 (0x00 ∷ 0x28 ∷ [])) (pixels (pos 255 ∷ []) 13)
    ∷ row (tile 8 1 (0x0A ∷ 0xFF ∷ 0xE0 ∷ [])) (pixels (pos 138 ∷ []) 19)
    ∷ row (tile 8 2 (0x0A ∷ 0x30 ∷ [])) (stopped 16 1 (pos 10 ∷ pos 7 ∷ []))
    ∷ row (tile 32 1 (0x00 ∷ 0x00 ∷ 0x00 ∷ 0x05 ∷ 0xD0 ∷ 0x00 ∷ 0x00 ∷ 0x00 ∷ 0x10 ∷ [])) (pixels (pos 6 ∷ []) 69)
    ∷ row (tile 32 1 (0x00 ∷ 0x00 ∷ 0x00 ∷ 0x00 ∷ 0xD8 ∷ [])) (stopped 17 0 (pos 7 ∷ []))
    ∷ row (tile 8 1 (0x0A ∷ 0x20 ∷ (replicate 7 0 ++ 0x80 ∷ []))) (pixels (pos 235 ∷ []) 73)
    ∷ row (tile 8 1 (0x0A ∷ 0x40 ∷ (replicate 6 0 ++ 0x01 ∷ 0x80 ∷ []))) (pixels (pos 205 ∷ []) 73)
    ∷ []

-- each refusal of a card with its column, then those that have none
abbrev pub column_table : List Row
column_table =
    -- 1: the first of several high bytes, on a card of any class
    row (with_bytes "A       = '" (0xFF ∷ 0x80 ∷ []) "'") (refused_at 1 11)
    ∷ row (with_bytes "END     " (0x80 ∷ 0xFF ∷ []) "") (refused_at 1 8)
    ∷ row (with_bytes "COMMENT a" (0x80 ∷ 0x80 ∷ []) "b") (refused_at 1 9)
    ∷ row (with_bytes "" (0x80 ∷ []) "") (refused_at 1 0)
    ∷ row (with_bytes "" (replicate 79 (code " ") ++ (0x80 ∷ [])) "") (refused_at 1 79)
    -- 2: the byte where the scan stops, counted in the card
    ∷ row (with_bytes "A       = " (vertical_tab ∷ []) "") (refused_at 2 10)
    ∷ row (with_bytes "A       =  " (vertical_tab ∷ []) "") (refused_at 2 11)
    ∷ row (with_bytes "A       = " (tab ∷ vertical_tab ∷ []) "") (refused_at 2 11)
    ∷ row (with_bytes "A       = 5 " (vertical_tab ∷ []) "6") (refused_at 2 12)
    ∷ row (with_bytes "A       =  'a' " (tab ∷ []) "/") (refused_at 2 15)
    ∷ row (with_bytes "A       = " (replicate 69 (code "5") ++ (vertical_tab ∷ [])) "") (refused_at 2 79)
    ∷ row (with_bytes "CONTINUE a" (vertical_tab ∷ []) "") (refused_at 2 10)
    ∷ row (with_bytes "XTENSION= IMAGE" (vertical_tab ∷ []) "") (refused_at 2 15)
    ∷ row (with_bytes "HIERARCH A = 5" (vertical_tab ∷ []) "") (refused_at 2 14)
    -- 3: the first byte of the text that is no blank; a CONTINUE card's text stands from byte 8 on
    ∷ row (card "A" "'") (refused_at 3 10)
    ∷ row (card "A" "'a") (refused_at 3 10)
    ∷ row (card "A" "  'a' b") (refused_at 3 12)
    ∷ row (with_bytes "A       = " (tab ∷ []) "'") (refused_at 3 11)
    ∷ row (line "CONTINUE'a") (refused_at 3 8)
    ∷ row (line "CONTINUE  'a") (refused_at 3 10)
    ∷ row (line "HIERARCH A = '") (refused_at 3 13)
    -- 4, of CONTINUE alone
    ∷ row (line "CONTINUEa'") (refused_at 4 8)
    ∷ row (line "CONTINUE= 'b'") (refused_at 4 8)
    ∷ row (line "CONTINUE  a'") (refused_at 4 10)
    -- 5: a HIERARCH card's text stands directly behind its =
    ∷ row (card "A" "(") (refused_at 5 10)
    ∷ row (card "A" "  (1,2)") (refused_at 5 12)
    ∷ row (line "HIERARCH A=(") (refused_at 5 11)
    ∷ row (line "HIERARCH A  =  (") (refused_at 5 15)
    -- 6 at byte 9, and 7 at its =
    ∷ row (line "HIERARCH A B") (refused_at 6 9)
    ∷ row (line "HIERARCH= 5") (refused_at 6 9)
    ∷ row (line "HIERARCH =5") (refused_at 7 9)
    ∷ row (line "HIERARCH   =5") (refused_at 7 11)
    -- 8: the text begins with its slash where no value text stands before it; blanks alone have byte 10
    ∷ row (line "XTENSION=") (refused_at 8 10)
    ∷ row (line "XTENSION=  /") (refused_at 8 11)
    ∷ row (line "XTENSION= abc") (refused_at 8 10)
    ∷ row (line "XTENSION=   '") (refused_at 8 12)
    -- of two refusals the first in their order: 1, then 6 and 7, then 2, then 3, 4, 5 and 8
    ∷ row (with_bytes "HIERARCH A" (0x80 ∷ []) "") (refused_at 1 10)
    ∷ row (with_bytes "A       = (" (vertical_tab ∷ 0x80 ∷ []) "") (refused_at 1 12)
    ∷ row (with_bytes "HIERARCH A" (vertical_tab ∷ []) "") (refused_at 6 9)
    ∷ row (with_bytes "HIERARCH   = " (vertical_tab ∷ []) "") (refused_at 7 11)
    ∷ row (with_bytes "A       = '' " (vertical_tab ∷ []) "'") (refused_at 2 13)
    ∷ row (with_bytes "CONTINUE a" (vertical_tab ∷ []) "'") (refused_at 2 10)
    ∷ row (with_bytes "A       = (" (vertical_tab ∷ []) "") (refused_at 2 11)
    ∷ row (with_bytes "XTENSION= a" (vertical_tab ∷ []) "") (refused_at 2 11)
    -- a refused header and a refused entry: the card, and its column
    ∷ row (header ("KIT     = 5" ∷ "WCS     =  (1" ∷ "END" ∷ [])) (refused_in 5 1 (Some 11))
    ∷ row (header ("HIERARCH KIT 5" ∷ "END" ∷ [])) (refused_in 6 0 (Some 9))
    ∷ row (entry_no 0 ("KIT     = 'FKM-&'" ∷ "COMMENT in between" ∷ "CONTINUE'75-&" ∷ "END" ∷ [])) (refused_in 3 2 (Some 8))
    ∷ row (entry_no 1 ("KIT     = 5" ∷ "XTENSION=" ∷ "END" ∷ [])) (refused_in 8 1 (Some 10))
    -- 9 and 10 have a card and no column, 12 and 13 have neither
    ∷ row (header []) (refused_in 9 0 None)
    ∷ row (entry_no 0 []) (refused_in 9 0 None)
    ∷ row (header ("KIT     = 5" ∷ [])) (refused_in 10 1 None)
    ∷ row (header ("END" ∷ [])) (refusal 12)
    ∷ row
    (header
    ("KIT     = '1234567890123456789012345678901234567890&'" ∷ "CONTINUE  '12345678901234567890123456789012345678901'" ∷ "END" ∷ []))
    (refusal 13)
    ∷ []

-- both halves of a lookup; beside 13 stands the room that is wanted
abbrev pub half_table : List Row
half_table =
    -- each half has its own buffer
    row (both_halves 6 6 ("KIT     = 'FKM-75' /a seal" ∷ "END" ∷ [])) (halves (string (ascii "FKM-75")) 6 (string (ascii "a seal")) 6)
    ∷ row (both_halves 5 6 ("KIT     = 'FKM-75' /a seal" ∷ "END" ∷ [])) (halves (refusal 13) 6 (string (ascii "a seal")) 6)
    ∷ row (both_halves 6 5 ("KIT     = 'FKM-75' /a seal" ∷ "END" ∷ [])) (halves (string (ascii "FKM-75")) 6 (refusal 13) 6)
    ∷ row (both_halves 0 0 ("KIT     = 5" ∷ "END" ∷ [])) (halves (integer (pos 5)) 0 other 0)
    -- an empty CONTINUE card takes the last &, and the one before it leaves the string open
    ∷ row
    (both_halves 80 80 ("KIT     = 'a&&' /one" ∷ "CONTINUE  '' /two" ∷ "CONTINUE  'b' /three" ∷ "CONTINUE  'c' /four" ∷ "END" ∷ []))
    (halves (string (ascii "ab")) 2 (string (ascii "one" ++ (line_feed ∷ ascii "two") ++ (line_feed ∷ ascii "three"))) 13)
    ∷ row (both_halves 1 12 ("KIT     = 'a&&' /one" ∷ "CONTINUE  '' /two" ∷ "CONTINUE  'b' /three" ∷ "END" ∷ []))
    (halves (refusal 13) 2 (refusal 13) 13)
    -- 12, and the header's refusals
    ∷ row (both_halves 0 0 ("END" ∷ [])) (halves (refusal 12) 0 (refusal 12) 0)
    ∷ row (both_halves 80 80 ("KIT     = 'a' /b" ∷ "WCS     =  (1" ∷ "END" ∷ []))
    (halves (refused_in 5 1 (Some 11)) 0 (refused_in 5 1 (Some 11)) 0)
    ∷ row (both_halves 80 80 []) (halves (refused_in 9 0 None) 0 (refused_in 9 0 None) 0)
    ∷ []

-- a unit from one byte up to another, and none
abbrev pub unit_found : ℕ → ℕ → List ℕ → Reading
unit_found from to bytes = unit_at (Some (from, to)) (Some bytes)

abbrev pub no_unit : Reading
no_unit = unit_at None None

-- the unit of a comment by both readings
abbrev pub unit_table : List Row
unit_table =
    -- a space in front hides a unit from the first reading alone
    row (bare_comment (ascii " [s] time")) (both_units no_unit (unit_found 2 3 (ascii "s")))
    ∷ row (bare_comment (ascii "[s] time")) (both_units (unit_found 1 2 (ascii "s")) (unit_found 1 2 (ascii "s")))
    ∷ row (bare_comment (ascii " []")) (both_units no_unit (unit_found 2 2 []))
    -- a second space is not passed over, nor is a byte that was replaced
    ∷ row (bare_comment (ascii "  [s]")) (both_units no_unit no_unit)
    ∷ row (bare_comment (delete ∷ ascii "[s]")) (both_units no_unit no_unit)
    -- a comment that was joined
    ∷ row (kit_comment ("KIT     = 'a&' / [s" ∷ "CONTINUE  'b' /m]" ∷ "END" ∷ []))
    (both_units no_unit (unit_found 2 5 (ascii "s" ++ (line_feed ∷ ascii "m"))))
    -- no bracket
    ∷ row (bare_comment (ascii " ")) (both_units no_unit no_unit)
    ∷ row (bare_comment []) (both_units no_unit no_unit)
    ∷ []

abbrev pub rows : List Row
rows = table ++ column_table ++ half_table ++ unit_table

-- each input has its row's reading
pub edges : map (λ (r : Row). reading r.input) rows ≡ map (λ (r : Row). r.reading) rows
unfolding is_space is_blank is_printable is_digit is_zero shown d_to_e trim_start leading cons_trimmed trim_end trim same stem ends_with
    filled
    place_from after scan_from byte_class split_of settled_of opened unopened string_of first_byte is_sign is_negative unsigned is_digits
    digits_value_from integer_of fraction_of after_fraction is_mark written_of exponent_of scaled finite_of lowered is_word decimal_of
    read_number
    starts_number start_of of_string of_number value_with value_of unit_of unit_past_space has_high class_of name_pieces join_pieces
    high_from other_of
    continuation_of is_within_quotes quoted_card extension_of hierarch_of unplaced_of card_of
    ends_open adds_nothing join_text join_comment opens join_words join_on lookup cards_in is_bad_length header_from header_of named
    numbered
    met_on value_in comment_in
    decode_of steps_of step_of open_of plan_of in_limits width_of stands block_of code_of run_of diff_read run_read field_read pixel_of
    in_width modulo
    wrap difference bit_at field_at zeros_at
edges = refl
