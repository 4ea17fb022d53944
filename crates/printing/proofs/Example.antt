-- The example of SPECIFICATION 13, printed in full, and other headers, computed from the definitions; and lines made visible.
use Prim.Native.Nat.{ℕ}
use Prim.Native.Char.{code}
use Prim.Native.String.{String}
use mathlib.Core.Path.{◌≡◌, refl}
use mathlib.Core.Bool.{true, false}
use mathlib.Core.List.{List, [], ◌∷◌, ◌++◌, map}
use Rattle.text.specs.Bytes.{ascii, line_feed, is_space, is_blank, is_printable, is_digit, is_zero, shown, d_to_e}
use Rattle.text.specs.Trim.{trim_start, leading, cons_trimmed, trim_end, trim}
use Rattle.text.specs.Same.{same}
use Rattle.text.specs.Place.{place_from}
use Rattle.text.specs.Ends.{stem, ends_with}
use Rattle.text.specs.Text.{filled}
use Rattle.splitting.specs.Scan.{after, scan_from, byte_class}
use Rattle.splitting.specs.Split.{split_of}
use Rattle.splitting.specs.Strings.{settled_of, opened, unopened, string_of}
use Rattle.numbers.specs.Signs.{is_sign, is_negative, unsigned}
use Rattle.numbers.specs.Digits.{is_digits, digits_value_from}
use Rattle.numbers.specs.Integers.{integer_of}
use Rattle.numbers.specs.Numbers.{read_number}
use Rattle.value.specs.Values.{starts_number, start_of, of_string, of_number, value_with, value_of}
use Rattle.card.specs.Keywords.{has_high, class_of, name_pieces, join_pieces}
use Rattle.splitting.specs.Columns.{first_byte}
use Rattle.card.specs.Cards.{hierarch_of, other_of, continuation_of, unplaced_of, card_of}
use Rattle.joining.specs.Words.{ends_open, adds_nothing, join_text, join_comment, opens, join_words}
use Rattle.joining.specs.Lookup.{join_on, lookup}
use Rattle.roles.specs.Cards.{cards_in, is_bad_length}
use Rattle.finding.specs.Finding.{header_from, header_of}
use Rattle.listing.specs.Listing.{place_in, list_from, list_of}
use Rattle.numerals.specs.Numerals.{digits_before, decimal_digits}
use Rattle.lines.specs.Lines.{entry_line, count_line, refused_line}
use Rattle.escaping.specs.Escaping.{escaped_byte, escaped}
use Rattle.output.specs.Shown.{printed_line}
use Rattle.agreeing.specs.Firsts.{times_borne}
use Rattle.printing.specs.Output.{in_order, output_of, printed_of}

-- cards by their texts
unfoldable pub cards : List String → List ℕ
cards [] = []
cards (t ∷ ts) = filled (code " ") 80 (ascii t) ++ cards ts

-- lines by their texts
unfoldable pub lines : List String → List ℕ
lines [] = []
lines (t ∷ ts) = ascii t ++ line_feed ∷ lines ts

pub record Row : Type 0 where
  pub header : List String
  pub printed : List String

abbrev pub row : List String → List String → Row
row header printed = record { header = header; printed = printed }

abbrev pub table : List Row
table =
    row ("SIZE    = 12" ∷ "KIT     = 'FKM-&'" ∷ "CONTINUE  '75' / ring" ∷ "END" ∷ [])
    ("SIZE I 12" ∷ "KIT S FKM-75" ∷ "2 keywords" ∷ [])
    ∷ row ("KIT     = 1" ∷ "SIZE    = ''" ∷ "KIT     = 2" ∷ "END" ∷ []) ("KIT I 2 x2" ∷ "SIZE S" ∷ "2 keywords" ∷ [])
    ∷ row ("A       = 1" ∷ "B       =" ∷ "HIERARCH A = 2" ∷ "B       =" ∷ "A       = ''" ∷ "END" ∷ "A       = 4" ∷ [])
    ("A S x3" ∷ "B U x2" ∷ "2 keywords" ∷ [])
    ∷ row ("END" ∷ "KIT     = 1" ∷ []) ("0 keywords" ∷ [])
    ∷ row ("KIT     = 'FKM'" ∷ "KIT     = 'FKM" ∷ "END" ∷ []) ("refused 3 at 1:10" ∷ [])
    ∷ row ("KIT     = 'FKM'" ∷ []) ("refused 10 at 1" ∷ [])
    ∷ []

-- each header prints its row's lines
pub examples : map (λ (r : Row). output_of (cards r.header)) table ≡ map (λ (r : Row). lines r.printed) table
unfolding cards lines is_space is_blank is_printable is_digit is_zero shown d_to_e trim_start leading cons_trimmed trim_end trim same
    stem ends_with
    filled after scan_from byte_class split_of settled_of opened unopened string_of is_sign is_negative unsigned is_digits digits_value_from
    integer_of read_number starts_number start_of of_string of_number value_with value_of has_high class_of hierarch_of name_pieces
    join_pieces
    place_from other_of continuation_of first_byte unplaced_of card_of ends_open adds_nothing join_text join_comment opens join_words
    join_on lookup
    cards_in is_bad_length header_from header_of place_in list_from list_of times_borne digits_before decimal_digits entry_line
    count_line refused_line
    in_order output_of
examples = refl

-- a line feed in the keyword
abbrev pub fed : List ℕ
fed = filled (code " ") 80 (code "A" ∷ line_feed ∷ ascii "KIT S = 'FAKE'") ++ cards ("END" ∷ [])

-- as it stands, the name makes two lines; made visible, it stands on one
pub example_fed : printed_of false fed ∷ printed_of true fed ∷ []
    ≡ map lines (("A" ∷ "KIT S S FAKE" ∷ "1 keywords" ∷ []) ∷ ("A\\x0AKIT S S FAKE" ∷ "1 keywords" ∷ []) ∷ [])
unfolding cards lines is_space is_blank is_printable is_digit is_zero shown d_to_e trim_start leading cons_trimmed trim_end trim same
    stem ends_with
    filled after scan_from byte_class split_of settled_of opened unopened string_of is_sign is_negative unsigned is_digits digits_value_from
    integer_of read_number starts_number start_of of_string of_number value_with value_of has_high class_of other_of continuation_of
    first_byte
    unplaced_of card_of ends_open adds_nothing join_text join_comment opens join_words join_on lookup cards_in is_bad_length header_from
    header_of
    place_in list_from list_of times_borne digits_before decimal_digits entry_line count_line refused_line in_order escaped_byte escaped
    printed_line
    printed_of
example_fed = refl
