-- Writings at the edges (SPECIFICATION 16.7): one table and one statement, proved by computing.
-- A row has what is asked to be written and the length of the block, and beside them the cards or the number of a refusal.
use Rattle.std.specs.Prelude.{ℕ, ◌+◌, ◌≡◌, refl, Bool, true, false, List, [], ◌∷◌, ◌++◌, map, ℤ, pos, negsuc, length, replicate}
use Rattle.std.specs.Prelude.{None, Some, Result, Ok, Err}
use Prim.Native.Char.{code}
use Prim.Native.String.{String}
use Rattle.refusal.specs.Numbers.{number_of}
use Rattle.text.specs.Bytes.{ascii, line_feed, delete, is_printable, is_digit, is_zero, every}
use Rattle.text.specs.Trim.{trim_start, cons_trimmed, trim_end, trim}
use Rattle.text.specs.Same.{same}
use Rattle.text.specs.Ends.{ends_with}
use Rattle.text.specs.Text.{filled}
use Rattle.numbers.specs.declared.Size.TheVariants.{Finite, Infinite, Nan}
use Rattle.numbers.specs.declared.Value.{Value}
use Rattle.numbers.specs.declared.Value.TheVariants.{Integer, Float, Logical, String as Str, Undefined, Invalid}
use Rattle.numerals.specs.Numerals.{digits_before, decimal_digits}
use Rattle.card.specs.Keywords.{class_of}
use Rattle.roles.specs.Roles.{Comment}
use Rattle.writing.specs.Pieces.{doubled, bytes_for, fitting, leftover, pieces_from}
use Rattle.writing.specs.Written.{name_front, justified, written_cards}
use Rattle.writing.specs.Rules.{is_name_byte, is_name, is_remark, ends_well, is_text, is_significant, is_writable}
use Rattle.writing.specs.Block.{flat, put_cards, write_of}
use Rattle.edges.specs.Edges.{spaces_to}
use Rattle.refusal.specs.declared.Fault.{Fault}

-- ---- what is asked, and what is left

pub record Asked : Type 0 where
  pub name : String
  pub value : Value
  pub text : List ℕ
  pub comment : Comment
  pub room : ℕ

-- the number of cards or that of a refusal, with the block
pub data Left : Type 0 where
  wrote refused : ℕ → List ℕ → Left

-- a block before it is written to
abbrev pub lent : ℕ → List ℕ
lent n = replicate n (code ".")

abbrev pub left_of : Result ℕ Fault → List ℕ → Left
left_of (Ok n) block = wrote n block
left_of (Err fault) block = refused (number_of fault.why) block

abbrev pub writing : Asked → Left
writing a = let o = write_of (ascii a.name) a.value a.text a.comment (lent a.room) in left_of o.answer o.block

pub record WriteRow : Type 0 where
  pub asked : Asked
  pub left : Left

-- ---- rows

-- bytes, one card behind the other
abbrev pub row_bytes : List (List ℕ) → List ℕ
row_bytes [] = []
row_bytes (c ∷ cards) = c ++ row_bytes cards

-- cards, with three bytes of the block behind them
abbrev pub writes : String → Value → List ℕ → Comment → List (List ℕ) → WriteRow
writes name v text c cards =
    record {
      asked = record { name = name; value = v; text = text; comment = c; room = length (row_bytes cards) + 3 };
      left = wrote (length cards) (row_bytes cards ++ ascii "...");
    }

-- a refusal, and the block as it was
abbrev pub refuses : ℕ → String → Value → List ℕ → Comment → ℕ → WriteRow
refuses n name v text c room =
    record { asked = record { name = name; value = v; text = text; comment = c; room = room }; left = refused n (lent room) }

-- a card by its text from byte 0 on
abbrev pub card_on : String → List ℕ
card_on t = spaces_to 80 (ascii t)

-- n times x
abbrev pub exes : ℕ → List ℕ
exes n = replicate n (code "x")

abbrev pub card_made : String → List ℕ → String → List ℕ
card_made front middle end = spaces_to 80 (ascii front ++ middle ++ ascii end)

-- a finite decimal
abbrev pub finite : Bool → ℤ → Value
finite minus power = Float minus (Finite power)

-- ---- the table

abbrev pub logical_rows : List WriteRow
logical_rows =
    writes "KIT" (Logical true) [] None (card_on "KIT     =                    T" ∷ [])
    ∷ writes "KIT" (Logical false) [] (Some (ascii "ring")) (card_on "KIT     =                    F /ring" ∷ [])
    -- a comment that is present and empty, and one with a space in front
    ∷ writes "KIT" (Logical true) [] (Some []) (card_on "KIT     =                    T /" ∷ [])
    ∷ writes "KIT" (Logical true) [] (Some (ascii " ring")) (card_on "KIT     =                    T / ring" ∷ [])
    -- up to byte 79
    ∷ writes "KIT" (Logical true) [] (Some (exes 48)) (card_made "KIT     =                    T /" (exes 48) "" ∷ [])
    ∷ refuses 20 "KIT" (Logical true) [] (Some (exes 49)) 80
    ∷ []

abbrev pub number_rows : List WriteRow
number_rows =
    writes "A-SEVEN8" (Integer (negsuc 6)) [] None (card_on "A-SEVEN8=                   -7" ∷ [])
    ∷ writes "N" (Integer (pos 0)) [] None (card_on "N       =                    0" ∷ [])
    -- decimals: plain, zero, minus zero, the least and the largest power
    ∷ writes "D" (finite false (pos 2)) (ascii "15") None (card_on "D       =                 15E2" ∷ [])
    ∷ writes "D" (finite true (negsuc 0)) (ascii "15") None (card_on "D       =               -15E-1" ∷ [])
    ∷ writes "D" (finite false (pos 0)) [] None (card_on "D       =                  0E0" ∷ [])
    ∷ writes "D" (finite true (pos 0)) [] None (card_on "D       =                 -0E0" ∷ [])
    ∷ writes "D" (finite false (negsuc 99998)) (ascii "1") None (card_on "D       =             1E-99999" ∷ [])
    ∷ refuses 20 "D" (finite false (negsuc 99999)) (ascii "1") None 80
    ∷ refuses 20 "D" (finite false (pos 100000)) (ascii "1") None 80
    -- of 20 bytes and of 21
    ∷ writes "D" (finite false (pos 2)) (ascii "123456789012345678") (Some []) (card_on "D       = 123456789012345678E2 /" ∷ [])
    ∷ writes "D" (finite false (pos 2)) (ascii "1234567890123456789") (Some []) (card_on "D       = 1234567890123456789E2 /" ∷ [])
    -- of 70 bytes, which end at byte 79, and of 71
    ∷ writes "D" (finite false (pos 2)) (replicate 68 (code "7")) None (card_made "D       = " (replicate 68 (code "7")) "E2" ∷ [])
    ∷ refuses 20 "D" (finite false (pos 2)) (replicate 69 (code "7")) None 80
    -- of 68 bytes with an empty comment, and of 69
    ∷ writes "D" (finite false (pos 2)) (replicate 66 (code "7")) (Some []) (card_made "D       = " (replicate 66 (code "7")) "E2 /" ∷ [])
    ∷ refuses 20 "D" (finite false (pos 2)) (replicate 67 (code "7")) (Some []) 80
    -- records outside their form
    ∷ refuses 20 "D" (finite false (pos 0)) (ascii "10") None 80
    ∷ refuses 20 "D" (finite false (pos 0)) (ascii "01") None 80
    ∷ refuses 20 "D" (finite false (pos 0)) (ascii "1.5") None 80
    ∷ refuses 20 "D" (finite false (pos 1)) [] None 80
    ∷ refuses 20 "D" (Float false Infinite) [] None 80
    ∷ refuses 20 "D" (Float true Nan) [] None 80
    ∷ refuses 20 "D" Undefined [] None 80
    ∷ refuses 20 "D" Invalid (ascii "a") None 80
    ∷ []

abbrev pub string_rows : List WriteRow
string_rows =
    writes "KIT" Str [] None (card_on "KIT     = ''" ∷ [])
    ∷ writes "KIT" Str (ascii " ") None (card_on "KIT     = ' '" ∷ [])
    ∷ writes "KIT" Str (ascii "O'RING") (Some (ascii "seal")) (card_on "KIT     = 'O''RING' /seal" ∷ [])
    -- 68 bytes fill a card, 69 do not; 66 with an empty comment do, 67 do not
    ∷ writes "KIT" Str (exes 68) None (card_made "KIT     = '" (exes 68) "'" ∷ [])
    ∷ writes "KIT" Str (exes 69) None (card_made "KIT     = '" (exes 67) "&'" ∷ card_on "CONTINUE  'xx'" ∷ [])
    ∷ writes "KIT" Str (exes 66) (Some []) (card_made "KIT     = '" (exes 66) "' /" ∷ [])
    ∷ writes "KIT" Str (exes 67) (Some []) (card_made "KIT     = '" (exes 67) "&'" ∷ card_on "CONTINUE  '' /" ∷ [])
    -- a quote at the cut waits for the next card
    ∷ writes "KIT" Str (exes 66 ++ ascii "'y") None (card_made "KIT     = '" (exes 66) "&'" ∷ card_on "CONTINUE  '''y'" ∷ [])
    ∷ writes "KIT" Str (exes 65 ++ ascii "'yz") None (card_made "KIT     = '" (exes 65) "''&'" ∷ card_on "CONTINUE  'yz'" ∷ [])
    -- the comment alone wants a second card
    ∷ writes "KIT" Str (ascii "ab") (Some (exes 65)) (card_on "KIT     = 'ab&'" ∷ card_made "CONTINUE  '' /" (exes 65) "" ∷ [])
    -- & within, and a space at the cut
    ∷ writes "KIT" Str (ascii "a&b") None (card_on "KIT     = 'a&b'" ∷ [])
    ∷ writes "KIT" Str (exes 66 ++ ascii " yz") None (card_made "KIT     = '" (exes 66) " &'" ∷ card_on "CONTINUE  'yz'" ∷ [])
    -- strings and comments outside the rules
    ∷ refuses 20 "KIT" Str (ascii "a ") None 80
    ∷ refuses 20 "KIT" Str (ascii "  ") None 80
    ∷ refuses 20 "KIT" Str (ascii "a&") None 80
    ∷ refuses 20 "KIT" Str (line_feed ∷ []) None 80
    ∷ refuses 20 "KIT" Str (delete ∷ []) None 80
    ∷ refuses 20 "KIT" Str (exes 2001) None 80
    ∷ refuses 20 "KIT" Str [] (Some (ascii " ")) 80
    ∷ refuses 20 "KIT" Str [] (Some (line_feed ∷ [])) 80
    ∷ refuses 20 "KIT" Str [] (Some (exes 66)) 160
    ∷ []

abbrev pub name_rows : List WriteRow
name_rows =
    writes "END1" (Logical true) [] None (card_on "END1    =                    T" ∷ [])
    ∷ writes "-" (Logical true) [] None (card_on "-       =                    T" ∷ [])
    ∷ refuses 19 "" (Logical true) [] None 80
    ∷ refuses 19 "kit" (Logical true) [] None 80
    ∷ refuses 19 "KIT " (Logical true) [] None 80
    ∷ refuses 19 "NINEBYTES" (Logical true) [] None 80
    ∷ refuses 19 "COMMENT" (Logical true) [] None 80
    ∷ refuses 19 "HISTORY" (Logical true) [] None 80
    ∷ refuses 19 "END" (Logical true) [] None 80
    ∷ refuses 19 "CONTINUE" (Logical true) [] None 80
    ∷ refuses 19 "XTENSION" (Logical true) [] None 80
    ∷ refuses 19 "HIERARCH" (Logical true) [] None 80
    -- 19 before 20, 20 before 21; 21 for a block of one byte less than its cards
    ∷ refuses 19 "END" Str (ascii "a&") None 0
    ∷ refuses 20 "KIT" Str (ascii "a&") None 0
    ∷ refuses 21 "KIT" (Logical true) [] None 79
    ∷ refuses 21 "KIT" Str (exes 69) None 159
    ∷ []

-- each row is written so
abbrev pub AreWritten : List WriteRow → Type 0
AreWritten rows = map (λ (r : WriteRow). writing r.asked) rows ≡ map (λ (r : WriteRow). r.left) rows

pub logicals : AreWritten logical_rows
unfolding is_printable is_digit is_zero trim_start cons_trimmed trim_end trim same ends_with filled digits_before decimal_digits class_of
    doubled
    bytes_for fitting leftover pieces_from name_front justified every is_name_byte is_name is_remark ends_well is_text is_significant
    is_writable flat
    put_cards write_of
logicals = refl

pub numbers : AreWritten number_rows
unfolding is_printable is_digit is_zero trim_start cons_trimmed trim_end trim same ends_with filled digits_before decimal_digits class_of
    doubled
    bytes_for fitting leftover pieces_from name_front justified every is_name_byte is_name is_remark ends_well is_text is_significant
    is_writable flat
    put_cards write_of
numbers = refl

pub strings : AreWritten string_rows
unfolding is_printable is_digit is_zero trim_start cons_trimmed trim_end trim same ends_with filled digits_before decimal_digits class_of
    doubled
    bytes_for fitting leftover pieces_from name_front justified every is_name_byte is_name is_remark ends_well is_text is_significant
    is_writable flat
    put_cards write_of
strings = refl

pub names : AreWritten name_rows
unfolding is_printable is_digit is_zero trim_start cons_trimmed trim_end trim same ends_with filled digits_before decimal_digits class_of
    doubled
    bytes_for fitting leftover pieces_from name_front justified every is_name_byte is_name is_remark ends_well is_text is_significant
    is_writable flat
    put_cards write_of
names = refl

-- 2,000 quotes with a comment of 65 bytes take 62 cards
pub most : length (written_cards Str (ascii "KIT") (replicate 2000 (code "'")) (Some (exes 65))) ≡ 62
unfolding doubled bytes_for fitting leftover pieces_from
most = refl

-- the largest and the least integer
abbrev pub integer_row : ℤ → String → WriteRow
integer_row z card = writes "N" (Integer z) [] None (card_on card ∷ [])

abbrev pub Largest : Type 0
Largest = AreWritten (integer_row (pos 9223372036854775807) "N       =  9223372036854775807" ∷ [])

abbrev pub Least : Type 0
Least = AreWritten (integer_row (negsuc 9223372036854775807) "N       = -9223372036854775808" ∷ [])
