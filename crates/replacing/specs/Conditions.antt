-- Why each condition is there: headers that break one of them, with what is answered. Each row is computed.
-- The name K is written anew with the string `newCode` of 69 bytes, which takes two cards. X is another name.
use Rattle.std.specs.Prelude.{ℕ, ◌≡◌, refl, List, [], ◌∷◌, ◌++◌, map, replicate, take, None, Result, Err, Ok}
use Prim.Native.Char.{code}
use Prim.Native.String.{String}
use Rattle.refusal.specs.Numbers.{number_of}
use Rattle.text.specs.Bytes.{ascii, is_space, is_blank, is_printable, shown}
use Rattle.text.specs.Trim.{trim_start, leading, cons_trimmed, trim_end, trim}
use Rattle.text.specs.Same.{same}
use Rattle.text.specs.Ends.{stem, ends_with}
use Rattle.text.specs.Place.{place_from}
use Rattle.text.specs.Text.{filled}
use Rattle.splitting.specs.Scan.{after, scan_from, byte_class}
use Rattle.splitting.specs.Split.{split_of}
use Rattle.splitting.specs.Strings.{settled_of, opened, unopened, string_of}
use Rattle.numbers.specs.declared.Value.{Value}
use Rattle.numbers.specs.declared.Value.TheVariants.{Integer, Float, Logical, String as Str, Undefined, Invalid}
use Rattle.value.specs.Values.{starts_number, start_of, of_string, value_with, value_of}
use Rattle.card.specs.Keywords.{has_high, class_of, name_pieces, join_pieces}
use Rattle.card.specs.Cards.{other_of, continuation_of, is_within_quotes, quoted_card, extension_of, hierarch_of, unplaced_of, card_of}
use Rattle.joining.specs.Words.{ends_open, adds_nothing, join_text, join_comment, opens, join_words}
use Rattle.joining.specs.Lookup.{join_on, lookup}
use Rattle.roles.specs.Cards.{cards_in, is_bad_length}
use Rattle.finding.specs.Finding.{header_from, header_of}
use Rattle.entries.specs.declared.NoEntry.{NoEntry}
use Rattle.entries.specs.declared.NoEntry.TheVariants as N
use Rattle.entries.specs.Answers.{LookupOutcome, written, lookup_of}
use Rattle.writing.specs.Pieces.{doubled, bytes_for, fitting, leftover, pieces_from}
use Rattle.writing.specs.Written.{name_front, written_cards}

-- ---- headers and answers

-- a card by its text from byte 0 on, and a header by the texts of its cards
abbrev pub padded_card : String → List ℕ
padded_card t = filled (code " ") 80 (ascii t)

abbrev pub padded_header : List String → List ℕ
padded_header [] = []
padded_header (t ∷ ts) = padded_card t ++ padded_header ts

-- a string's text, a refusal's number, or another value
pub data Answer : Type 0 where
  text : List ℕ → Answer
  refusal : ℕ → Answer
  other : Answer

abbrev pub value_answer : Value → List ℕ → Answer
value_answer (Integer z) t = other
value_answer (Float minus size) t = other
value_answer (Logical b) t = other
value_answer Str t = text t
value_answer Undefined t = other
value_answer Invalid t = other

abbrev pub lookup_answer : Result Value NoEntry → List ℕ → Answer
lookup_answer (Ok v) t = value_answer v t
lookup_answer (Err (N.Header stop)) t = refusal (number_of stop.fault.why)
lookup_answer (Err (N.Refused fault)) t = refusal (number_of fault.why)

abbrev pub answer_of : LookupOutcome → Answer
answer_of o = lookup_answer o.answer.answer (take o.answer.text o.text)

-- what the lookup answers a name
abbrev pub asked : String → List String → Answer
asked name h = answer_of (lookup_of (padded_header h) (ascii name) (replicate 80 0) (replicate 80 0))

-- ---- the string and its two cards

abbrev pub new_code : List ℕ
new_code = ascii "123456789012345678901234567890123456789012345678901234567890123456789"

abbrev pub new_first : String
new_first = "K       = '1234567890123456789012345678901234567890123456789012345678901234567&'"

abbrev pub new_second : String
new_second = "CONTINUE  '89'"

pub new-cards : written_cards Str (ascii "K") new_code None ≡ padded_card new_first ∷ padded_card new_second ∷ []
unfolding filled doubled bytes_for fitting leftover pieces_from name_front
new-cards = refl

-- what the first card alone reads as
abbrev pub cut_code : List ℕ
cut_code = ascii "1234567890123456789012345678901234567890123456789012345678901234567&"

-- ---- new cards in old places

-- a name, a header with what the name is answered, and the header with K's new cards with what it is answered then
pub record Exchange : Type 0 where
  pub name : String
  pub old : List String
  pub was : Answer
  pub new : List String
  pub is : Answer

abbrev pub exchange : String → List String → Answer → List String → Answer → Exchange
exchange name old was new is = record { name = name; old = old; was = was; new = new; is = is }

-- a header, and the same with K's new cards, which meet all conditions
abbrev pub good_old : List String
good_old = "X       = 'b&'" ∷ "K       = 'a&'" ∷ "COMMENT in between" ∷ "K       = 'a&'" ∷ "END" ∷ []

abbrev pub good_new : List String
good_new = "X       = 'b&'" ∷ new_first ∷ "COMMENT in between" ∷ new_second ∷ "END" ∷ []

abbrev pub exchanges : List Exchange
exchanges =
    -- All conditions hold, with commentary between: X stays, and K reads back.
    exchange "X" good_old (text (ascii "b&")) good_new (text (ascii "b&"))
    ∷ exchange "K" good_old (text (ascii "a&")) good_new (text new_code)
    -- `Together` is broken. A value card between: K's CONTINUE card is joined to X, and K is cut.
    ∷ exchange "X"
    ("K       = 'a&'" ∷ "X       = 'b&'" ∷ "K       = 'a&'" ∷ "END" ∷ []) (text (ascii "b&"))
    (new_first ∷ "X       = 'b&'" ∷ new_second ∷ "END" ∷ []) (text (ascii "b89"))
    ∷ exchange "K"
    ("K       = 'a&'" ∷ "X       = 'b&'" ∷ "K       = 'a&'" ∷ "END" ∷ []) (text (ascii "a&"))
    (new_first ∷ "X       = 'b&'" ∷ new_second ∷ "END" ∷ []) (text cut_code)
    -- A HIERARCH card between: as a value card.
    ∷ exchange "X"
    ("K       = 'a&'" ∷ "HIERARCH X = 'b&'" ∷ "K       = 'a&'" ∷ "END" ∷ []) (text (ascii "b&"))
    (new_first ∷ "HIERARCH X = 'b&'" ∷ new_second ∷ "END" ∷ []) (text (ascii "b89"))
    ∷ exchange "K"
    ("K       = 'a&'" ∷ "HIERARCH X = 'b&'" ∷ "K       = 'a&'" ∷ "END" ∷ []) (text (ascii "a&"))
    (new_first ∷ "HIERARCH X = 'b&'" ∷ new_second ∷ "END" ∷ []) (text cut_code)
    -- An XTENSION card between: it stays, for nothing is joined to it, but K is cut.
    ∷ exchange "XTENSION"
    ("K       = 'a&'" ∷ "XTENSION= 'b&'" ∷ "K       = 'a&'" ∷ "END" ∷ []) (text (ascii "b&"))
    (new_first ∷ "XTENSION= 'b&'" ∷ new_second ∷ "END" ∷ []) (text (ascii "b&"))
    ∷ exchange "K"
    ("K       = 'a&'" ∷ "XTENSION= 'b&'" ∷ "K       = 'a&'" ∷ "END" ∷ []) (text (ascii "a&"))
    (new_first ∷ "XTENSION= 'b&'" ∷ new_second ∷ "END" ∷ []) (text cut_code)
    -- A CONTINUE card between that was joined to nothing: it is joined to K in place of K's own.
    ∷ exchange "K"
    ("K       = 'a'" ∷ "CONTINUE  'c'" ∷ "K       = 'a'" ∷ "END" ∷ []) (text (ascii "a"))
    (new_first ∷ "CONTINUE  'c'" ∷ new_second ∷ "END" ∷ [])
    (text (ascii "1234567890123456789012345678901234567890123456789012345678901234567c"))
    -- `Replaces` is broken. More new cards than places: the second has none, and K is cut.
    ∷ exchange "K"
    ("K       = 'a'" ∷ "X       = 'b'" ∷ "END" ∷ []) (text (ascii "a"))
    (new_first ∷ "X       = 'b'" ∷ "END" ∷ []) (text cut_code)
    -- Fewer new cards than places: an old card between them takes the second, and a later one is K's answer.
    ∷ exchange "K"
    ("K       = 'a&'" ∷ "K       = 'a&'" ∷ "K       = 'a&'" ∷ "END" ∷ []) (text (ascii "a&"))
    (new_first ∷ "K       = 'a&'" ∷ new_second ∷ "END" ∷ []) (text (ascii "a89"))
    ∷ exchange "K"
    ("K       = 'a&'" ∷ "K       = 'a&'" ∷ "K       = 'a&'" ∷ "END" ∷ []) (text (ascii "a&"))
    (new_first ∷ new_second ∷ "K       = 'a&'" ∷ "END" ∷ []) (text (ascii "a&"))
    -- The new cards in another order: K is cut.
    ∷ exchange "K"
    ("K       = 'a&'" ∷ "CONTINUE  'c'" ∷ "END" ∷ []) (text (ascii "ac"))
    (new_second ∷ new_first ∷ "END" ∷ []) (text cut_code)
    -- And where an open string stands before them, it takes the second.
    ∷ exchange "X"
    ("X       = 'b&'" ∷ "K       = 'a&'" ∷ "CONTINUE  'c'" ∷ "END" ∷ []) (text (ascii "b&"))
    ("X       = 'b&'" ∷ new_second ∷ new_first ∷ "END" ∷ []) (text (ascii "b89"))
    -- A place that is not K's has another card: X is gone.
    ∷ exchange "X"
    ("K       = 'a'" ∷ "X       = 'b'" ∷ "END" ∷ []) (text (ascii "b"))
    (new_first ∷ new_second ∷ "END" ∷ []) (refusal 12)
    ∷ []

-- ---- reading back

-- a header in which K's written cards stand, and what K is answered
pub record Reread : Type 0 where
  pub header : List String
  pub is : Answer

abbrev pub reread : List String → Answer → Reread
reread header is = record { header = header; is = is }

abbrev pub rereads : List Reread
rereads =
    -- All conditions of `StandIn` hold: other cards before, of K too, commentary between, other cards behind.
    reread ("K       = 'a&'" ∷ new_first ∷ "HISTORY in between" ∷ new_second ∷ "X       = 'b'" ∷ "END" ∷ []) (text new_code)
    -- A later value or HIERARCH card bears the name.
    ∷ reread (new_first ∷ new_second ∷ "K       = 'a'" ∷ "END" ∷ []) (text (ascii "a"))
    ∷ reread (new_first ∷ new_second ∷ "HIERARCH K = 'a'" ∷ "END" ∷ []) (text (ascii "a"))
    -- A card between is no commentary.
    ∷ reread (new_first ∷ "X       = 'b'" ∷ new_second ∷ "END" ∷ []) (text cut_code)
    -- END stands before the first card, and before the second.
    ∷ reread ("END" ∷ new_first ∷ new_second ∷ []) (refusal 12)
    ∷ reread (new_first ∷ "END" ∷ new_second ∷ []) (text cut_code)
    -- The header is not accepted: it has no END.
    ∷ reread (new_first ∷ new_second ∷ []) (refusal 10)
    -- `MayWrite` is broken. A string that ends in & takes a CONTINUE card that follows, and one that ends in a space loses the space.
    ∷ reread ("K       = 'a&'" ∷ "CONTINUE  'c'" ∷ "END" ∷ []) (text (ascii "ac"))
    ∷ reread ("K       = 'a '" ∷ "END" ∷ []) (text (ascii "a"))
    ∷ []

-- ---- each row is so

pub computed :
    map (λ (c : Exchange). asked c.name c.old) exchanges
    ++ map (λ (c : Exchange). asked c.name c.new) exchanges
    ++ map (λ (s : Reread). asked "K" s.header) rereads
    ≡ map (λ (c : Exchange). c.was) exchanges ++ map (λ (c : Exchange). c.is) exchanges ++ map (λ (s : Reread). s.is) rereads
unfolding is_space is_blank is_printable shown trim_start leading cons_trimmed trim_end trim same stem ends_with filled place_from after
    scan_from
    byte_class split_of settled_of opened unopened string_of starts_number start_of of_string value_with value_of has_high class_of
    name_pieces
    join_pieces other_of continuation_of is_within_quotes quoted_card extension_of hierarch_of unplaced_of card_of ends_open adds_nothing
    join_text
    join_comment opens join_words join_on lookup cards_in is_bad_length header_from header_of written lookup_of
computed = refl
