-- The byte of a card at which it is refused (SPECIFICATION 2.4), for each refusal, from the card's bytes alone.
use Rattle.std.specs.Prelude.{ℕ, suc, ◌+◌, cond, List, [], ◌∷◌, leb, drop, None, Option, Some}
use Prim.Native.Char.{code}
use Rattle.refusal.specs.declared.Refusal.{Refusal}
use Rattle.refusal.specs.declared.Refusal.TheVariants as R
use Rattle.text.specs.Place.{place_of}
use Rattle.splitting.specs.Columns.{first_byte, odd_byte}
use Rattle.card.specs.declared.Class.{Class}
use Rattle.card.specs.declared.Class.TheVariants.{Empty, Comment, History, Continue, Xtension, Hierarch, End, Other}
use Rattle.card.specs.Keywords.{first_high, keyword_of, class_of}

-- the first byte of 128 or more, in bytes that stand from byte i on
unfoldable pub high_from : List ℕ → ℕ → Option ℕ
high_from [] i = None
high_from (b ∷ s) i = cond (leb first_high b) (Some i) (high_from s (suc i))

-- the first = from byte 9 on: its place behind that byte, and its own byte
abbrev pub equals_of : List ℕ → Option ℕ
equals_of c = place_of (code "=") (drop 9 c)

abbrev pub equals_byte : Option ℕ → Option ℕ
equals_byte (Some i) = Some (9 + i)
equals_byte None = None

-- the byte that a card's text stands from: CONTINUE 8, HIERARCH the one behind its =, any other 10; commentary and END have no text
-- that is refused
abbrev pub behind : Option ℕ → ℕ
behind (Some i) = 10 + i
behind None = 10

abbrev pub text_from : Class → List ℕ → ℕ
text_from Continue c = 8
text_from Hierarch c = behind (equals_of c)
text_from Empty c = 10
text_from Comment c = 10
text_from History c = 10
text_from Xtension c = 10
text_from End c = 10
text_from Other c = 10

-- the rows of SPECIFICATION 2.1 in their order, for a card c whose text stands from byte `from` on: 1 to 8 with their columns, then those
-- that are not of a card and have none
abbrev pub column_in : ℕ → List ℕ → Refusal → Option ℕ
column_in from c R.HighByte = high_from c 0
column_in from c R.OddByte = odd_byte from (drop from c)
column_in from c R.StringNotClosed = Some (first_byte from (drop from c))
column_in from c R.StringNotOpened = Some (first_byte from (drop from c))
column_in from c R.Complex = Some (first_byte from (drop from c))
column_in from c R.NoEquals = Some 9
column_in from c R.NoName = equals_byte (equals_of c)
column_in from c R.ExtensionNotQuoted = Some (first_byte from (drop from c))
column_in from c R.HeaderLength = None
column_in from c R.NoEnd = None
column_in from c R.NameNotFound = None
column_in from c R.BufferShort = None
column_in from c R.Limits = None
column_in from c R.PixelCount = None
column_in from c R.TileEnds = None
column_in from c R.FsAboveTop = None
column_in from c R.BadCursor = None
column_in from c R.UnwritableName = None
column_in from c R.UnwritableValue = None
column_in from c R.BlockShort = None

abbrev pub column_of : List ℕ → Refusal → Option ℕ
column_of c why = column_in (text_from (class_of (keyword_of c)) c) c why
