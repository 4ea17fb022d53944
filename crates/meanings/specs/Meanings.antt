-- What each refusal says in words (docs/REFUSALS.md, "Words").
use Rattle.std.specs.Prelude.{ℕ, List}
use Rattle.text.specs.Bytes.{ascii}
use Rattle.refusal.specs.declared.Refusal.{Refusal}
use Rattle.refusal.specs.declared.Refusal.TheVariants as R

unfoldable pub meaning_of : Refusal → List ℕ
meaning_of R.HighByte = ascii "a byte of the card is 128 or more"
meaning_of R.OddByte = ascii "before the slash and outside a string stands a byte outside 32 to 126"
meaning_of R.StringNotClosed = ascii "the string begins with a quote and does not end with one"
meaning_of R.StringNotOpened = ascii "the CONTINUE string ends with a quote and does not begin with one"
meaning_of R.Complex = ascii "the value begins with a parenthesis, and complex numbers are not read"
meaning_of R.NoEquals = ascii "the HIERARCH card has no = from byte 9 on"
meaning_of R.NoName = ascii "the HIERARCH card has no name before its ="
meaning_of R.ExtensionNotQuoted = ascii "the XTENSION value is not within quotes"
meaning_of R.HeaderLength = ascii "the header's length is 0, no multiple of 80, or above 57,600"
meaning_of R.NoEnd = ascii "the header has no END card"
meaning_of R.NameNotFound = ascii "no entry bears the name or stands at the card"
meaning_of R.BufferShort = ascii "a lent buffer is shorter than the text for it"
meaning_of R.Limits = ascii "the tile's pixels, block, width or length is outside its limits"
meaning_of R.PixelCount = ascii "the pixel slice is not as long as the tile has pixels"
meaning_of R.TileEnds = ascii "the tile ends before its last pixel"
meaning_of R.FsAboveTop = ascii "an FS field of the tile is above its top"
meaning_of R.BadCursor = ascii "the cursor does not fit the tile"
meaning_of R.UnwritableName = ascii "the name is not 1 to 8 of A to Z, 0 to 9, - and _, or is a special keyword"
meaning_of R.UnwritableValue = ascii "the value or its comment is outside the rules for written cards"
meaning_of R.BlockShort = ascii "the block is shorter than the cards for it"
