-- The largest and the least integer as they are written: their digits are told in 20 turns, and the rest computes.
use Rattle.std.specs.Prelude.{None}
use Prim.Native.Nat.{ℕ}
use native.Mathlib.Omega.{arith}
use mathlib.Core.Path.{ap}
use mathlib.Core.Bool.{Bool, true, cond, ◌&&◌}
use mathlib.Core.List.{List, [], ◌∷◌, ◌++◌}
use lib.IntN.{pos, negsuc}
use Rattle.refusal.specs.declared.Refusal.TheVariants as R
use Rattle.text.specs.Bytes.{ascii, is_digit, every}
use Rattle.text.specs.Same.{same}
use Rattle.text.specs.Text.{filled}
use Rattle.numerals.specs.Numerals.{digits_before, minus_of}
use Rattle.numerals.proofs.Decimals.{digits-told}
use Rattle.card.specs.Keywords.{class_of}
use Rattle.writing.specs.Written.{name_front, justified, plain_cards}
use Rattle.writing.specs.Rules.{is_name_byte, is_name, is_long, fits_card, is_writable}
use Rattle.writing.specs.Block.{flat, WriteOutcome, not_written, put_cards, write_of}
use Rattle.edges.specs.Writing.{Left, left_of, lent, Largest, Least}

-- what is left of a block of 83 bytes by the digits of an integer
abbrev outcome : Bool → List ℕ → WriteOutcome
outcome long t =
    cond (is_name (ascii "N"))
    (cond (true && (long && fits_card t None)) (put_cards (plain_cards (ascii "N") t None) (lent 83))
    (not_written R.UnwritableValue (lent 83)))
    (not_written R.UnwritableName (lent 83))

abbrev rows : Bool → List ℕ → List Left
rows long t = let o = outcome long t in left_of o.answer o.block ∷ []

pub largest : Largest
unfolding write_of is_writable filled digits_before name_front justified every is_name_byte is_name is_digit class_of same flat put_cards
largest =
    ap (rows (is_long (pos 9223372036854775807))) (digits-told 20 9223372036854775807 (omega arith) (omega arith))

pub least : Least
unfolding write_of is_writable filled digits_before name_front justified every is_name_byte is_name is_digit class_of same flat put_cards
least =
    ap (λ (t : List ℕ). rows (is_long (negsuc 9223372036854775807)) (minus_of true ++ t))
    (digits-told 20 9223372036854775808 (omega arith) (omega arith))
