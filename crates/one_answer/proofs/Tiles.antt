-- One answer: a tile opened, read, stepped through and decoded whole, with the lent pixels; a field through a reader.
use Prim.Native.Nat.{ℕ}
use mathlib.Core.List.{List}
use mathlib.Core.Path.{◌≡◌, sym, ◌∙◌}
use Rattle.one_answer.specs.OneAnswer.{OneAnswer, pair_of}
use Rattle.one_answer.proofs.Both.{both}
use Rattle.rice.proofs.open.Reads as open-tile-reads
use Rattle.rice.proofs.Cursor.take_bits.Reads as cursor-take-bits-reads
use Rattle.rice.proofs.Cursor.skip_zeros.Reads as cursor-skip-zeros-reads
use Rattle.rice.proofs.Cursor.step.Reads as cursor-step-reads
use Rattle.rice.proofs.decode.Reads as decode-reads
use Rattle.reader.proofs.field_at.Reads as reader-field-at-reads
use Rattle.std.specs.Prelude.{Option}
use Rattle.reader.specs.Fields.{behind, field_of, zeros_of}

-- `rice::open`
pub open_tile : OneAnswer open-tile-reads.Post (λ r s. r)
open_tile κs a r q s t x y = x ∙ sym y

-- `rice::Cursor::take_bits`
pub cursor_take_bits : OneAnswer cursor-take-bits-reads.Post (λ r s. r)
cursor_take_bits κs a r q s t x y = x ∙ sym y

-- `rice::Cursor::skip_zeros`
pub cursor_skip_zeros : OneAnswer cursor-skip-zeros-reads.Post (λ r s. r)
cursor_skip_zeros κs a r q s t x y = x ∙ sym y

-- `rice::Cursor::step`
pub cursor_step : OneAnswer cursor-step-reads.Post (λ r s. pair_of r s.1.1.1.1.1.0.now)
cursor_step κs a r q s t x y = both (x.0 ∙ sym y.0) (x.1 ∙ sym y.1)

-- `rice::decode`
pub decode : OneAnswer decode-reads.Post (λ r s. pair_of r s.1.1.1.1.0.now)
decode κs a r q s t x y = both (x.0 ∙ sym y.0) (x.1 ∙ sym y.1)

-- `reader::field_at`
pub reader_field_at : OneAnswer reader-field-at-reads.Post (λ r s. r)
reader_field_at κs a r q s t x y = x ∙ sym y

-- ---- The functions that take or hand out the reader itself are proved by hand and have no plain reading, so their contracts are
-- repeated here: the tile's bytes and the place are what a reader holds.
pub record Holds : Type 0 where
  pub tile : List ℕ
  pub bit : ℕ

-- two readers that hold the same
same_reader : {r q : Holds} → r.tile ≡ q.tile → r.bit ≡ q.bit → r ≡ q
same_reader x y = λ j. record { tile = x j; bit = y j }

-- `reader::new`
pub reader_new : OneAnswer {S = Holds}
    (λ (κs : Unit {0}) (tile : List ℕ) (r s : Holds). (r.tile ≡ tile) × (r.bit ≡ 0)) (λ r s. r)
reader_new κs a r q s t x y = same_reader (x.0 ∙ sym y.0) (x.1 ∙ sym y.1)

-- `reader::place`
pub reader_place : (bit : ℕ) → OneAnswer {S = Holds}
    (λ (κs : Unit {0}) (a r s : Holds). (r.tile ≡ a.tile) × (r.bit ≡ bit)) (λ r s. r)
reader_place bit κs a r q s t x y = same_reader (x.0 ∙ sym y.0) (x.1 ∙ sym y.1)

-- what `take_bits` and `skip_zeros` owe of the field f and of the reader s that they leave, where the field of the reader a is found
abbrev Takes : (Holds → Option (ℕ × ℕ)) → Unit {0} → Holds → Option (ℕ × ℕ) → Holds → Type 0
Takes found κs a f s = (f ≡ found a) × (s.tile ≡ a.tile) × (s.bit ≡ behind a.bit (found a))

-- `reader::take_bits`
pub reader_take_bits : (n : ℕ) → OneAnswer (Takes (λ a. field_of a.tile a.bit n)) (λ f s. pair_of f s)
reader_take_bits n κs a r q s t x y = both (x.0 ∙ sym y.0) (same_reader (x.1 ∙ sym y.1) (x.2 ∙ sym y.2))

-- `reader::skip_zeros`
pub reader_skip_zeros : OneAnswer (Takes (λ a. zeros_of a.tile a.bit)) (λ f s. pair_of f s)
reader_skip_zeros κs a r q s t x y = both (x.0 ∙ sym y.0) (same_reader (x.1 ∙ sym y.1) (x.2 ∙ sym y.2))
