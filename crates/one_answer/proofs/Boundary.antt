-- One answer: the C boundary, with all memory that C lends.
use Prim.Native.Nat.{ℕ}
use mathlib.Core.List.{List}
use lib.IntN.{ℤ}
use mathlib.Core.Path.{sym, ◌∙◌}
use Rattle.abi_value.specs.Telling.{UnitOutcome}
use Rattle.abi_card.specs.Records.{card_outcome}
use Rattle.abi_header.specs.Headers.{HeaderOutcome, ValueMemory, CommentMemory, list_outcome, NamedOutcome}
use Rattle.abi_writing.specs.Asking.{WrittenOutcome}
use Rattle.abi_tile.specs.Tiles.{cursor_of}
use Rattle.one_answer.specs.OneAnswer.{OneAnswer, pair_of}
use Rattle.one_answer.proofs.Both.{both}
use Rattle.abi_value.proofs.value_told.Reads as value-told-reads
use Rattle.abi_value.proofs.bit.Reads as bit-reads
use Rattle.abi_value.proofs.unit_end.Reads as unit-end-reads
use Rattle.abi_value.proofs.unit_past_space_end.Reads as unit-past-space-end-reads
use Rattle.abi_value.proofs.column_after.Reads as column-after-reads
use Rattle.abi_card.proofs.read_into.Reads as read-into-reads
use Rattle.abi_header.proofs.header_into.Reads as header-into-reads
use Rattle.abi_header.proofs.lookup_value_into.Reads as lookup-value-into-reads
use Rattle.abi_header.proofs.lookup_comment_into.Reads as lookup-comment-into-reads
use Rattle.abi_header.proofs.entry_value_into.Reads as entry-value-into-reads
use Rattle.abi_header.proofs.entry_comment_into.Reads as entry-comment-into-reads
use Rattle.abi_header.proofs.list_into.Reads as list-into-reads
use Rattle.abi_header.proofs.name_into.Reads as name-into-reads
use Rattle.abi_writing.proofs.write_into.Reads as write-into-reads
use Rattle.abi_tile.proofs.open_into.Reads as open-into-reads
use Rattle.abi_tile.proofs.step_into.Reads as step-into-reads
use Rattle.abi_tile.proofs.decode_into.Reads as decode-into-reads
use Rattle.widrekas.proofs.widrekas_version.Reads as widrekas-version-reads
use Rattle.widrekas.proofs.widrekas_unit.Reads as widrekas-unit-reads
use Rattle.widrekas.proofs.widrekas_unit_past_space.Reads as widrekas-unit-past-space-reads
use Rattle.widrekas.proofs.widrekas_card.Reads as widrekas-card-reads
use Rattle.widrekas.proofs.widrekas_header.Reads as widrekas-header-reads
use Rattle.widrekas.proofs.widrekas_lookup_value.Reads as widrekas-lookup-value-reads
use Rattle.widrekas.proofs.widrekas_lookup_comment.Reads as widrekas-lookup-comment-reads
use Rattle.widrekas.proofs.widrekas_entry_value.Reads as widrekas-entry-value-reads
use Rattle.widrekas.proofs.widrekas_entry_comment.Reads as widrekas-entry-comment-reads
use Rattle.widrekas.proofs.widrekas_list.Reads as widrekas-list-reads
use Rattle.widrekas.proofs.widrekas_name.Reads as widrekas-name-reads
use Rattle.widrekas.proofs.widrekas_write.Reads as widrekas-write-reads
use Rattle.widrekas.proofs.widrekas_open.Reads as widrekas-open-reads
use Rattle.widrekas.proofs.widrekas_step.Reads as widrekas-step-reads
use Rattle.widrekas.proofs.widrekas_decode.Reads as widrekas-decode-reads

abbrev written_left : ℕ → List ℕ → ℕ → WrittenOutcome
written_left r block count = record { answer = r; block = block; count = count }

abbrev value_memory : ℕ → List ℕ → List ℕ → List ℕ → ℤ → ℕ → ValueMemory
value_memory r text digits out number column =
    record { answer = r; text = text; digits = digits; numbers = out; number = number; column = column }

abbrev comment_memory : ℕ → List ℕ → ℕ → ℕ → ℕ → ℕ → CommentMemory
comment_memory r comment commented bytes card column =
    record { answer = r; comment = comment; commented = commented; bytes = bytes; card = card; column = column }

abbrev unit_left : ℕ → ℕ → UnitOutcome
unit_left r start = record { answer = r; start = start }

abbrev header_left : ℕ → ℕ → ℕ → HeaderOutcome
header_left r card column = record { answer = r; card = card; column = column }

abbrev name_left : ℕ → List ℕ → ℕ → ℕ → NamedOutcome
name_left r name bytes column = record { answer = r; name = name; bytes = bytes; column = column }

-- `abi_value::value_told`
pub value_told_lem : OneAnswer value-told-reads.Post (λ r s. r)
value_told_lem κs a r q s t x y = x ∙ sym y

-- `abi_value::bit`
pub bit : OneAnswer bit-reads.Post (λ r s. r)
bit κs a r q s t x y = x ∙ sym y

-- `abi_value::unit_end`
pub unit_end_lem : OneAnswer unit-end-reads.Post (λ r s. r)
unit_end_lem κs a r q s t x y = x ∙ sym y

-- `abi_value::unit_past_space_end`
pub unit_past_space-end : OneAnswer unit-past-space-end-reads.Post (λ r s. unit_left r s.1.0.now)
unit_past_space-end κs a r q s t x y = x ∙ sym y

-- `abi_value::column_after`
pub column_after_lem : OneAnswer column-after-reads.Post (λ r s. r)
column_after_lem κs a r q s t x y = x ∙ sym y

-- `abi_card::read_into`
pub read_into_lem : OneAnswer read-into-reads.Post (λ r s. card_outcome r s.1.0.now s.1.1.0.now s.1.1.1.0.now)
read_into_lem κs a r q s t x y = x ∙ sym y

-- `abi_header::header_into`
pub header_into_lem : OneAnswer header-into-reads.Post (λ r s. header_left r s.1.0.now s.1.1.0.now)
header_into_lem κs a r q s t x y = x ∙ sym y

-- `abi_header::lookup_value_into`
pub lookup-value_into : OneAnswer lookup-value-into-reads.Post
    (λ r s. value_memory r s.1.1.0.now s.1.1.1.0.now s.1.1.1.1.0.now
    s.1.1.1.1.1.0.now s.1.1.1.1.1.1.0.now)
lookup-value_into κs a r q s t x y = x ∙ sym y

-- `abi_header::lookup_comment_into`
pub lookup-comment_into : OneAnswer lookup-comment-into-reads.Post
    (λ r s. comment_memory r s.1.1.0.now s.1.1.1.0.now s.1.1.1.1.0.now
    s.1.1.1.1.1.0.now s.1.1.1.1.1.1.0.now)
lookup-comment_into κs a r q s t x y = x ∙ sym y

-- `abi_header::entry_value_into`
pub entry-value_into : OneAnswer entry-value-into-reads.Post
    (λ r s. value_memory r s.1.1.0.now s.1.1.1.0.now s.1.1.1.1.0.now
    s.1.1.1.1.1.0.now s.1.1.1.1.1.1.0.now)
entry-value_into κs a r q s t x y = x ∙ sym y

-- `abi_header::entry_comment_into`
pub entry-comment_into : OneAnswer entry-comment-into-reads.Post
    (λ r s. comment_memory r s.1.1.0.now s.1.1.1.0.now s.1.1.1.1.0.now
    s.1.1.1.1.1.0.now s.1.1.1.1.1.1.0.now)
entry-comment_into κs a r q s t x y = x ∙ sym y

-- `abi_header::list_into`
pub list_into_lem : OneAnswer list-into-reads.Post
    (λ r s. list_outcome r s.1.0.now s.1.1.0.now s.1.1.1.0.now s.1.1.1.1.0.now s.1.1.1.1.1.0.now)
list_into_lem κs a r q s t x y = x ∙ sym y

-- `abi_header::name_into`
pub name_into_lem : OneAnswer name-into-reads.Post
    (λ r s. name_left r s.1.1.0.now s.1.1.1.0.now s.1.1.1.1.0.now)
name_into_lem κs a r q s t x y = x ∙ sym y

-- `abi_writing::write_into`
pub write_into_lem : OneAnswer write-into-reads.Post
    (λ r s. written_left r s.1.1.1.1.1.1.1.0.now s.1.1.1.1.1.1.1.1.0.now)
write_into_lem κs a r q s t x y = x ∙ sym y

-- `abi_tile::open_into`
pub open_into_lem : OneAnswer open-into-reads.Post
    (λ r s. pair_of r (cursor_of s.1.1.1.1.0.now s.1.1.1.1.1.0.now s.1.1.1.1.1.1.0.now))
open_into_lem κs a r q s t x y = both (x.answer ∙ sym y.answer) (x.place ∙ sym y.place)

-- `abi_tile::step_into`
pub step_into_lem : OneAnswer step-into-reads.Post
    (λ r s. pair_of (pair_of r (cursor_of s.1.1.1.1.0.now s.1.1.1.1.1.0.now s.1.1.1.1.1.1.0.now))
    (pair_of s.1.1.1.1.1.1.1.0.now s.1.1.1.1.1.1.1.1.0.now))
step_into_lem κs a r q s t x y = both (both (x.answer ∙ sym y.answer) (x.place ∙ sym y.place))
    (both (x.content ∙ sym y.content) (x.told ∙ sym y.told))

-- `abi_tile::decode_into`
pub decode_into_lem : OneAnswer decode-into-reads.Post
    (λ r s. pair_of r (pair_of s.1.1.1.1.0.now s.1.1.1.1.1.0.now))
decode_into_lem κs a r q s t x y = both (x.answer ∙ sym y.answer) (both (x.content ∙ sym y.content) (x.told ∙ sym y.told))

-- `widrekas::widrekas_version`
pub widrekas_version_lem : OneAnswer widrekas-version-reads.Post (λ r s. r)
widrekas_version_lem κs a r q s t x y = x ∙ sym y

-- `widrekas::widrekas_unit`
pub widrekas_unit_lem : OneAnswer widrekas-unit-reads.Post (λ r s. r)
widrekas_unit_lem κs a r q s t x y = x ∙ sym y

-- `widrekas::widrekas_unit_past_space`
pub widrekas_unit_past_space_lem : OneAnswer widrekas-unit-past-space-reads.Post (λ r s. unit_left r s.1.0.now)
widrekas_unit_past_space_lem κs a r q s t x y = x ∙ sym y

-- `widrekas::widrekas_card`
pub widrekas_card_lem : OneAnswer widrekas-card-reads.Post
    (λ r s. card_outcome r s.1.0.now s.1.1.0.now s.1.1.1.0.now)
widrekas_card_lem κs a r q s t x y = x ∙ sym y

-- `widrekas::widrekas_header`
pub widrekas_header_lem : OneAnswer widrekas-header-reads.Post (λ r s. header_left r s.1.0.now s.1.1.0.now)
widrekas_header_lem κs a r q s t x y = x ∙ sym y

-- `widrekas::widrekas_lookup_value`
pub widrekas_lookup-value : OneAnswer widrekas-lookup-value-reads.Post
    (λ r s. value_memory r s.1.1.0.now s.1.1.1.0.now s.1.1.1.1.0.now
    s.1.1.1.1.1.0.now s.1.1.1.1.1.1.0.now)
widrekas_lookup-value κs a r q s t x y = x ∙ sym y

-- `widrekas::widrekas_lookup_comment`
pub widrekas_lookup-comment : OneAnswer widrekas-lookup-comment-reads.Post
    (λ r s. comment_memory r s.1.1.0.now s.1.1.1.0.now s.1.1.1.1.0.now
    s.1.1.1.1.1.0.now s.1.1.1.1.1.1.0.now)
widrekas_lookup-comment κs a r q s t x y = x ∙ sym y

-- `widrekas::widrekas_entry_value`
pub widrekas_entry-value : OneAnswer widrekas-entry-value-reads.Post
    (λ r s. value_memory r s.1.1.0.now s.1.1.1.0.now s.1.1.1.1.0.now
    s.1.1.1.1.1.0.now s.1.1.1.1.1.1.0.now)
widrekas_entry-value κs a r q s t x y = x ∙ sym y

-- `widrekas::widrekas_entry_comment`
pub widrekas_entry-comment : OneAnswer widrekas-entry-comment-reads.Post
    (λ r s. comment_memory r s.1.1.0.now s.1.1.1.0.now s.1.1.1.1.0.now
    s.1.1.1.1.1.0.now s.1.1.1.1.1.1.0.now)
widrekas_entry-comment κs a r q s t x y = x ∙ sym y

-- `widrekas::widrekas_list`
pub widrekas_list_lem : OneAnswer widrekas-list-reads.Post
    (λ r s. list_outcome r s.1.0.now s.1.1.0.now s.1.1.1.0.now s.1.1.1.1.0.now s.1.1.1.1.1.0.now)
widrekas_list_lem κs a r q s t x y = x ∙ sym y

-- `widrekas::widrekas_name`
pub widrekas_name_lem : OneAnswer widrekas-name-reads.Post
    (λ r s. name_left r s.1.1.0.now s.1.1.1.0.now s.1.1.1.1.0.now)
widrekas_name_lem κs a r q s t x y = x ∙ sym y

-- `widrekas::widrekas_write`
pub widrekas_write_lem : OneAnswer widrekas-write-reads.Post
    (λ r s. written_left r s.1.1.1.1.1.1.1.0.now s.1.1.1.1.1.1.1.1.0.now)
widrekas_write_lem κs a r q s t x y = x ∙ sym y

-- `widrekas::widrekas_open`
pub widrekas_open_lem : OneAnswer widrekas-open-reads.Post
    (λ r s. pair_of r (cursor_of s.1.1.1.1.0.now s.1.1.1.1.1.0.now s.1.1.1.1.1.1.0.now))
widrekas_open_lem κs a r q s t x y = both (x.answer ∙ sym y.answer) (x.place ∙ sym y.place)

-- `widrekas::widrekas_step`
pub widrekas_step_lem : OneAnswer widrekas-step-reads.Post
    (λ r s. pair_of (pair_of r (cursor_of s.1.1.1.1.0.now s.1.1.1.1.1.0.now s.1.1.1.1.1.1.0.now))
    (pair_of s.1.1.1.1.1.1.1.0.now s.1.1.1.1.1.1.1.1.0.now))
widrekas_step_lem κs a r q s t x y = both (both (x.answer ∙ sym y.answer) (x.place ∙ sym y.place))
    (both (x.content ∙ sym y.content) (x.told ∙ sym y.told))

-- `widrekas::widrekas_decode`
pub widrekas_decode_lem : OneAnswer widrekas-decode-reads.Post
    (λ r s. pair_of r (pair_of s.1.1.1.1.0.now s.1.1.1.1.1.0.now))
widrekas_decode_lem κs a r q s t x y = both (x.answer ∙ sym y.answer)
    (both (x.content ∙ sym y.content) (x.told ∙ sym y.told))
