-- One answer: refusals and their words, bytes, bytes made visible, numbers, one card.
use mathlib.Core.Path.{sym, ◌∙◌}
use denote.RattleType.{RattleType}
use denote.Param.Laws.{Laws, IsCopy}
use mir.Syntax.{Dict}
use Rattle.std.specs.declared.clone.Clone as Clone
use Rattle.text.specs.declared.ByteClass as ByteClass
use Rattle.text.specs.declared.ByteChange as ByteChange
use Rattle.escaping.specs.Escaping.{escape_outcome}
use Rattle.one_answer.specs.OneAnswer.{OneAnswer, pair_of}
use Rattle.one_answer.proofs.Both.{both}
use Rattle.refusal.proofs.Refusal.number.Reads as refusal-number-reads
use Rattle.refusal.proofs.Fault.number.Reads as fault-number-reads
use Rattle.refusal.proofs.fault_of.Reads as fault-of-reads
use Rattle.refusal.proofs.fault_at.Reads as fault-at-reads
use Rattle.text.proofs.Text.as_slice.Reads as as-slice-reads
use Rattle.text.proofs.is_blank.Reads as is-blank-reads
use Rattle.text.proofs.is_printable.Reads as is-printable-reads
use Rattle.text.proofs.every.Reads as every-reads
use Rattle.text.proofs.are_printable.Reads as are-printable-reads
use Rattle.text.proofs.is_digit.Reads as is-digit-reads
use Rattle.text.proofs.replaced.Reads as replaced-reads
use Rattle.text.proofs.trim_start.Reads as trim-start-reads
use Rattle.text.proofs.leading_of.Reads as leading-of-reads
use Rattle.text.proofs.trim_end.Reads as trim-end-reads
use Rattle.text.proofs.trimmed.Reads as trimmed-reads
use Rattle.text.proofs.first_of.Reads as first-of-reads
use Rattle.text.proofs.rest_of.Reads as rest-of-reads
use Rattle.text.proofs.find_byte.Reads as find-byte-reads
use Rattle.text.proofs.same_bytes.Reads as same-bytes-reads
use Rattle.text.proofs.empty_text.Reads as empty-text-reads
use Rattle.text.proofs.changed_text.Reads as changed-text-reads
use Rattle.text.proofs.text_of.Reads as text-of-reads
use Rattle.text.proofs.joined_text.Reads as joined-text-reads
use Rattle.text.proofs.at_most_all.Reads as at-most-all-reads
use Rattle.text.proofs.put_at.Reads as put-at-reads
use Rattle.numbers.proofs.parse_number.Reads as parse-number-reads
use Rattle.numerals.proofs.natural_text.Reads as natural-text-reads
use Rattle.numerals.proofs.integer_text.Reads as integer-text-reads
use Rattle.numerals.proofs.power_text.Reads as power-text-reads
use Rattle.escaping.proofs.escape.Reads as escape-reads
use Rattle.meanings.proofs.meaning.Reads as meaning-reads
use Rattle.splitting.proofs.split.Reads as split-reads
use Rattle.splitting.proofs.parse_string.Reads as parse-string-reads
use Rattle.value.proofs.read_value.Reads as read-value-reads
use Rattle.value.proofs.unit.Reads as unit-reads
use Rattle.value.proofs.unit_past_space.Reads as unit-past-space-reads
use Rattle.card.proofs.read_card.Reads as read-card-reads
use Rattle.card.proofs.class_of.Reads as class-of-reads
use Rattle.writing.proofs.write.Reads as write-reads

-- `refusal::Refusal::number`
pub refusal-number : OneAnswer refusal-number-reads.Post (λ r s. r)
refusal-number κs a r q s t x y = x ∙ sym y

-- `refusal::Fault::number`
pub fault_number : OneAnswer fault-number-reads.Post (λ r s. r)
fault_number κs a r q s t x y = x ∙ sym y

-- `refusal::fault_of`
pub fault_of_lem : OneAnswer fault-of-reads.Post (λ r s. r)
fault_of_lem κs a r q s t x y = x ∙ sym y

-- `refusal::fault_at`
pub fault_at_lem : OneAnswer fault-at-reads.Post (λ r s. r)
fault_at_lem κs a r q s t x y = x ∙ sym y

-- `text::Text::as_slice`
pub as_slice_lem : OneAnswer as-slice-reads.Post (λ r s. r.now)
as_slice_lem κs a r q s t x y = x.0 ∙ sym y.0

-- `text::is_blank`
pub is_blank_lem : OneAnswer is-blank-reads.Post (λ r s. r)
is_blank_lem κs a r q s t x y = x ∙ sym y

-- `text::is_printable`
pub is_printable_lem : OneAnswer is-printable-reads.Post (λ r s. r)
is_printable_lem κs a r q s t x y = x ∙ sym y

-- `text::every`
pub every : (T : RattleType) (L : Laws T) (copy : IsCopy T) (class : ByteClass.Ghosts T.Denot) (d : Dict)
    (clone : Clone.Ghosts T.Denot) (e : Dict) → OneAnswer (every-reads.Post T L copy class d clone e) (λ r s. r)
every T L copy class d clone e κs a r q s t x y = x ∙ sym y

-- `text::are_printable`
pub are_printable_lem : OneAnswer are-printable-reads.Post (λ r s. r)
are_printable_lem κs a r q s t x y = x ∙ sym y

-- `text::is_digit`
pub is_digit : OneAnswer is-digit-reads.Post (λ r s. r)
is_digit κs a r q s t x y = x ∙ sym y

-- `text::replaced`
pub replaced : OneAnswer replaced-reads.Post (λ r s. r)
replaced κs a r q s t x y = x ∙ sym y

-- `text::trim_start`
pub trim_start : (T : RattleType) (L : Laws T) (copy : IsCopy T) (class : ByteClass.Ghosts T.Denot) (d : Dict)
    (clone : Clone.Ghosts T.Denot) (e : Dict) → OneAnswer (trim-start-reads.Post T L copy class d clone e) (λ r s. r.now)
trim_start T L copy class d clone e κs a r q s t x y = x ∙ sym y

-- `text::leading_of`
pub leading_of_lem : (T : RattleType) (L : Laws T) (copy : IsCopy T) (class : ByteClass.Ghosts T.Denot) (d : Dict)
    (clone : Clone.Ghosts T.Denot) (e : Dict) → OneAnswer (leading-of-reads.Post T L copy class d clone e) (λ r s. r.now)
leading_of_lem T L copy class d clone e κs a r q s t x y = x ∙ sym y

-- `text::trim_end`
pub trim_end : (T : RattleType) (L : Laws T) (copy : IsCopy T) (class : ByteClass.Ghosts T.Denot) (d : Dict)
    (clone : Clone.Ghosts T.Denot) (e : Dict) → OneAnswer (trim-end-reads.Post T L copy class d clone e) (λ r s. r.now)
trim_end T L copy class d clone e κs a r q s t x y = x ∙ sym y

-- `text::trimmed`
pub trimmed : (T : RattleType) (L : Laws T) (copy : IsCopy T) (class : ByteClass.Ghosts T.Denot) (d : Dict)
    (clone : Clone.Ghosts T.Denot) (e : Dict) → OneAnswer (trimmed-reads.Post T L copy class d clone e) (λ r s. r.now)
trimmed T L copy class d clone e κs a r q s t x y = x ∙ sym y

-- `text::first_of`
pub first_of : OneAnswer first-of-reads.Post (λ r s. r.now)
first_of κs a r q s t x y = x ∙ sym y

-- `text::rest_of`
pub rest_of : OneAnswer rest-of-reads.Post (λ r s. r.now)
rest_of κs a r q s t x y = x ∙ sym y

-- `text::find_byte`
pub find_byte_lem : OneAnswer find-byte-reads.Post (λ r s. r)
find_byte_lem κs a r q s t x y = x ∙ sym y

-- `text::same_bytes`
pub same_bytes : OneAnswer same-bytes-reads.Post (λ r s. r)
same_bytes κs a r q s t x y = x ∙ sym y

-- `text::empty_text`
pub empty-text : OneAnswer empty-text-reads.Post (λ r s. r)
empty-text κs a r q s t x y = x ∙ sym y

-- `text::changed_text`
pub changed_text_lem : (T : RattleType) (L : Laws T) (copy : IsCopy T) (change : ByteChange.Ghosts T.Denot) (d : Dict)
    (clone : Clone.Ghosts T.Denot) (e : Dict) → OneAnswer (changed-text-reads.Post T L copy change d clone e) (λ r s. r)
changed_text_lem T L copy change d clone e κs a r q s t x y = x ∙ sym y

-- `text::text_of`
pub text_of_lem : OneAnswer text-of-reads.Post (λ r s. r)
text_of_lem κs a r q s t x y = x ∙ sym y

-- `text::joined_text`
pub joined-text : OneAnswer joined-text-reads.Post (λ r s. r)
joined-text κs a r q s t x y = x ∙ sym y

-- `text::at_most_all`
pub at_most_all_lem : OneAnswer at-most-all-reads.Post (λ r s. r)
at_most_all_lem κs a r q s t x y = x ∙ sym y

-- `text::put_at`
pub put_at_lem : OneAnswer put-at-reads.Post (λ r s. s.1.0.now)
put_at_lem κs a r q s t x y = x ∙ sym y

-- `numbers::parse_number`
pub parse_number_lem : OneAnswer parse-number-reads.Post (λ r s. r)
parse_number_lem κs a r q s t x y = x ∙ sym y

-- `numerals::natural_text`
pub natural_text_lem : OneAnswer natural-text-reads.Post (λ r s. r)
natural_text_lem κs a r q s t x y = x ∙ sym y

-- `numerals::integer_text`
pub integer-text : OneAnswer integer-text-reads.Post (λ r s. r)
integer-text κs a r q s t x y = x ∙ sym y

-- `numerals::power_text`
pub power_text_lem : OneAnswer power-text-reads.Post (λ r s. r)
power_text_lem κs a r q s t x y = x ∙ sym y

-- `escaping::escape`
pub escape : OneAnswer escape-reads.Post (λ r s. escape_outcome r s.1.0.now)
escape κs a r q s t x y = x ∙ sym y

-- `meanings::meaning`
pub meaning : OneAnswer meaning-reads.Post (λ r s. r)
meaning κs a r q s t x y = x ∙ sym y

-- `splitting::split`
pub split : OneAnswer split-reads.Post (λ r s. r)
split κs a r q s t x y = x ∙ sym y

-- `splitting::parse_string`
pub parse_string_lem : OneAnswer parse-string-reads.Post (λ r s. r)
parse_string_lem κs a r q s t x y = x ∙ sym y

-- `value::read_value`
pub read-value : OneAnswer read-value-reads.Post (λ r s. r)
read-value κs a r q s t x y = x ∙ sym y

-- `value::unit`
pub unit : OneAnswer unit-reads.Post (λ r s. r)
unit κs a r q s t x y = x ∙ sym y

-- `value::unit_past_space`
pub unit_past_space_lem : OneAnswer unit-past-space-reads.Post (λ r s. r)
unit_past_space_lem κs a r q s t x y = x ∙ sym y

-- `card::read_card`
pub read-card : OneAnswer read-card-reads.Post (λ r s. r)
read-card κs a r q s t x y = x ∙ sym y

-- `card::class_of`
pub class_of_lem : OneAnswer class-of-reads.Post (λ r s. r)
class_of_lem κs a r q s t x y = x ∙ sym y

-- `writing::write`
pub write : OneAnswer write-reads.Post (λ r s. pair_of r s.1.1.1.1.0.now)
write κs a r q s t x y = both (x.0 ∙ sym y.0) (x.1 ∙ sym y.1)
