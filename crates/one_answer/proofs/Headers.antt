-- One answer: a header's cards, finding, entries, the list and a name, each with the buffers that are lent.
use mathlib.Core.Path.{sym, ◌∙◌}
use Rattle.entries.specs.Halves.{value_left, comment_left}
use Rattle.listing.specs.Listing.{listing_by}
use Rattle.naming.specs.Naming.{naming_by}
use Rattle.one_answer.specs.OneAnswer.{OneAnswer}
use Rattle.roles.proofs.is_bad_length.Reads as is-bad-length-reads
use Rattle.roles.proofs.card_count.Reads as card-count-reads
use Rattle.roles.proofs.card_at.Reads as card-at-reads
use Rattle.roles.proofs.role_of.Reads as role-of-reads
use Rattle.roles.proofs.role_told.Reads as role-told-reads
use Rattle.finding.proofs.find.Reads as find-reads
use Rattle.finding.proofs.read_header.Reads as read-header-reads
use Rattle.finding.proofs.stop_at.Reads as stop-at-reads
use Rattle.entries.proofs.lookup_value.Reads as lookup-value-reads
use Rattle.entries.proofs.lookup_comment.Reads as lookup-comment-reads
use Rattle.entries.proofs.value_at.Reads as value-at-reads
use Rattle.entries.proofs.comment_at.Reads as comment-at-reads
use Rattle.listing.proofs.list.Reads as list-reads
use Rattle.listing.proofs.list_over.Reads as list-over-reads
use Rattle.listing.proofs.entry_value.Reads as entry-value-reads
use Rattle.listing.proofs.entry_comment.Reads as entry-comment-reads
use Rattle.naming.proofs.read_name.Reads as read-name-reads

-- `roles::is_bad_length`
pub is_bad_length_lem : OneAnswer is-bad-length-reads.Post (λ r s. r)
is_bad_length_lem κs a r q s t x y = x ∙ sym y

-- `roles::card_count`
pub card_count_lem : OneAnswer card-count-reads.Post (λ r s. r)
card_count_lem κs a r q s t x y = x ∙ sym y

-- `roles::card_at`
pub card_at_lem : OneAnswer card-at-reads.Post (λ r s. r)
card_at_lem κs a r q s t x y = x ∙ sym y

-- `roles::role_of`
pub role_of_lem : OneAnswer role-of-reads.Post (λ r s. r)
role_of_lem κs a r q s t x y = x ∙ sym y

-- `roles::role_told`
pub role_told_lem : OneAnswer role-told-reads.Post (λ r s. r)
role_told_lem κs a r q s t x y = x ∙ sym y

-- `finding::find`
pub find : OneAnswer find-reads.Post (λ r s. r)
find κs a r q s t x y = x ∙ sym y

-- `finding::read_header`
pub read-header : OneAnswer read-header-reads.Post (λ r s. r)
read-header κs a r q s t x y = x ∙ sym y

-- `finding::stop_at`
pub stop_at_lem : OneAnswer stop-at-reads.Post (λ r s. r)
stop_at_lem κs a r q s t x y = x ∙ sym y

-- `entries::lookup_value`
pub lookup-value : OneAnswer lookup-value-reads.Post (λ r s. value_left r s.1.1.0.now)
lookup-value κs a r q s t x y = x ∙ sym y

-- `entries::lookup_comment`
pub lookup-comment : OneAnswer lookup-comment-reads.Post (λ r s. comment_left r s.1.1.0.now)
lookup-comment κs a r q s t x y = x ∙ sym y

-- `entries::value_at`
pub value_at_lem : OneAnswer value-at-reads.Post (λ r s. value_left r s.1.1.0.now)
value_at_lem κs a r q s t x y = x ∙ sym y

-- `entries::comment_at`
pub comment_at_lem : OneAnswer comment-at-reads.Post (λ r s. comment_left r s.1.1.0.now)
comment_at_lem κs a r q s t x y = x ∙ sym y

-- `listing::list`
pub list : OneAnswer list-reads.Post (λ r s. r)
list κs a r q s t x y = x ∙ sym y

-- `listing::list_over`
pub list_over : OneAnswer list-over-reads.Post (λ r s. listing_by r s.1.0.now s.1.1.0.now s.1.1.1.0.now)
list_over κs a r q s t x y = x ∙ sym y

-- `listing::entry_value`
pub entry_value : OneAnswer entry-value-reads.Post (λ r s. value_left r s.1.1.1.0.now)
entry_value κs a r q s t x y = x ∙ sym y

-- `listing::entry_comment`
pub entry-comment : OneAnswer entry-comment-reads.Post (λ r s. comment_left r s.1.1.1.0.now)
entry-comment κs a r q s t x y = x ∙ sym y

-- `naming::read_name`
pub read_name : OneAnswer read-name-reads.Post (λ r s. naming_by r s.1.1.0.now)
read_name κs a r q s t x y = x ∙ sym y
