-- The name that the entry at a card's number bears, and what the lent buffer then holds (SPECIFICATION 10.3).
use Rattle.std.specs.Prelude.{ℕ, cond, List, leb, length, get_or, Err, Ok, Result}
use Rattle.std.proofs.lemmas.List.Edits.{sets}
use Rattle.refusal.specs.declared.Fault.{Fault}
use Rattle.refusal.specs.declared.Refusal.TheVariants as R
use Rattle.refusal.specs.Numbers.{fault_of}
use Rattle.roles.specs.Roles.{Role, entry, more, neutral, last, refused}
use Rattle.roles.specs.Cards.{roles_of, is_bad_length}

-- an answer, and the lent buffer after it
pub record NameOutcome : Type 0 where
  pub answer : Result ℕ Fault
  pub name : List ℕ

abbrev pub naming_by : Result ℕ Fault → List ℕ → NameOutcome
naming_by r name = record { answer = r; name = name }

-- all refusals leave the buffer untouched
abbrev pub unnamed : Fault → List ℕ → NameOutcome
unnamed f name = naming_by (Err f) name

-- a name at the front of the buffer, and bytes beyond its length stay; 13 where the buffer is shorter than the name
unfoldable pub name_written : List ℕ → List ℕ → NameOutcome
name_written own name =
    cond (leb (length own) (length name)) (naming_by (Ok (length own)) (sets name 0 own)) (unnamed (fault_of R.BufferShort) name)

-- by what the card is to its header: an entry bears a name, a refused card is its refusal, and any other bears none
abbrev pub name_by : Role → List ℕ → NameOutcome
name_by (entry own v) name = name_written own name
name_by (more t c) name = unnamed (fault_of R.NameNotFound) name
name_by neutral name = unnamed (fault_of R.NameNotFound) name
name_by last name = unnamed (fault_of R.NameNotFound) name
name_by (refused f) name = unnamed f name

-- reading the name at card i of a header of n bytes, by the roles of its cards; a card that it lacks bears none
abbrev pub named_by : ℕ → List Role → ℕ → List ℕ → NameOutcome
named_by n roles i name = cond (is_bad_length n) (unnamed (fault_of R.HeaderLength) name) (name_by (get_or roles i neutral) name)

-- reading the name at card i, whatever stands elsewhere in the header
unfoldable pub name_at : List ℕ → ℕ → List ℕ → NameOutcome
name_at h i name = named_by (length h) (roles_of h) i name
