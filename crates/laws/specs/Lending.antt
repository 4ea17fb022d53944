-- Lent memory, as a contract speaks of it.
use Rattle.std.specs.Borrow.{MutBor}
use denote.Triple.Both.{Both}

-- what a value was on entry, and what it is left as
pub record Lent (A : Type 0) : Type 0 where
  pub was : A
  pub left : A

-- a parameter that is lent, as a contract has it
abbrev pub Passed : Type 0 → Type 0
Passed A = Both (MutBor A) (MutBor A)

abbrev pub lent_of : {A : Type 0} → Passed A → Lent A
lent_of x = record { was = x.entry.now; left = x.exit.now }
