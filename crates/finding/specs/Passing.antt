-- What one card is to the search for a name.
use Rattle.std.specs.Prelude.{ℕ, Bool, false, List}
use Rattle.text.specs.Same.{same}
use Rattle.roles.specs.declared.Role.{Role as Told}
use Rattle.roles.specs.declared.Role.TheVariants as T

-- a card, by its role and its own name, is an entry that bears the name sought
abbrev pub bears_name : Told → List ℕ → List ℕ → Bool
bears_name (T.Entry v joins) own name = same own name
bears_name T.More own name = false
bears_name T.Neutral own name = false
bears_name T.Last own name = false
