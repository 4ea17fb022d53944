-- What is written of a line, and what the answer of a write says (SPECIFICATION 13).
use Prim.{Unit}
use Rattle.std.specs.Prelude.{ℕ, ◌≡◌, Bool, true, false, List, [], ◌∷◌, ◌++◌, length, Result, Ok, Err}
use Rattle.text.specs.Bytes.{line_feed}
use Rattle.text.specs.Ends.{stem}
use Rattle.escaping.specs.Escaping.{escaped}
use Rattle.output.specs.declared.Cut.{Cut}

-- a line as it stands; or made visible, but for the line feed at its end
unfoldable pub printed_line : Bool → List ℕ → List ℕ
printed_line false line = line
printed_line true line = escaped (stem line) ++ line_feed ∷ []

-- `Ok` says how many bytes a text has; what became of a text that was cut is not known
abbrev pub IsWhole : Result ℕ Cut → List ℕ → Type 0
IsWhole (Ok n) s = n ≡ length s
IsWhole (Err cut) s = Unit
