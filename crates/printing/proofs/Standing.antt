-- Lines that are shown as they stand are those that the program prints.
use Rattle.std.specs.Prelude.{Err, Ok, Result}
use Prim.Native.Nat.{ℕ}
use mathlib.Core.Path.{◌≡◌, refl, ap}
use mathlib.Core.Bool.{false}
use mathlib.Core.List.{List, [], ◌∷◌, ◌++◌, map}
use Rattle.finding.specs.Finding.{header_of}
use Rattle.listing.specs.Listing.{list_of}
use Rattle.lines.specs.Lines.{count_line}
use Rattle.output.specs.Shown.{printed_line}
use Rattle.printing.specs.Output.{name_lines, in_order, output_by, output_of, printed_by, printed_of, AsTheyStand}
use Rattle.finding.specs.declared.Stop.{Stop}

-- line by line
each : (ls : List (List ℕ)) → map (printed_line false) ls ≡ ls
unfolding printed_line
each [] = refl
each (l ∷ ls) = ap (λ (r : List (List ℕ)). l ∷ r) (each ls)

by_header_lem : (x : Result ℕ Stop) (h : List ℕ) → printed_by false x h ≡ output_by x h
unfolding printed_line
by_header_lem (Ok end) h = ap (λ (ls : List (List ℕ)). in_order ls ++ count_line (list_of h).count) (each (name_lines h))
by_header_lem (Err s) h = refl

pub as_they_stand : AsTheyStand
unfolding printed_of output_of
as_they_stand h = by_header_lem (header_of h) h
