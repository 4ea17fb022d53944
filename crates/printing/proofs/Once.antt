-- The output of a header in which no name is borne twice.
use Rattle.std.specs.Prelude.{Err, Ok, Result, Option, None, Some}
use Prim.Native.Nat.{ℕ, ◌≤◌}
use mathlib.Core.Path.{◌≡◌, refl}
use mathlib.Core.List.{List, ◌++◌, map}
use Rattle.roles.specs.Roles.{Held}
use Rattle.roles.specs.Cards.{roles_of}
use Rattle.joining.specs.Lookup.{lookup}
use Rattle.finding.specs.Finding.{header_of}
use Rattle.listing.specs.Listing.{list_of}
use Rattle.lines.specs.Lines.{count_line}
use Rattle.lines.proofs.Parts.{plain_once}
use Rattle.agreeing.specs.Firsts.{times_borne}
use Rattle.agreeing.specs.Agreeing.{names_listed}
use Rattle.printing.specs.Output.{line_for, in_order, output_by, output_of, plain_for, plain_by, PlainWhereOnce}
use Rattle.finding.specs.declared.Stop.{Stop}

-- name by name
plain_for_lem : (name : List ℕ) (o : Option Held) (n : ℕ) → n ≤ 1 → line_for name o n ≡ plain_for name o
plain_for_lem name None n few = refl
plain_for_lem name (Some v) n few = plain_once name v.value v.digits v.words.text n few

module _ (h : List ℕ) (once : (name : List ℕ) → times_borne name (roles_of h) ≤ 1) where
  by_header_lem : (x : Result ℕ Stop) → output_by x h ≡ plain_by x h
  by_header_lem (Ok end) =
      let each : (name : List ℕ) → line_for name (lookup name (roles_of h)) (times_borne name (roles_of h))
      ≡ plain_for name (lookup name (roles_of h)) = λ name. plain_for_lem name (lookup name (roles_of h)) _ (once name) in
      λ j. in_order (map (λ (name : List ℕ). each name j) (names_listed h)) ++ count_line (list_of h).count
  by_header_lem (Err s) = refl

pub plain_where_once : PlainWhereOnce
unfolding output_of
plain_where_once h once = by_header_lem h once (header_of h)
