-- What `cards` prints of a header (SPECIFICATION 13).
use Rattle.std.specs.Prelude.{ℕ, ◌≤◌, ◌≡◌, Bool, false, List, [], ◌∷◌, ◌++◌, map, Err, Ok, Result, Option, None, Some}
use Rattle.roles.specs.Roles.{Held}
use Rattle.roles.specs.Cards.{roles_of}
use Rattle.joining.specs.Lookup.{lookup}
use Rattle.finding.specs.Finding.{header_of}
use Rattle.listing.specs.Listing.{list_of}
use Rattle.lines.specs.Lines.{entry_line, plain_line, count_line, refused_line}
use Rattle.output.specs.Shown.{printed_line}
use Rattle.agreeing.specs.Firsts.{times_borne}
use Rattle.agreeing.specs.Agreeing.{names_listed}
use Rattle.finding.specs.declared.Stop.{Stop}

-- the line of a name: its kind and reading, as lookup answers them, and how many cards bear it; a name of the list is always answered
abbrev pub line_for : List ℕ → Option Held → ℕ → List ℕ
line_for name None n = []
line_for name (Some v) n = entry_line name v.value v.digits v.words.text n

-- one line a name, in list order
abbrev pub name_lines : List ℕ → List (List ℕ)
name_lines h = map (λ (name : List ℕ). line_for name (lookup name (roles_of h)) (times_borne name (roles_of h))) (names_listed h)

-- lines one behind the other
unfoldable pub in_order : List (List ℕ) → List ℕ
in_order [] = []
in_order (line ∷ lines) = line ++ in_order lines

-- the lines of the names, then the count; a refusal prints its line alone
abbrev pub output_by : Result ℕ Stop → List ℕ → List ℕ
output_by (Ok end) h = in_order (name_lines h) ++ count_line (list_of h).count
output_by (Err s) h = refused_line s.fault s.card

-- all that the program prints of a header
unfoldable pub output_of : List ℕ → List ℕ
output_of h = output_by (header_of h) h

-- ---- the same with each line shown as it stands, or made visible

abbrev pub printed_by : Bool → Result ℕ Stop → List ℕ → List ℕ
printed_by t (Ok end) h = in_order (map (printed_line t) (name_lines h)) ++ printed_line t (count_line (list_of h).count)
printed_by t (Err s) h = printed_line t (refused_line s.fault s.card)

unfoldable pub printed_of : Bool → List ℕ → List ℕ
printed_of t h = printed_by t (header_of h) h

-- lines that are shown as they stand are those that the program prints
abbrev pub AsTheyStand : Type 0
AsTheyStand = (h : List ℕ) → printed_of false h ≡ output_of h

-- ---- the output without numbers

abbrev pub plain_for : List ℕ → Option Held → List ℕ
plain_for name None = []
plain_for name (Some v) = plain_line name v.value v.digits v.words.text

abbrev pub plain_by : Result ℕ Stop → List ℕ → List ℕ
plain_by (Ok end) h =
    in_order (map (λ (name : List ℕ). plain_for name (lookup name (roles_of h))) (names_listed h)) ++ count_line (list_of h).count
plain_by (Err s) h = refused_line s.fault s.card

-- it is what is printed of a header in which no name is borne twice
abbrev pub PlainWhereOnce : Type 0
PlainWhereOnce = (h : List ℕ) → ((name : List ℕ) → times_borne name (roles_of h) ≤ 1) → output_of h ≡ plain_by (header_of h) h
