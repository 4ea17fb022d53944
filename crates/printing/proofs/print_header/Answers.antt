-- `printing::print_header` meets its contract: the list says whether the header is accepted.
use Rattle.std.specs.Prelude.{Err, Ok, Result}
use Rattle.std.proofs.Common.{◌≡◌, refl, sym, ap, subst, ◌∙◌, ℕ, Bool, List, ◌++◌, map}
use Rattle.finding.specs.Finding.{header_of}
use Rattle.listing.specs.declared.Listing.{Listing}
use Rattle.listing.specs.Listing.{list_of}
use Rattle.agreeing.proofs.Agreed.{same-header}
use Rattle.lines.specs.Lines.{count_line}
use Rattle.output.specs.Shown.{printed_line, IsWhole}
use Rattle.printing.specs.Output.{name_lines, in_order, printed_by, printed_of}
use Rattle.printing.proofs.print_header.Goals as goal
use Rattle.finding.specs.declared.Stop.{Stop}

-- the list says what the header is
known-header : (h : List ℕ) {r : Listing} {x : Result ℕ Stop} → r ≡ list_of h → r.header ≡ x → header_of h ≡ x
known-header h is e = sym (same-header h) ∙ sym (ap (λ (x : Listing). x.header) is) ∙ e

-- by what the header is
by_header_lem : (t : Bool) (h : List ℕ) (x : Result ℕ Stop) → header_of h ≡ x → printed_by t x h ≡ printed_of t h
unfolding printed_of
by_header_lem t h x e = sym (ap (λ (y : Result ℕ Stop). printed_by t y h) e)

pub print_names-printed-requires : goal.print_names-printed-requires
print_names-printed-requires g c =
    let h = c.args.header.now in
    let is = c.list_over-listed.ensures in (
      record {
        end = c.in-Ok.field-0;
        accepted = known-header h is c.in-Ok.is;
        first-cards = ap (λ (x : Listing). x.first) is;
        last_entries = ap (λ (x : Listing). x.last) is;
        how_often = ap (λ (x : Listing). x.times) is;
      },
      ap (λ (x : Listing). x.count) is,
    )

pub returns-in-Ok : goal.returns-in-Ok
returns-in-Ok g c =
    let h = c.args.header.now in
    let is = c.list_over-listed.ensures in
    let t = c.args.escaped in (
      sym (known-header h is refl),
      subst (IsWhole c.print_names-printed.result)
          (ap (λ (x : Listing). in_order (map (printed_line t) (name_lines h)) ++ printed_line t (count_line x.count)) is
          ∙ by_header_lem t h (Ok c.in-Ok.field-0) (known-header h is c.in-Ok.is))
          c.print_names-printed.ensures,
    )

pub returns-in-Err : goal.returns-in-Err
returns-in-Err g c =
    let h = c.args.header.now in
    let is = c.list_over-listed.ensures in
    let t = c.args.escaped in
    let s = c.in-Err.stop in (
      sym (known-header h is refl),
      subst (IsWhole c.print_refusal-printed.result) (by_header_lem t h (Err s) (known-header h is c.in-Err.is))
          c.print_refusal-printed.ensures,
    )
