-- `entries::find_name` meets its contract: the last card that bears the name gives what the name is answered.
use Rattle.std.proofs.Common.{◌≡◌, ℕ, List, length, sym, ap, ◌∙◌}
use Rattle.std.proofs.lemmas.Result.{err_from_is_err_and}
use Rattle.std.specs.Prelude.{Err, Ok, Option, None, Some, Result}
use Rattle.roles.specs.Cards.{roles_of}
use Rattle.roles.proofs.Counting.{good_cards}
use Rattle.joining.specs.Lookup.{lookup}
use Rattle.finding.specs.declared.Stop.{Stop}
use Rattle.finding.specs.Finding.{header_of, last_of}
use Rattle.finding.proofs.Searching.{header_refused, header_read}
use Rattle.entries.specs.Answers.{entry_at}
use Rattle.entries.specs.Halves.{held_in, sought_in, named}
use Rattle.entries.specs.Passes.{Spotted}
use Rattle.entries.proofs.Looking.{accepted_good, last_found, last_within, last-read}
use Rattle.entries.proofs.find_name.Goals as goal

-- by what the header is, and by the place that is found
by_header_lem : (h name : List ℕ) (x : Result ℕ Stop) → header_of h ≡ x → sought_in x (lookup name (roles_of h)) ≡ named h name
unfolding named
by_header_lem h name x e = sym (ap (λ (y : Result ℕ Stop). sought_in y (lookup name (roles_of h))) e)

by_place : (h name : List ℕ) (end : ℕ) (p : Option ℕ) → header_of h ≡ Ok end → last_of name (roles_of h) ≡ p
    → held_in (entry_at p (roles_of h)) ≡ named h name
by_place h name end p a e =
    ap held_in (ap (λ (q : Option ℕ). entry_at q (roles_of h)) (sym e) ∙ last_found name (roles_of h)) ∙ by_header_lem h name (Ok end) a

-- an accepted header: where END stands, and the last card that bears the name, or none
spotted : (h name : List ℕ) (end : ℕ) (p : Option ℕ) → header_of h ≡ Ok end → last_of name (roles_of h) ≡ p
    → Spotted (Ok p) h (named h name)
spotted h name end None a e = record { is = by_place h name end None a e; within = tt }
spotted h name end (Some k) a e =
    record {
      is = last-read name end h k a e ∙ by_place h name end (Some k) a e;
      within = (last_within name h k e, good_cards (length h) (accepted_good h end a));
    }

pub returns-in_err-found : goal.returns-in_err-found
returns-in_err-found c =
    let h = c.args.header.now in
    let name = c.args.name.now in
    let s = c.in_err-found.field-0.0 in
    let p = err_from_is_err_and c.from_residual.result c.from_residual.ensures.1 in
    let is = by_header_lem h name (Err s) (header_refused h name s (sym c.find.ensures ∙ c.in_err-found.was)) in
    rw (p.1, p.2) (record { is = is; within = tt })

pub returns : goal.returns
returns c =
    let h = c.args.header.now in
    let name = c.args.name.now in
    let f = c.in_ok-found.found in
    let is = header_read h name f (sym c.find.ensures ∙ c.in_ok-found.was) in
    spotted h name f.end f.last is.0 is.1
