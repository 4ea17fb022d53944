-- Demand 3, for lookups and for the list.
use Rattle.std.specs.Prelude.{Err, Ok}
use Prim.Native.Nat.{ℕ, ◌+◌, ◌≤◌}
use native.Mathlib.Omega.{arith}
use mathlib.Core.Path.{◌≡◌, refl, sym, ap, ◌∙◌}
use mathlib.Core.Bool.{Bool, cond}
use mathlib.Core.List.{List, [], map}
use lib.ListN.{get_or, take, get_or-map}
use Rattle.refusal.specs.declared.Refusal.TheVariants as R
use Rattle.refusal.specs.Numbers.{fault_of}
use Rattle.roles.specs.Roles.{Role, neutral, role_of}
use Rattle.roles.specs.Cards.{cards_of, roles_of}
use Rattle.joining.specs.Lookup.{lookup}
use Rattle.joining.specs.Belonging.{idle, effects}
use Rattle.joining.proofs.Names.{others, answer, answer-others}
use Rattle.joining.proofs.Answers.{by_effects}
use Rattle.joining.proofs.Owning.{equal}
use Rattle.finding.specs.Finding.{stop_at, header_from, header_of}
use Rattle.entries.specs.Halves.{held_in, named, numbered}
use Rattle.entries.proofs.Looking.{accepted_good}
use Rattle.listing.specs.declared.Listing.{Listing}
use Rattle.listing.specs.Listing.{places, free, name_of, list_of, place_of_entry}
use Rattle.agreeing.specs.Firsts.{firsts_of}
use Rattle.agreeing.specs.Agreeing.{names_listed}
use Rattle.agreeing.proofs.Agreed.{contents, by_cards, sought_at_lem}
use Rattle.agreeing.proofs.Both.{both_alike, entries_alike}
use Rattle.demands.specs.Demands.{IsAccepted, EqualBut, Isolation, IsolationToEnd, OrderKept, ReadingsKept}
use Rattle.demands.specs.Halves.{Isolates, IsolatesToEnd, KeepsAtPlace}
use Rattle.demands.proofs.Ending.{to_end_lem, lookup_to_end, Twin, twin_others, twins}
use Rattle.demands.proofs.Naming.{take-filled, first_names, names_are, twin_names}
use Rattle.demands.proofs.Naming as naming

-- an accepted header is read from its first card on
read_from : (h : List ℕ) (a : IsAccepted h) → header_from (roles_of h) 0 ≡ Ok a.end
unfolding header_of
read_from h a =
    sym (ap (λ (b : Bool). cond b (Err (stop_at (fault_of R.HeaderLength) 0)) (header_from (roles_of h) 0))
    (accepted_good h a.end a.accepted))
    ∙ a.accepted

-- its names are those that its cards give
listed : (h : List ℕ) → IsAccepted h → names_listed h ≡ first_names [] (effects idle (to_end_lem (roles_of h)))
listed h a =
    let roles = roles_of h in
    let name : ℕ → List ℕ = λ (i : ℕ). name_of (get_or roles i neutral) in
    ap (λ (x : Listing). map name (take x.count x.first)) (contents h a.end a.accepted)
    ∙ ap (map name) (take-filled free places (firsts_of roles))
    ∙ names_are roles [] roles 0 refl
    ∙ sym (naming.by_effects roles [] idle naming.free)

-- a name that is not K is answered by the cards that are not K's
by_others : (k name : List ℕ) → (k ≡ name → ⊥) → (rs : List Role)
    → lookup name rs ≡ answer name (others k (effects idle (to_end_lem rs)))
by_others k name other rs =
    sym (lookup_to_end name rs) ∙ by_effects name (to_end_lem rs) ∙ sym (answer-others k name other (effects idle (to_end_lem rs)))

module _ (g h k : List ℕ) (a : IsAccepted g) (b : IsAccepted h) (but : EqualBut k g h a.end) where
  -- card by card both bear K, or they are equal and do the same
  pub twin : Twin k idle idle (to_end_lem (roles_of g)) (to_end_lem (roles_of h))
  twin =
      twins k (role_of []) idle idle equal (roles_of g) (roles_of h) 0 0 a.end b.end (read_from g a) (read_from h b)
      (λ (p : ℕ) (u : 0 + p ≤ a.end). but.places p (omega (arith, u)))
      (λ p u d.
      get_or-map role_of (cards_of g) p []
      ∙ ap role_of (but.cards p (omega (arith, u)) d)
      ∙ sym (get_or-map role_of (cards_of h) p []))

-- so the header holds the same for another name
pub sought_to_end : IsolatesToEnd named
sought_to_end g h k a b but name other =
    by_cards g a.end a.accepted name
    ∙ ap held_in
    (by_others k name other (roles_of g) ∙ ap (answer name) (twin_others k (twin g h k a b but))
    ∙ sym (by_others k name other (roles_of h)))
    ∙ sym (by_cards h b.end b.accepted name)

pub isolation_to_end : IsolationToEnd
isolation_to_end g h k a b but name other text comment =
    both_alike text comment g h name name (sought_to_end g h k a b but name other)

-- cards that are equal throughout are equal up to END
pub throughout : {A : Type 0} (answer : List ℕ → List ℕ → A) → IsolatesToEnd answer → Isolates answer
throughout answer to_end g h k a b long places cards =
    to_end g h k a b (record { places = λ p _. places p; cards = λ p _. cards p })

pub sought_isolated : Isolates named
sought_isolated = throughout named sought_to_end

pub isolation : Isolation
isolation g h k a b long places cards name other text comment =
    both_alike text comment g h name name (sought_isolated g h k a b long places cards name other)

pub order-kept : OrderKept
order-kept g h k a b but = listed g a ∙ twin_names k (twin g h k a b but) [] ∙ sym (listed h b)

-- the entry at another name's place is the same
pub sought_kept : KeepsAtPlace (λ (h lasts : List ℕ) (k : ℕ). numbered h (get_or lasts k free))
sought_kept g h k a b but name other i j s t =
    sought_at_lem g a.end a.accepted name i s
    ∙ sought_to_end g h k a b but name (λ (e : k ≡ name). other (sym e))
    ∙ sym (sought_at_lem h b.end b.accepted name j t)

pub readings_kept : ReadingsKept
unfolding place_of_entry
readings_kept g h k a b but name other i j s t text comment =
    entries_alike text comment g h (get_or (list_of g).last i free) (get_or (list_of h).last j free)
    (sought_kept g h k a b but name other i j s t)
