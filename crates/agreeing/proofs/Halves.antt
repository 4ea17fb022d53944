-- The list agrees with both halves, for it agrees with what the header holds for their reader.
use Rattle.std.specs.Prelude.{Result}
use Prim.Native.Nat.{ℕ}
use native.Mathlib.Omega.{arith}
use mathlib.Core.Path.{◌≡◌, sym, ap, ◌∙◌}
use Rattle.roles.specs.Cards.{roles_of}
use Rattle.joining.specs.Lookup.{lookup}
use Rattle.entries.specs.Halves.{Sought, missing, holds, held_in, sought_in, named, value_in, comment_in}
use Rattle.listing.specs.Listing.{place_of_value, place_of_comment}
use Rattle.agreeing.specs.Agreeing.{FoundIn}
use Rattle.agreeing.specs.Halves.{ValueAgreement, CommentAgreement, MissingNamed, OnlyMissingNamed, RefusedNamed}
use Rattle.agreeing.proofs.Agreed.{by_cards, sought_at_lem, none_found, each_standing}
use Rattle.finding.specs.declared.Stop.{Stop}

pub value_agreement : ValueAgreement
unfolding place_of_value
value_agreement h end a name k s text = ap (λ (x : Sought). value_in x text) (sought_at_lem h end a name k s)

pub comment_agreement : CommentAgreement
unfolding place_of_comment
comment_agreement h end a name k s comment = ap (λ (x : Sought). comment_in x comment) (sought_at_lem h end a name k s)

pub missing-named : MissingNamed
missing-named h end a name s = by_cards h end a name ∙ ap held_in (none_found h end a name s)

pub only_missing-named : OnlyMissingNamed
only_missing-named h end a name e s =
    let f : FoundIn h name = each_standing h end a name s in
    let there : holds f.held ≡ missing = sym (by_cards h end a name ∙ ap held_in f.is) ∙ e in
    let z : ◌≡◌ {A = ℕ} 0 1 = cc in
    omega arith

pub refused-named : RefusedNamed
unfolding named
refused-named h s e name = ap (λ (x : Result ℕ Stop). sought_in x (lookup name (roles_of h))) e
