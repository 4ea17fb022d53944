-- `listing::entry_value` meets its contract: the value of the entry at the card that stands at the place.
use Prim.Native.Nat.{ℕ}
use mathlib.Core.Path.{ap, ◌∙◌}
use Rattle.entries.specs.Halves.{value_numbered}
use Rattle.listing.specs.Listing.{place_of_value}
use Rattle.listing.proofs.entry_value.Goals as goal

pub returns : goal.returns
unfolding place_of_value
returns c =
    let a = c.args in
    c.value_at.ensures ∙ ap (λ (i : ℕ). value_numbered a.header.now i a.text.now) c.last_at.ensures
