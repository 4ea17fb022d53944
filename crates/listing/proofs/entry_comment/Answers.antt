-- `listing::entry_comment` meets its contract: the comment of the entry at the card that stands at the place.
use Prim.Native.Nat.{ℕ}
use mathlib.Core.Path.{ap, ◌∙◌}
use Rattle.entries.specs.Halves.{comment_numbered}
use Rattle.listing.specs.Listing.{place_of_comment}
use Rattle.listing.proofs.entry_comment.Goals as goal

pub returns : goal.returns
unfolding place_of_comment
returns c =
    let a = c.args in
    c.comment_at.ensures ∙ ap (λ (i : ℕ). comment_numbered a.header.now i a.comment.now) c.last_at.ensures
