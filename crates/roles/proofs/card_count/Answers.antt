-- `roles::card_count` meets its contract: by the length.
use Prim.Native.Nat.{ℕ, ◌/◌}
use mathlib.Core.Path.{◌≡◌, sym, ◌∙◌}
use mathlib.Core.Bool.{true, false}
use Rattle.roles.specs.Cards.{is_bad_length, card_count}
use Rattle.roles.proofs.card_count.Goals as goal

bad : (n : ℕ) → is_bad_length n ≡ true → 0 ≡ card_count n
unfolding card_count
bad n e = rw e

good : (n : ℕ) → is_bad_length n ≡ false → n / 80 ≡ card_count n
unfolding card_count
good n e = rw e

pub returns-then-is_bad_length : goal.returns-then-is_bad_length
returns-then-is_bad_length c = bad _ (sym c.is_bad_length.ensures ∙ c.if-is_bad_length.true)

pub returns : goal.returns
returns c = good _ (sym c.is_bad_length.ensures ∙ c.if-is_bad_length.false)
