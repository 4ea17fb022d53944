-- The lengths that reading a card asks for.
use Prim.Native.Nat.{ℕ}
use mathlib.Core.Path.{◌≡◌, refl, ap}
use mathlib.Core.Bool.{Bool, true, false, ◌&&◌}
use mathlib.Core.List.{List}
use lib.Dec.{eqb}
use lib.ListN.{length}
use borrow.Author.Tests.{eq-eqb, ne_eqb}
use Rattle.abi_card.specs.Records.{is_card_fit}

module _ (card o : List ℕ) where
  pub wrong_card : (length card ≡ 80 → ⊥) → is_card_fit card o ≡ false
  unfolding is_card_fit
  wrong_card h = ap (λ (t : Bool). t && eqb (length o) 248) (ne_eqb (length card) 80 h)

  pub wrong_record : length card ≡ 80 → (length o ≡ 248 → ⊥) → is_card_fit card o ≡ false
  unfolding is_card_fit
  wrong_record e h = rw (eq-eqb (length card) 80 e, ne_eqb (length o) 248 h) refl

  pub fit : length card ≡ 80 → length o ≡ 248 → is_card_fit card o ≡ true
  unfolding is_card_fit
  fit e f = rw (eq-eqb (length card) 80 e, eq-eqb (length o) 248 f) refl
