-- The number of a header's cards, and the card with a number.
use Prim.Native.Nat.{ℕ, ◌/◌, ◌%◌, ◌<◌, ◌≤◌}
use native.Mathlib.Omega.{arith}
use mathlib.Core.Path.{◌≡◌, refl, sym, ◌∙◌}
use mathlib.Core.Bool.{Bool, true, false, true≢false, not}
use mathlib.Core.List.{List}
use borrow.Author.Tests.{lt-ltb, ltb-false, eq-eqb, ne_eqb}
use lib.Dec.{eqb, ltb}
use lib.ListN.{length}
use Rattle.laws.proofs.Truths.{or_false}
use Rattle.card.specs.Cards.{card_of}
use Rattle.roles.specs.Cards.{card_no, is_bad_length, card_count, card_at}

-- ---- the number of cards
-- a header without a card is of a bad length
bad_none : (n : ℕ) → (n / 80 ≡ 0) → is_bad_length n ≡ true
unfolding is_bad_length
bad_none n e = go (eqb n 0) refl
  where
    go : (b : Bool) → eqb n 0 ≡ b → is_bad_length n ≡ true
    go true d = rw d
    go false d =
        let some : n % 80 ≡ 0 → ⊥ = λ r. true≢false (sym (eq-eqb n 0 (omega arith)) ∙ d) in
        rw (d, ne_eqb (n % 80) 0 some)

pub count_none : (n : ℕ) → card_count n ≡ 0 → is_bad_length n ≡ true
unfolding card_count
count_none n e = go (is_bad_length n) refl
  where
    go : (b : Bool) → is_bad_length n ≡ b → is_bad_length n ≡ true
    go true d = d
    go false d = bad_none n (sym (rw d) ∙ e)

pub count-some : (n : ℕ) → (card_count n ≡ 0 → ⊥) → is_bad_length n ≡ false
unfolding card_count
count-some n e = go (is_bad_length n) refl
  where
    go : (b : Bool) → is_bad_length n ≡ b → is_bad_length n ≡ false
    go true d = absurd (e (rw d))
    go false d = d

pub count-is : (n : ℕ) → is_bad_length n ≡ false → card_count n ≡ n / 80
unfolding card_count
count-is n e = rw e

-- a header of a good length has at most 720 cards
pub good_cards : (n : ℕ) → is_bad_length n ≡ false → n / 80 ≤ 720
unfolding is_bad_length
good_cards n e =
    let long = (or_false (eqb n 0) _ e).1 in
    let h : n ≤ 57600 = ltb-false 57600 n (or_false (not (eqb (n % 80) 0)) (ltb 57600 n) long).1 in
    omega arith

-- ---- the card with a number
pub card-here : (h : List ℕ) (i : ℕ) → i < length h / 80 → card_at h i ≡ card_of (card_no h i)
unfolding card_at
card-here h i within = rw (lt-ltb i (length h / 80) within)
