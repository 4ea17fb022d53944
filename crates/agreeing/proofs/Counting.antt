-- Numbers that are added up, and the entries of a header counted.
use Rattle.std.specs.Prelude.{Err, Ok, Result}
use Prim.Native.Nat.{ℕ, zero, suc, ◌+◌, ◌-◌, ◌<◌}
use native.Mathlib.Omega.{arith}
use mathlib.Core.Path.{◌≡◌, refl, ap}
use mathlib.Core.Bool.{Bool, true, false, cond}
use mathlib.Core.List.{List, [], ◌∷◌, ◌++◌, map}
use lib.ListN.{length, get_or, set, replicate}
use Rattle.text.specs.Text.{filled}
use Rattle.card.specs.declared.Card.TheVariants as C
use Rattle.card.specs.declared.CardRead.{CardRead}
use Rattle.card.specs.Cards.{card_of}
use Rattle.roles.specs.Roles.{Role, entry, more, neutral, last, refused, role_by, role_in, role_read, role_of}
use Rattle.agreeing.specs.Times.{and_card, and_read, bearers_in, sum_of}
use Rattle.card.specs.declared.Card.{Card}
use Rattle.refusal.specs.declared.Fault.{Fault}

-- ---- sums
sum-append : (l m : List ℕ) → sum_of (l ++ m) ≡ sum_of l + sum_of m
unfolding sum_of
sum-append [] m = omega arith
sum-append (x ∷ l) m = omega (arith, sum-append l m)

-- a place with one
pub sum-put : (l : List ℕ) → sum_of (l ++ 1 ∷ []) ≡ suc (sum_of l)
unfolding sum_of
sum-put l = omega (arith, sum-append l (1 ∷ []))

-- one more at a place
pub sum_more : (l : List ℕ) (k : ℕ) → k < length l → sum_of (set l k (suc (get_or l k 0))) ≡ suc (sum_of l)
unfolding sum_of
sum_more [] k p = absurd (omega arith)
sum_more (x ∷ l) zero p = omega arith
sum_more (x ∷ l) (suc k) p = omega (arith, sum_more l k (omega arith))

sum_zeros : (n : ℕ) → sum_of (replicate n 0) ≡ 0
unfolding sum_of
sum_zeros zero = refl
sum_zeros (suc n) = omega (arith, sum_zeros n)

-- zeros behind the numbers add nothing
pub sum-filled : (n : ℕ) (l : List ℕ) → sum_of (filled 0 n l) ≡ sum_of l
unfolding filled
sum-filled n l = omega (arith, sum-append l (replicate (n - length l) 0), sum_zeros (n - length l))

-- ---- entries
-- one more on this side or on that
pub one_beside : (b : Bool) (x y : ℕ) → cond b (suc x) x + y ≡ x + cond b (suc y) y
one_beside true x y = omega arith
one_beside false x y = refl

-- how many entries stand before END
unfoldable pub entries_in : List Role → ℕ
entries_in [] = 0
entries_in (entry n v ∷ rs) = suc (entries_in rs)
entries_in (more t c ∷ rs) = entries_in rs
entries_in (neutral ∷ rs) = entries_in rs
entries_in (last ∷ rs) = 0
entries_in (refused f ∷ rs) = entries_in rs

-- they are the value, HIERARCH and XTENSION cards
pub entries_are : (cards : List (List ℕ)) → entries_in (map role_of cards) ≡ bearers_in cards
unfolding entries_in bearers_in
entries_are [] = refl
entries_are (c ∷ cards) = go (card_of c) (entries_are cards)
  where
    of_card : (card : Card) (r : CardRead) → entries_in (map role_of cards) ≡ bearers_in cards
        → entries_in (role_in (role_by card) r ∷ map role_of cards) ≡ and_card card (bearers_in cards)
    of_card (C.Value v) r then = ap suc then
    of_card (C.Hierarch v) r then = ap suc then
    of_card C.Xtension r then = ap suc then
    of_card C.Continuation r then = then
    of_card C.Comment r then = then
    of_card C.History r then = then
    of_card C.Space r then = then
    of_card C.Undefined r then = then
    of_card C.End r then = refl

    go : (a : Result CardRead Fault) → entries_in (map role_of cards) ≡ bearers_in cards
        → entries_in (role_read a ∷ map role_of cards) ≡ and_read a (bearers_in cards)
    go (Ok r) then = of_card r.card r then
    go (Err f) then = then
