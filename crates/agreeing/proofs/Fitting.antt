-- Every name of a header has a place, and a header is refused by a number up to 10: no reading of a card or a header gives another.
use Rattle.std.specs.Prelude.{Err, Ok, Result}
use Prim.Native.Nat.{ℕ, suc, ◌≤◌, ◌/◌}
use native.Mathlib.Omega.{arith}
use mathlib.Core.Path.{◌≡◌, sym, ap, subst, ◌∙◌}
use mathlib.Core.Bool.{Bool, true, false, cond}
use mathlib.Core.List.{List, [], ◌∷◌, map}
use lib.ListN.{length}
use Rattle.refusal.specs.declared.Fault.{Fault}
use Rattle.refusal.specs.declared.Refusal.TheVariants as R
use Rattle.refusal.specs.Numbers.{number_of, fault_of, answer_placed}
use Rattle.splitting.proofs.Refusing.{not-closed, not_opened, complex, not-quoted, odd, led}
use Rattle.card.specs.declared.Card.TheVariants as C
use Rattle.card.specs.declared.CardRead.{CardRead}
use Rattle.card.specs.Columns.{column_of}
use Rattle.card.specs.Cards.{unplaced_of, card_of}
use Rattle.refusal.proofs.Placing.{RefusedBy}
use Rattle.card.proofs.Refusing.{OfCard, high, no_equals, no_name, in_text, unplaced_by}
use Rattle.roles.specs.Roles.{Role, entry, more, neutral, last, refused, role_by, role_in, role_read, role_of}
use Rattle.roles.specs.Cards.{cards_of, roles_of, is_bad_length, card_count}
use Rattle.roles.proofs.Cards.{role_count}
use Rattle.roles.proofs.Counting.{good_cards}
use Rattle.finding.specs.Finding.{stop_at, header_from, header_of}
use Rattle.entries.proofs.Looking.{accepted_good}
use Rattle.listing.specs.declared.Listing.{Listing}
use Rattle.listing.specs.Listing.{list_of}
use Rattle.agreeing.specs.Firsts.{is_among, firsts_from, firsts_of}
use Rattle.agreeing.specs.Agreeing.{NamesFit, UpToTen}
use Rattle.agreeing.proofs.Agreed.{contents, same-header}
use Rattle.card.specs.declared.Card.{Card}
use Rattle.finding.specs.declared.Stop.{Stop}

-- ---- names and places
-- no more names than cards
pub few_firsts : (seen : List (List ℕ)) (rs : List Role) (i : ℕ) → length (firsts_from seen rs i) ≤ length rs
unfolding firsts_from
few_firsts seen [] i = omega arith
few_firsts seen (entry n v ∷ rs) i = go (is_among n seen) (few_firsts seen rs (suc i)) (few_firsts (n ∷ seen) rs (suc i))
  where
    go : (b : Bool) → length (firsts_from seen rs (suc i)) ≤ length rs → length (firsts_from (n ∷ seen) rs (suc i)) ≤ length rs
        → length (cond b (firsts_from seen rs (suc i)) (i ∷ firsts_from (n ∷ seen) rs (suc i))) ≤ suc (length rs)
    go true a b = omega arith
    go false a b = omega arith
few_firsts seen (more t c ∷ rs) i = omega (arith, few_firsts seen rs (suc i))
few_firsts seen (neutral ∷ rs) i = omega (arith, few_firsts seen rs (suc i))
few_firsts seen (last ∷ rs) i = omega arith
few_firsts seen (refused f ∷ rs) i = omega (arith, few_firsts seen rs (suc i))

pub names_fit : NamesFit
unfolding card_count
names_fit h end a =
    let good = accepted_good h end a in
    let cards : card_count (length h) ≡ length h / 80 = rw good in
    let count : (list_of h).count ≡ length (firsts_of (roles_of h)) = ap (λ (x : Listing). x.count) (contents h end a) in
    (omega (arith, cards, count, few_firsts [] (roles_of h) 0, role_count h), omega (arith, cards, good_cards (length h) good))

-- ---- the numbers of refusals
-- the number of an answer's refusal; 0 where nothing is refused
abbrev card_number : Result CardRead Fault → ℕ
card_number (Ok r) = 0
card_number (Err f) = number_of f.why

-- the refusals of a card are those up to 8
of_card_lem : (x : Fault) → OfCard x → number_of x.why ≤ 8
of_card_lem _ high = omega arith
of_card_lem _ no_equals = omega arith
of_card_lem _ no_name = omega arith
of_card_lem _ (in_text odd) = omega arith
of_card_lem _ (in_text (led not-closed)) = omega arith
of_card_lem _ (in_text (led not_opened)) = omega arith
of_card_lem _ (in_text (led complex)) = omega arith
of_card_lem _ (in_text (led not-quoted)) = omega arith

card_ten : (c : List ℕ) → card_number (card_of c) ≤ 10
unfolding card_of
card_ten c = go (unplaced_of c) (unplaced_by c)
  where
    go : (a : Result CardRead Fault) → RefusedBy OfCard a → card_number (answer_placed (column_of c) a) ≤ 10
    go (Ok r) h = omega arith
    go (Err x) h = omega (arith, of_card_lem x h)

-- ---- headers
abbrev header_number : Result ℕ Stop → ℕ
header_number (Ok end) = 0
header_number (Err s) = number_of s.fault.why

from_ten : (cs : List (List ℕ)) (i : ℕ) → header_number (header_from (map role_of cs) i) ≤ 10
unfolding header_from
from_ten [] i = omega arith
from_ten (c ∷ cs) i = go (card_of c) (card_ten c) (from_ten cs (suc i))
  where
    of_card : (card : Card) (r : CardRead) → header_number (header_from (map role_of cs) (suc i)) ≤ 10
        → header_number (header_from (role_in (role_by card) r ∷ map role_of cs) i) ≤ 10
    of_card (C.Value v) r then = then
    of_card (C.Hierarch v) r then = then
    of_card C.Xtension r then = then
    of_card C.Continuation r then = then
    of_card C.Comment r then = then
    of_card C.History r then = then
    of_card C.Space r then = then
    of_card C.Undefined r then = then
    of_card C.End r then = omega arith

    go : (a : Result CardRead Fault) → card_number a ≤ 10 → header_number (header_from (map role_of cs) (suc i)) ≤ 10
        → header_number (header_from (role_read a ∷ map role_of cs) i) ≤ 10
    go (Ok r) p then = of_card r.card r then
    go (Err f) p then = p

header_ten : (h : List ℕ) → header_number (header_of h) ≤ 10
unfolding header_of
header_ten h = go (is_bad_length (length h))
  where
    go : (b : Bool) → header_number (cond b (Err (stop_at (fault_of R.HeaderLength) 0)) (header_from (roles_of h) 0)) ≤ 10
    go true = omega arith
    go false = from_ten (cards_of h) 0

pub up_to_ten : UpToTen
up_to_ten h s e = subst (λ (x : Result ℕ Stop). header_number x ≤ 10) (sym (same-header h) ∙ e) (header_ten h)
