-- `listing::list_over` meets its contract: the table so far, with what is left of the cards, gives the whole.
use Rattle.std.proofs.Common.{◌≡◌, ◌+◌, ◌/◌, ◌<◌, ℕ, List, true, false, length, refl, sym, ap, ◌∙◌, arith, rules}
use Rattle.std.specs.Prelude.{Err, Ok, Result}
use lib.ListN.{length-take}
use Rattle.refusal.specs.declared.Fault.{Fault}
use Rattle.refusal.specs.declared.Refusal.TheVariants as R
use Rattle.refusal.specs.Numbers.{fault_of}
use Rattle.text.specs.Text.{bytes_of}
use Rattle.card.specs.declared.CardRead.{CardRead}
use Rattle.roles.specs.declared.Role.{Role as Told}
use Rattle.roles.specs.declared.Role.TheVariants as T
use Rattle.roles.specs.Roles.{Held, held_of, comment_read, entry, refused, role_by, role_in, role_read}
use Rattle.roles.specs.Cards.{role_no, is_bad_length, card_count, card_at}
use Rattle.roles.proofs.Counting.{count_none, count-some, count-is, card-here}
use Rattle.finding.specs.declared.Stop.{Stop}
use Rattle.finding.specs.Finding.{stop_at}
use Rattle.listing.specs.Listing.{tabled, empty}
use Rattle.listing.specs.Keys.{is_entry}
use Rattle.listing.proofs.Rows.{ordered-none}
use Rattle.listing.proofs.Placing.{IsEntry, Standing, start, standing_as, refused-length, at_end}
use Rattle.listing.proofs.Placing.{on_refused, on_last, on_more, on_neutral, ready, on_entry_lem}
use Rattle.listing.proofs.list_over.Goals.{then-is_entry, else-is_entry}
use Rattle.listing.proofs.list_over.Goals as goal

-- the number of cards
good : (h : List ℕ) {n : ℕ} → n ≡ card_count (length h) → (n ≡ 0 → ⊥) → is_bad_length (length h) ≡ false
good h e some = count-some (length h) (λ d. some (e ∙ d))

all : (h : List ℕ) {n : ℕ} → n ≡ card_count (length h) → (n ≡ 0 → ⊥) → n ≡ length h / 80
all h e some = e ∙ count-is (length h) (good h e some)

-- the role of the card that is read
role_so : (h : List ℕ) (i : ℕ) {x : Result CardRead Fault} (r : CardRead) (t u : Told) → i < length h / 80 → x ≡ card_at h i → x ≡ Ok r
    → t ≡ role_by r.card → t ≡ u → role_in u r ≡ role_no h i
role_so h i r t u next e is told d = ap (λ (q : Told). role_in q r) (sym d ∙ told) ∙ ap role_read (sym is ∙ e ∙ card-here h i next)

refused_so : (h : List ℕ) (i : ℕ) {x : Result CardRead Fault} (f : Fault) → i < length h / 80 → x ≡ card_at h i → x ≡ Err f
    → refused f ≡ role_no h i
refused_so h i f next e is = ap role_read (sym is ∙ e ∙ card-here h i next)

-- a card that is no entry changes nothing
passed : {h first last times keys order : List ℕ} {count i : ℕ} (S : Standing h first last times keys order count i)
    (next : i < length h / 80) (r : CardRead) (t : Told) → is_entry t ≡ false → (t ≡ T.Last → ⊥) → role_in t r ≡ role_no h i
    → Standing h first last times keys order count (i + 1)
passed S next r (T.Entry v joins) e n is = absurd (let z : ◌≡◌ {A = ℕ} 0 1 = cc in omega arith)
passed S next r T.More e n is = on_more S next (bytes_of r.text) (comment_read r.comment) is
passed S next r T.Neutral e n is = on_neutral S next is
passed S next r T.Last e n is = absurd (n refl)

-- an entry has the name that stands beside it
record Holds (h : List ℕ) (i : ℕ) (r : CardRead) : Type 0 where
  pub held : Held
  pub is : role_no h i ≡ entry (bytes_of r.name) held

holds : (h : List ℕ) (i : ℕ) (r : CardRead) (t : Told) → is_entry t ≡ true → role_in t r ≡ role_no h i → Holds h i r
holds h i r (T.Entry v joins) e is = record { held = held_of v joins r; is = sym is }
holds h i r T.More e is = absurd (let z : ◌≡◌ {A = ℕ} 0 1 = cc in omega arith)
holds h i r T.Neutral e is = absurd (let z : ◌≡◌ {A = ℕ} 0 1 = cc in omega arith)
holds h i r T.Last e is = absurd (let z : ◌≡◌ {A = ℕ} 0 1 = cc in omega arith)

own : (h : List ℕ) (i : ℕ) (r : CardRead) (t : Told) → length r.name.bytes ≡ 80 → i < length h / 80 → is_entry t ≡ true
    → role_in t r ≡ role_no h i → IsEntry h i
own h i r t long next e is =
    let H = holds h i r t e is in
    record {
      within = next;
      name = bytes_of r.name;
      held = H.held;
      is = H.is;
      short = omega (arith, length-take r.name.len r.name.bytes);
    }

-- the listing of a fault at a card
stopped-so : (f g : Fault) (i : ℕ) {s : Stop} → s ≡ stop_at f i → f ≡ g → tabled (Err s) empty ≡ tabled (Err (stop_at g i)) empty
stopped-so f g i e d = ap (λ (x : Stop). tabled (Err x) empty) (e ∙ ap (λ (x : Fault). stop_at x i) d)

pub returns-then-cards-eq0 : goal.returns-then-cards-eq0
returns-then-cards-eq0 c =
    let h = c.args.header.now in
    c.refused.ensures
    ∙ stopped-so _ (fault_of R.HeaderLength) 0 c.stop_at-none.ensures c.fault_of.ensures
    ∙ refused-length h (count_none (length h) (sym c.card_count-cards.ensures ∙ c.if-cards-eq0.true))

pub loop-i-init : goal.loop-i-init
loop-i-init c =
    let freed = c.free_all.ensures in
    start _ _ _ _ _ _ (good _ c.card_count-cards.ensures c.if-cards-eq0.false) freed.0 freed.1 freed.2 (ordered-none _ _ refl refl)

pub returns-in-Err : goal.returns-in-Err
returns-in-Err c =
    let h = c.args.header.now in
    let f = c.in-Err.fault in
    let next : c.loop-i.i < length h / 80 = omega (arith, c.loop-i-test.true, all h c.card_count-cards.ensures c.if-cards-eq0.false) in
    c.refused-in-Err.ensures
    ∙ stopped-so f f c.loop-i.i c.stop_at.ensures refl
    ∙ on_refused c.loop-i.invariant next f (refused_so h c.loop-i.i f next c.card_at.ensures c.in-Err.is)

pub returns-in-Last : goal.returns-in-Last
returns-in-Last c =
    let h = c.args.header.now in
    let S = c.loop-i.invariant in
    let next : c.loop-i.i < length h / 80 = omega (arith, c.loop-i-test.true, all h c.card_count-cards.ensures c.if-cards-eq0.false) in
    (λ j.
    record {
      header = Ok c.loop-i.i;
      first = S.first_in.is j;
      last = S.last_in.is j;
      times = S.times_in_lem.is j;
      count = sym S.first_in.long j;
    })
    ∙ on_last S next
    (role_so h c.loop-i.i c.in-Ok.card c.role_of-role.result T.Last next c.card_at.ensures c.in-Ok.is c.role_of-role.ensures c.in-Last.is)

pub enter-count-requires : goal.enter-count-requires
enter-count-requires c =
    let h = c.args.header.now in
    let next : c.loop-i.i < length h / 80 = omega (arith, c.loop-i-test.true, all h c.card_count-cards.ensures c.if-cards-eq0.false) in
    ready c.loop-i.invariant next

pub loop-i-preserved : goal.loop-i-preserved
unfolding own
loop-i-preserved c =
    let h = c.args.header.now in
    let S = c.loop-i.invariant in
    let i = c.loop-i.i in
    let r = c.in-Ok.card in
    let t = c.role_of-role.result in
    let long : length r.name.bytes ≡ 80 = search rules in
    let next : c.loop-i.i < length h / 80 = omega (arith, c.loop-i-test.true, all h c.card_count-cards.ensures c.if-cards-eq0.false) in
    let is = role_so h i r t t next c.card_at.ensures c.in-Ok.is c.role_of-role.ensures refl in
    elim c.if-is_entry.branch [
      | then-is_entry w ↦
          standing_as w.first-is w.last-is w.times-is w.keys-is w.order-is w.count-is
          (on_entry_lem S next (own h i r t long next (sym c.is_entry.ensures ∙ w.if-is_entry.true) is) w.enter-count.ensures)
      | else-is_entry w ↦
          standing_as w.first-is w.last-is w.times-is w.keys-is w.order-is w.count-is
          (passed S next r t (sym c.is_entry.ensures ∙ w.if-is_entry.false) c.in_default.not-Last is)
    ]

pub returns : goal.returns
returns c =
    let h = c.args.header.now in
    let n = all h c.card_count-cards.ensures c.if-cards-eq0.false in
    c.refused-2.ensures
    ∙ stopped-so _ (fault_of R.NoEnd) _ c.stop_at-none-2.ensures c.fault_of-2.ensures
    ∙ ap (λ (k : ℕ). tabled (Err (stop_at (fault_of R.NoEnd) k)) empty) n
    ∙ at_end c.loop-i.invariant (omega (arith, n, c.loop-i-test.false))
