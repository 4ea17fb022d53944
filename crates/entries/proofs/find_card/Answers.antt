-- `entries::find_card` meets its contract: a bad length, a number beyond the cards, or the entry there.
use Rattle.std.proofs.Common.{◌≡◌, ℕ, List, length, drop, sym, ap, ◌∙◌, true, false}
use Rattle.refusal.specs.declared.Fault.{Fault}
use Rattle.refusal.specs.declared.Refusal.TheVariants as R
use Rattle.refusal.specs.Numbers.{fault_of}
use Rattle.roles.specs.Cards.{is_bad_length, roles_of}
use Rattle.roles.proofs.Counting.{good_cards}
use Rattle.finding.specs.Finding.{stop_at}
use Rattle.entries.specs.Halves.{stops, numbered_from, numbered}
use Rattle.entries.proofs.Looking.{none_past}
use Rattle.entries.proofs.find_card.Goals as goal

module _ (h : List ℕ) (i : ℕ) where
  bad : is_bad_length (length h) ≡ true → stops (stop_at (fault_of R.HeaderLength) 0) ≡ numbered h i
  unfolding numbered
  bad e = rw e

  good : is_bad_length (length h) ≡ false → numbered_from (drop i (roles_of h)) i ≡ numbered h i
  unfolding numbered
  good e = rw e

pub returns-then-is_bad_length : goal.returns-then-is_bad_length
returns-then-is_bad_length c =
    let a = c.args in
    record {
      is =
          ap stops (c.stop_at.ensures ∙ ap (λ (f : Fault). stop_at f 0) c.fault_of-fault.ensures)
          ∙ bad a.header.now a.i (sym c.is_bad_length.ensures ∙ c.if-is_bad_length.true);
      within = tt;
    }

pub returns-then-header-i : goal.returns-then-header-i
returns-then-header-i c =
    let a = c.args in
    record {
      is = none_past a.header.now a.i c.if-header-i.true ∙ good a.header.now a.i (sym c.is_bad_length.ensures ∙ c.if-is_bad_length.false);
      within = tt;
    }

pub returns : goal.returns
returns c =
    let a = c.args in
    let long = sym c.is_bad_length.ensures ∙ c.if-is_bad_length.false in
    record { is = good a.header.now a.i long; within = (c.if-header-i.false, good_cards (length a.header.now) long) }
