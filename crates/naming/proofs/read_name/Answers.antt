-- `naming::read_name` meets its contract: a bad length, a number beyond the cards, or what the card there is to its header.
use Rattle.std.proofs.Common.{◌≡◌, ◌/◌, ◌<◌, ◌≤◌, ℕ, List, Bool, false, length, refl, sym, ap, ◌∙◌}
use Rattle.std.specs.Prelude.{Err, Ok, Result}
use Rattle.refusal.specs.declared.Fault.{Fault}
use Rattle.refusal.specs.declared.Refusal.TheVariants as R
use Rattle.refusal.specs.Numbers.{fault_of}
use Rattle.numbers.specs.declared.Value.{Value}
use Rattle.card.specs.declared.CardRead.{CardRead}
use Rattle.roles.specs.declared.Role.{Role as Told}
use Rattle.roles.specs.declared.Role.TheVariants as T
use Rattle.roles.specs.Roles.{role_by, role_in, role_read}
use Rattle.roles.specs.Cards.{is_bad_length, card_at}
use Rattle.roles.proofs.Counting.{card-here}
use Rattle.naming.specs.Naming.{NameOutcome, naming_by, unnamed, name_by, name_at}
use Rattle.naming.proofs.Reading.{bad, past, here}
use Rattle.naming.proofs.read_name.Goals as goal

module _ (h : List ℕ) (i : ℕ) (name : List ℕ) (good : is_bad_length (length h) ≡ false) (within : i < length h / 80) where
  -- what is read of the card is the whole
  whole : {x y : Result CardRead Fault} → x ≡ card_at h i → x ≡ y → name_by (role_read y) name ≡ name_at h i name
  whole e is =
      ap (λ (r : Result CardRead Fault). name_by (role_read r) name) (sym is ∙ e ∙ card-here h i within) ∙ here h i name good within

  -- an entry bears its own
  entry : {x : Result CardRead Fault} (r : CardRead) (u : Told) → x ≡ card_at h i → x ≡ Ok r → u ≡ role_by r.card
      → name_by (role_in u r) name ≡ name_at h i name
  entry r u e is told = ap (λ (t : Told). name_by (role_in t r) name) told ∙ whole e is

  -- a card that is no entry bears no name
  none : {x : Result CardRead Fault} (r : CardRead) (t : Told) → x ≡ card_at h i → x ≡ Ok r → t ≡ role_by r.card
      → ((v : Value) (joins : Bool) → t ≡ T.Entry v joins → ⊥) → unnamed (fault_of R.NameNotFound) name ≡ name_at h i name
  none r t e is told other = go t other ∙ ap (λ (u : Told). name_by (role_in u r) name) told ∙ whole e is
    where
      go : (u : Told) → ((v : Value) (joins : Bool) → u ≡ T.Entry v joins → ⊥)
          → unnamed (fault_of R.NameNotFound) name ≡ name_by (role_in u r) name
      go (T.Entry v joins) o = absurd (o v joins refl)
      go T.More o = refl
      go T.Neutral o = refl
      go T.Last o = refl

pub returns-then-is_bad_length : goal.returns-then-is_bad_length
returns-then-is_bad_length c =
    let a = c.args in
    ap (λ (f : Fault). unnamed f a.name.now) c.fault_of.ensures
    ∙ bad a.header.now a.i a.name.now (sym c.is_bad_length.ensures ∙ c.if-is_bad_length.true)

pub returns-then-header-i : goal.returns-then-header-i
returns-then-header-i c =
    let a = c.args in
    ap (λ (n : Result ℕ Fault). naming_by n a.name.now) c.no_name.ensures
    ∙ past a.header.now a.i a.name.now (sym c.is_bad_length.ensures ∙ c.if-is_bad_length.false) c.if-header-i.true

pub returns-in-Err : goal.returns-in-Err
returns-in-Err c =
    let a = c.args in
    whole a.header.now a.i a.name.now (sym c.is_bad_length.ensures ∙ c.if-is_bad_length.false) c.if-header-i.false
    c.card_at.ensures c.in-Err.is

pub returns-in_default : goal.returns-in_default
returns-in_default c =
    let a = c.args in
    ap (λ (n : Result ℕ Fault). naming_by n a.name.now) c.no_name-in_default.ensures
    ∙ none a.header.now a.i a.name.now (sym c.is_bad_length.ensures ∙ c.if-is_bad_length.false) c.if-header-i.false
    _ c.role_of.result c.card_at.ensures c.in-Ok.is c.role_of.ensures c.in_default.not-Entry

pub returns-in-Entry : goal.returns-in-Entry
returns-in-Entry c =
    let a = c.args in
    c.write_name.ensures
    ∙ entry a.header.now a.i a.name.now (sym c.is_bad_length.ensures ∙ c.if-is_bad_length.false) c.if-header-i.false
    _ _ c.card_at.ensures c.in-Ok.is (sym c.in-Entry.is ∙ c.role_of.ensures)
