-- `printing::name_part` meets its contract: the name has an entry, which is read whole, and its line fits.
use Rattle.std.specs.Prelude.{Ok, Result}
use Prim.Native.Nat.{ℕ, ◌≤◌, ◌<◌}
use native.Mathlib.Omega.{arith}
use mathlib.Core.Path.{◌≡◌, sym, ap, subst, ◌∙◌}
use mathlib.Core.List.{List}
use lib.ListN.{length, get_or, take}
use lib.Seq.{sets}
use Rattle.refusal.specs.declared.Fault.{Fault}
use Rattle.text.specs.Text.{bytes_of}
use Rattle.text.proofs.Texts.{bytes-text}
use Rattle.numbers.specs.declared.Value.{Value}
use Rattle.card.specs.declared.CardRead.{CardRead}
use Rattle.roles.specs.Roles.{Held}
use Rattle.roles.specs.Cards.{roles_of, card_at}
use Rattle.entries.specs.declared.ValueHalf.{ValueHalf}
use Rattle.entries.specs.Halves.{ValueOutcome, value_left, value_numbered}
use Rattle.listing.specs.Listing.{free, list_of}
use Rattle.std.proofs.lemmas.List.{get_or_default}
use Rattle.lines.specs.Lines.{entry_line}
use Rattle.agreeing.specs.Firsts.{times_borne}
use Rattle.agreeing.proofs.Naming.{first-long}
use Rattle.bounds.specs.Longest.{longest_text}
use Rattle.printing.specs.Ready.{IsListed, Front}
use Rattle.printing.proofs.Fitting.{front, written-line}
use Rattle.printing.proofs.Naming.{BearsName, half_of}
use Rattle.printing.proofs.Naming as naming
use Rattle.printing.proofs.name_part.Goals as goal

module _ {h first last times : List ℕ} {k : ℕ} (l : IsListed h first last times) (p : k < (list_of h).count) where
  -- a place is a small number
  place-small : k < 720
  place-small = omega (arith, p, naming.few-names h l.end l.accepted)

  -- the place lies within each array of the list
  first-within : k < length first
  first-within = omega (arith, p, ap length l.first-cards, first-long h l.end l.accepted)

  last_within : k < length last
  last_within = omega (arith, p, ap length l.last_entries, naming.last-long h l.end l.accepted)

  times-within : k < length times
  times-within = omega (arith, p, ap length l.how_often, naming.times_long h l.end l.accepted)

  -- what was read of it
  read_is : (text : List ℕ) {o : ValueOutcome} → longest_text ≤ length text → o ≡ value_numbered h (get_or last k 0) text
      → o ≡ value_left (half_of (naming.value h l.end l.accepted k p)) (sets text 0 (naming.value h l.end l.accepted k p).words.text)
  read_is text wide e =
      e
      ∙ ap (λ (i : ℕ). value_numbered h i text)
      (get_or_default last k 0 free last_within ∙ ap (λ (x : List ℕ). get_or x k free) l.last_entries)
      ∙ naming.read_whole h l.end l.accepted k p text wide

  -- the card that bears the name is read
  bears : {a : Result CardRead Fault} → a ≡ card_at h (get_or first k 0) → BearsName (naming.name h l.end l.accepted k p) a
  bears e =
      let at = get_or_default first k 0 free first-within ∙ ap (λ (x : List ℕ). get_or x k free) l.first-cards in
      subst (BearsName (naming.name h l.end l.accepted k p)) (sym (e ∙ ap (card_at h) at)) (naming.first-named h l.end l.accepted k p)

-- the value that was found
value-is : (v : Held) (r : ValueHalf) (x : Value) → r ≡ half_of v → r.answer ≡ Ok x → x ≡ v.value
value-is v r x e d = let same : Ok x ≡ Ok v.value = sym d ∙ ap (λ (l : ValueHalf). l.answer) e in cc

pub offset_bounds-first-k : goal.offset_bounds-first-k
offset_bounds-first-k c = record { fits = omega (arith, place-small c.requires.0 c.requires.1) }

pub bounds-first-k : goal.bounds-first-k
bounds-first-k c = first-within c.requires.0 c.requires.1

pub offset_bounds-last-k : goal.offset_bounds-last-k
offset_bounds-last-k c = record { fits = omega (arith, place-small c.requires.0 c.requires.1) }

pub bounds-last-k : goal.bounds-last-k
bounds-last-k c = last_within c.requires.0 c.requires.1

pub offset_bounds-times-k : goal.offset_bounds-times-k
offset_bounds-times-k c = record { fits = omega (arith, place-small c.requires.0 c.requires.1) }

pub bounds-times-k : goal.bounds-times-k
bounds-times-k c = times-within c.requires.0 c.requires.1

pub returns-in_default : goal.returns-in_default
returns-in_default c =
    let a = c.args in
    let l = c.requires.0 in
    let p = c.requires.1 in
    let name = naming.name a.header.now l.end l.accepted a.k p in
    absurd (subst (BearsName name) c.in_default.is (bears l p c.card_at.ensures))

pub returns-in_default-answer : goal.returns-in_default-answer
returns-in_default-answer c =
    let read = read_is c.requires.0 c.requires.1 c.args.text.now c.requires.2.for_text c.value_at-looked.ensures in
    absurd (c.in_default-answer.not-Ok _ (ap (λ (o : ValueOutcome). o.answer.answer) read))

pub returns : goal.returns
returns c =
    let a = c.args in
    let h = a.header.now in
    let l = c.requires.0 in
    let p = c.requires.1 in
    let v = naming.value h l.end l.accepted a.k p in
    let name = naming.name h l.end l.accepted a.k p in
    let t = v.words.text in
    let read = read_is l p a.text.now c.requires.2.for_text c.value_at-looked.ensures in
    let looked : c.value_at-looked.result ≡ half_of v = ap (λ (o : ValueOutcome). o.answer) read in
    let named : bytes_of c.in-Ok.card.name ≡ name =
    subst (BearsName name) c.in-Ok.is (bears l p c.card_at.ensures) in
    let valued = value-is v c.value_at-looked.result _ looked c.in-Ok-answer.is in
    let digits : bytes_of c.value_at-looked.result.digits ≡ v.digits =
    ap (λ (r : ValueHalf). bytes_of r.digits) looked ∙ bytes-text v.digits in
    let fits : length t ≤ length a.text.now =
    omega (arith, naming.text-fits h l.end l.accepted a.k p, c.requires.2.for_text) in
    let words : c.first_of-shown.result.now ≡ t =
    c.first_of-shown.ensures
    ∙ ap (λ (o : ValueOutcome). take o.answer.text o.text) read
    ∙ front t a.text.now fits in
    let times = ap (λ (x : List ℕ). get_or x a.k 0) l.how_often ∙ naming.number_is h l.end l.accepted a.k p in
    let line : entry_line (bytes_of c.in-Ok.card.name) _ (bytes_of c.value_at-looked.result.digits)
    c.first_of-shown.result.now (get_or a.times.now a.k 0)
    ≡ entry_line name v.value v.digits t (times_borne name (roles_of h)) =
    λ j. entry_line (named j) (valued j) (digits j) (words j) (times j) in
    subst (Front c.length_of.result _) (line ∙ sym (naming.line-is h l.end l.accepted a.k p))
    (written-line c.entry_line.result c.length_of.result _ a.line.now _ c.length_of.ensures c.entry_line.ensures.out_after
    (omega (
      arith,
      c.entry_line.ensures.times_len_bound,
      ap length words,
      naming.text-fits h l.end l.accepted a.k p,
      c.requires.2.for_line,
    )))
