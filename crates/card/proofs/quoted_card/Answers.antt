-- `card::quoted_card` meets its contract: by the quotes at either end of the value text.
use Rattle.std.proofs.Common.{◌≡◌, ◌-◌, ◌≤◌, ℕ, List, length, drop, length-drop, sym, ap, ◌∙◌, arith, true, false}
use Rattle.std.specs.Prelude.{Ok, Err, Result}
use lib.ListN.{length-take}
use Rattle.refusal.specs.declared.Fault.{Fault}
use Rattle.refusal.specs.declared.Refusal.TheVariants as R
use Rattle.refusal.specs.Numbers.{fault_at, answer_placed}
use Rattle.text.specs.declared.Text.{Text}
use Rattle.text.specs.Bytes.{is_space}
use Rattle.text.specs.Trim.{trim}
use Rattle.text.specs.Text.{size, text_of, bytes_of}
use Rattle.text.proofs.Trimming.{shorter}
use Rattle.text.proofs.Texts.{whole-text}
use Rattle.splitting.specs.Columns.{at_byte}
use Rattle.card.specs.declared.Card.TheVariants.{Xtension}
use Rattle.card.specs.declared.CardRead.{CardRead}
use Rattle.card.specs.Cards.{card_as, is_within_quotes, inside, quoted_card}
use Rattle.card.proofs.Classes.{too_short, not_opened, not-closed, quoted}
use Rattle.card.proofs.quoted_card.Goals as goal

-- the value text s is, or is not, within quotes
module _ (name v : Text) (first : ℕ) (s : List ℕ) (e : s ≡ bytes_of v) where
  not_within : is_within_quotes s ≡ false
      → ◌≡◌ {A = Result CardRead Fault} (Err (fault_at R.ExtensionNotQuoted first)) (answer_placed (at_byte first) (quoted_card name v))
  unfolding quoted_card
  not_within d = rw (sym (ap is_within_quotes e) ∙ d)

  is_within : is_within_quotes s ≡ true
      → ◌≡◌ {A = Result CardRead Fault} (Ok (card_as Xtension name (text_of (trim is_space (inside s)))))
      (answer_placed (at_byte first) (quoted_card name v))
  unfolding quoted_card
  is_within d = ap (λ (l : List ℕ). Ok (card_as Xtension name (text_of (trim is_space (inside l))))) e
      ∙ rw (sym (ap is_within_quotes e) ∙ d)

pub returns-then-n-lt2 : goal.returns-then-n-lt2
returns-then-n-lt2 c =
    let a = c.args in
    let s = c.as_slice-s.result.now in
    ap Err c.fault_at.ensures ∙ not_within a.name.now a.v.now a.first s c.as_slice-s.ensures.bytes (too_short s c.if-n-lt2.true)

pub returns-then-s-ne-QUOTE : goal.returns-then-s-ne-QUOTE
returns-then-s-ne-QUOTE c =
    let a = c.args in
    let s = c.as_slice-s.result.now in
    ap Err c.fault_at-then-s-ne-QUOTE.ensures
    ∙ not_within a.name.now a.v.now a.first s c.as_slice-s.ensures.bytes (not_opened s c.if-n-lt2.false c.if-s-ne-QUOTE.true)

pub returns-then-s-n-ne-QUOTE : goal.returns-then-s-n-ne-QUOTE
returns-then-s-n-ne-QUOTE c =
    let a = c.args in
    let s = c.as_slice-s.result.now in
    ap Err c.fault_at-then-s-n-ne-QUOTE.ensures
    ∙ not_within a.name.now a.v.now a.first s c.as_slice-s.ensures.bytes
    (not-closed s c.if-n-lt2.false c.if-s-ne-QUOTE.false c.if-s-n-ne-QUOTE.true)

pub returns : goal.returns
returns c =
    let a = c.args in
    let s = c.as_slice-s.result.now in
    let t = c.trimmed-inner.result.now in
    let within : length s ≤ size = c.as_slice-s.ensures.fits in
    let part : length (inside s) ≤ size = omega (arith, length-take (length s - 1 - 1) (drop 1 s), length-drop 1 s) in
    let short : length t ≤ size = rw c.trimmed-inner.ensures (omega (arith, shorter is_space (inside s))) in
    ap Ok (c.read_as.ensures
    ∙ ap (card_as Xtension a.name.now) (c.text_of.ensures ∙ whole-text t short ∙ ap text_of c.trimmed-inner.ensures))
    ∙ is_within a.name.now a.v.now a.first s c.as_slice-s.ensures.bytes
    (quoted s c.if-n-lt2.false c.if-s-ne-QUOTE.false c.if-s-n-ne-QUOTE.false)
