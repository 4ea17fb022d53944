-- Cards with the column beside a refusal: the columns of the text's refusals are those of the card.
use Rattle.std.specs.Prelude.{Err, Ok, Option, Result, Some}
use Prim.Native.Nat.{ℕ, ◌+◌}
use mathlib.Core.Path.{◌≡◌, refl, sym, ap, ◌∙◌}
use mathlib.Core.Bool.{Bool, true, false, cond}
use mathlib.Core.List.{List}
use lib.ListN.{drop}
use Rattle.refusal.specs.declared.Fault.{Fault}
use Rattle.refusal.specs.declared.Refusal.TheVariants as R
use Rattle.refusal.specs.Numbers.{fault_of, fault_at, placed, answer_placed}
use Rattle.refusal.proofs.Placing.{RefusedBy, placed_alike, answer_alike}
use Rattle.text.specs.declared.Text.{Text}
use Rattle.text.specs.Bytes.{is_space}
use Rattle.text.specs.Trim.{trim}
use Rattle.text.specs.Text.{text_of, bytes_of}
use Rattle.splitting.specs.declared.Halves.{Halves}
use Rattle.splitting.specs.Strings.{string_of}
use Rattle.splitting.specs.Columns.{first_byte, text_column, at_byte, string_from}
use Rattle.splitting.proofs.Refusing.{Led, not-closed, not_opened, complex, not-quoted, InText, odd, led}
use Rattle.splitting.proofs.Refusing.{string_led, led_first}
use Rattle.value.specs.declared.ValueRead.{ValueRead}
use Rattle.value.specs.Values.{value_of, value_from}
use Rattle.value.proofs.Placing.{value_in-text}
use Rattle.card.specs.declared.Card.TheVariants as C
use Rattle.card.specs.declared.CardRead.{CardRead}
use Rattle.card.specs.Columns.{equals_of, equals_byte, behind, column_in}
use Rattle.card.specs.Cards.{card_as, string_card, continued, is_within_quotes, inside, quoted_card, extended, of_value}

-- ---- the columns of a text are those of its card

module _ (from : ℕ) (c : List ℕ) where
  pub led_in : (x : Fault) → Led x → at_byte (first_byte from (drop from c)) x.why ≡ column_in from c x.why
  led_in _ not-closed = refl
  led_in _ not_opened = refl
  led_in _ complex = refl
  led_in _ not-quoted = refl

  pub text_in : (x : Fault) → InText x → text_column from (drop from c) x.why ≡ column_in from c x.why
  text_in _ odd = refl
  text_in x (led h) = sym (led_first from (drop from c) x h) ∙ led_in x h

  -- a refused split
  refused_in_lem : (x : Fault) → InText x
      → ◌≡◌ {A = Result CardRead Fault} (Err (placed (text_column from (drop from c)) x)) (Err (placed (column_in from c) x))
  refused_in_lem x h = ap Err (placed_alike (text_column from (drop from c)) (column_in from c) x (text_in x h))

  -- a value
  pub value_in : (dotted : Bool) (name : Text)
      → of_value dotted name (value_from from (drop from c))
      ≡ answer_placed (column_in from c) (of_value dotted name (value_of (drop from c)))
  value_in dotted name =
      let t = drop from c in
      let r = value_of t in
      ap (of_value dotted name) (answer_alike (text_column from t) (column_in from c) InText text_in r (value_in-text t)) ∙ go r
    where
      go : (r : Result ValueRead Fault)
          → of_value dotted name (answer_placed (column_in from c) r) ≡ answer_placed (column_in from c) (of_value dotted name r)
      go (Ok v) = refl
      go (Err x) = refl

-- ---- CONTINUE

-- what is made of a split text that begins at byte `first`
abbrev pub continued_at : ℕ → Result Halves Fault → Text → Result CardRead Fault
continued_at first (Ok h) name = string_card (string_from first (bytes_of h.value)) name h.comment
continued_at first (Err x) name = Err x

module _ (c : List ℕ) (name : Text) where
  string_in : (v : Text) (comment : Option Text)
      → string_card (string_from (first_byte 8 (drop 8 c)) (bytes_of v)) name comment
      ≡ answer_placed (column_in 8 c) (string_card (string_of (bytes_of v)) name comment)
  string_in v comment = go (string_of (bytes_of v)) (string_led (bytes_of v))
    where
      go : (q : Result Text Fault) → RefusedBy Led q
          → string_card (answer_placed (at_byte (first_byte 8 (drop 8 c))) q) name comment
          ≡ answer_placed (column_in 8 c) (string_card q name comment)
      go (Ok t) h = refl
      go (Err x) h = ap Err (placed_alike (at_byte (first_byte 8 (drop 8 c))) (column_in 8 c) x (led_in 8 c x h))

  pub continued_in : (a : Result Halves Fault) → RefusedBy InText a
      → continued_at (first_byte 8 (drop 8 c)) (answer_placed (text_column 8 (drop 8 c)) a) name
      ≡ answer_placed (column_in 8 c) (continued a name)
  continued_in (Ok h) u = string_in h.value h.comment
  continued_in (Err x) u = refused_in_lem 8 c x u

-- ---- XTENSION

-- what is made of a split text that begins at byte `first`
abbrev pub extended_at : ℕ → Result Halves Fault → Text → Result CardRead Fault
extended_at first (Ok h) name = answer_placed (at_byte first) (quoted_card name h.value)
extended_at first (Err x) name = Err x

pub quoted_led : (name v : Text) → RefusedBy Led (quoted_card name v)
unfolding quoted_card
quoted_led name v = go (is_within_quotes (bytes_of v))
  where
    go : (t : Bool)
        → RefusedBy Led
        (cond t (Ok (card_as C.Xtension name (text_of (trim is_space (inside (bytes_of v)))))) (Err (fault_of R.ExtensionNotQuoted)))
    go true = tt
    go false = not-quoted

module _ (c : List ℕ) (name : Text) where
  pub extended_in : (a : Result Halves Fault) → RefusedBy InText a
      → extended_at (first_byte 10 (drop 10 c)) (answer_placed (text_column 10 (drop 10 c)) a) name
      ≡ answer_placed (column_in 10 c) (extended a name)
  extended_in (Ok h) u =
      answer_alike (at_byte (first_byte 10 (drop 10 c))) (column_in 10 c) Led (led_in 10 c) (quoted_card name h.value)
      (quoted_led name h.value)
  extended_in (Err x) u = refused_in_lem 10 c x u

-- ---- HIERARCH, where its = is known

module _ (c : List ℕ) (i : ℕ) (e : equals_of c ≡ Some i) where
  pub nameless_in : ◌≡◌ {A = Result CardRead Fault} (Err (fault_at R.NoName (9 + i)))
      (answer_placed (column_in (behind (equals_of c)) c) (Err (fault_of R.NoName)))
  nameless_in = ap (λ (p : Option ℕ). Err (record { why = R.NoName; column = equals_byte p })) (sym e)

  pub named_in : (name : Text)
      → of_value true name (value_from (10 + i) (drop (10 + i) c))
      ≡ answer_placed (column_in (behind (equals_of c)) c) (of_value true name (value_of (drop (10 + i) c)))
  named_in name =
      value_in (10 + i) c true name
      ∙ ap (λ (p : Option ℕ). answer_placed (column_in (behind p) c) (of_value true name (value_of (drop (10 + i) c)))) (sym e)
