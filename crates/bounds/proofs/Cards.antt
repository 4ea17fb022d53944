-- How long the words of a card are, by its class.
use Rattle.std.specs.Prelude.{Err, None, Ok, Option, Result, Some}
use Prim.Native.Char.{code}
use Prim.Native.Nat.{ℕ, ◌+◌, ◌-◌, ◌≤◌}
use native.Mathlib.Omega.{arith}
use mathlib.Core.Path.{◌≡◌}
use mathlib.Core.Bool.{Bool, true, false, cond}
use mathlib.Core.List.{List, [], ◌∷◌}
use lib.ListN.{length, take, drop, length-drop, length-take}
use Rattle.refusal.specs.declared.Fault.{Fault}
use Rattle.refusal.specs.declared.Refusal.{Refusal}
use Rattle.refusal.specs.declared.Refusal.TheVariants as R
use Rattle.refusal.specs.Numbers.{fault_of, answer_placed}
use Rattle.text.specs.declared.Text.{Text}
use Rattle.text.specs.Bytes.{ascii, is_space}
use Rattle.text.specs.Same.{same}
use Rattle.text.specs.Place.{place_of}
use Rattle.text.specs.Trim.{trim}
use Rattle.text.specs.Text.{text_of, bytes_of}
use Rattle.text.proofs.Trimming.{shorter}
use Rattle.numbers.specs.declared.Value.{Value}
use Rattle.splitting.specs.declared.Halves.{Halves}
use Rattle.splitting.specs.Split.{split_of}
use Rattle.splitting.specs.Strings.{string_of}
use Rattle.value.specs.declared.ValueRead.{ValueRead}
use Rattle.value.specs.Values.{value_of}
use Rattle.card.specs.declared.Card.TheVariants as C
use Rattle.card.specs.declared.CardRead.{CardRead}
use Rattle.card.specs.declared.Class.{Class}
use Rattle.card.specs.declared.Class.TheVariants as K
use Rattle.card.specs.Keywords.{has_high, keyword_of, class_of, dotted_name}
use Rattle.card.specs.Cards.{card_as, is_within_quotes, space_or, remark_of, empty_of}
use Rattle.card.specs.Cards.{string_card, continued, continuation_of, quoted_card, inside, extended}
use Rattle.card.specs.Cards.{extension_of, card_with, of_value, named, by_equals, hierarch_of, other_of, by_class}
use Rattle.card.specs.Cards.{unplaced_of, card_of}
use Rattle.card.specs.Columns.{column_of}
use Rattle.roles.specs.Roles.{Comment, Role, entry, more, neutral, last}
use Rattle.roles.specs.Roles.{refused, has_text, comment_read, role_by, role_in, role_read, role_of}
use Rattle.entries.specs.Answers.{bytes_in}
use Rattle.bounds.specs.Longest.{card_words}
use Rattle.bounds.proofs.Parts.{text_len, ReadShort, HalvesShort, StringShort, shown_len, ValueShort, split_short, bytes_len}
use Rattle.bounds.proofs.Parts.{string-short, value-short}
use Rattle.card.specs.declared.Card.{Card}

-- the length of the text that a card is joined or answered with
abbrev words_len : Card → ℕ → ℕ
words_len (C.Value v) n = shown_len v n
words_len (C.Hierarch v) n = shown_len v n
words_len C.Xtension n = n
words_len C.Continuation n = n
words_len C.Comment n = 0
words_len C.History n = 0
words_len C.Space n = 0
words_len C.Undefined n = 0
words_len C.End n = 0

record WordsFew (r : CardRead) : Type 0 where
  pub text : words_len r.card r.text.len ≤ card_words
  pub comment : text_len r.comment ≤ card_words

abbrev CardShort : Result CardRead Fault → Type 0
CardShort = ReadShort WordsFew

-- the column beside a refusal is no matter
placed-short : (f : Refusal → Option ℕ) (a : Result CardRead Fault) → CardShort a → CardShort (answer_placed f a)
placed-short f (Ok r) s = s
placed-short f (Err x) s = tt

valued_short : (n : ℕ) (dotted : Bool) (name : Text) (a : Result ValueRead Fault) → n ≤ card_words → ReadShort (ValueShort n) a
    → CardShort (of_value dotted name a)
valued_short n dotted name (Ok r) few short = record { text = with dotted r.value short.text; comment = omega (arith, short.comment) }
  where
    with : (b : Bool) (v : Value) → shown_len v r.text.len ≤ n → words_len (card_with b v) r.text.len ≤ card_words
    with true v h = omega arith
    with false v h = omega arith
valued_short n dotted name (Err f) few short = tt

module _ (c : List ℕ) (whole : length c ≡ 80) where
  from : (i : ℕ) → 8 ≤ i → length (drop i c) ≤ card_words
  from i h = omega (arith, length-drop i c)

  continued-short : (name : Text) → CardShort (continuation_of name c)
  unfolding continuation_of
  continued-short name = go (split_of (drop 8 c)) (split_short (drop 8 c))
    where
      by : (v : Text) (remark : Option Text) (q : Result Text Fault) → v.len ≤ card_words → text_len remark ≤ card_words
          → StringShort (length (bytes_of v)) q → CardShort (string_card q name remark)
      by v remark (Ok t) few k h = record { text = omega (arith, h, bytes_len v); comment = k }
      by v remark (Err f) few k h = tt

      go : (x : Result Halves Fault) → ReadShort (HalvesShort (length (drop 8 c))) x → CardShort (continued x name)
      go (Ok h) s =
          by h.value h.comment (string_of (bytes_of h.value)) (omega (arith, s.value, from 8 (omega arith)))
          (omega (arith, s.comment, from 8 (omega arith))) (string-short (bytes_of h.value))
      go (Err f) s = tt

  extension_short : (name : Text) → CardShort (extension_of name c)
  unfolding extension_of quoted_card
  extension_short name = go (split_of (drop 10 c)) (split_short (drop 10 c))
    where
      within : (v : Text) → v.len ≤ length (drop 10 c) → length (trim is_space (inside (bytes_of v))) ≤ card_words
      within v h =
          let held = bytes_of v in
          omega (
            arith,
            shorter is_space (inside held),
            length-take (length held - 1 - 1) (drop 1 held),
            length-drop 1 held,
            bytes_len v,
            h,
            from 10 (omega arith),
          )

      by : (v : Text) (b : Bool) → v.len ≤ length (drop 10 c)
          → CardShort
          (cond b (Ok (card_as C.Xtension name (text_of (trim is_space (inside (bytes_of v))))))
          (Err (fault_of R.ExtensionNotQuoted)))
      by v true h = record { text = within v h; comment = omega arith }
      by v false h = tt

      go : (x : Result Halves Fault) → ReadShort (HalvesShort (length (drop 10 c))) x → CardShort (extended x name)
      go (Ok h) s = by h.value (is_within_quotes (bytes_of h.value)) s.value
      go (Err f) s = tt

  valued : (dotted : Bool) (name : Text) (i : ℕ) → 8 ≤ i → CardShort (of_value dotted name (value_of (drop i c)))
  valued dotted name i h = valued_short (length (drop i c)) dotted name (value_of (drop i c)) (from i h) (value-short (drop i c))

  hierarch_short : CardShort (hierarch_of c)
  unfolding hierarch_of
  hierarch_short = go (place_of (code "=") (drop 9 c))
    where
      by : (i : ℕ) (n : List ℕ) → CardShort (named n (drop (10 + i) c))
      by i [] = tt
      by i (b ∷ n) = valued true (text_of (b ∷ n)) (10 + i) (omega arith)

      go : (p : Option ℕ) → CardShort (by_equals p c)
      go (Some i) = by i (dotted_name (take i (drop 9 c)))
      go None = tt

  other-short : (name : Text) → CardShort (other_of name c)
  unfolding other_of
  other-short name = go (same (take 2 (drop 8 c)) (ascii "= "))
    where
      go : (b : Bool) → CardShort (cond b (of_value false name (value_of (drop 10 c))) (Ok (card_as C.Undefined name (text_of c))))
      go true = valued false name 10 (omega arith)
      go false = record { text = omega arith; comment = omega arith }

  class_short : (k : Class) (name : Text) → CardShort (by_class k name c)
  unfolding empty_of
  class_short K.Empty name = go (remark_of c)
    where
      go : (l : List ℕ) → CardShort (Ok (space_or l))
      go [] = record { text = omega arith; comment = omega arith }
      go (b ∷ l) = record { text = omega arith; comment = omega arith }
  class_short K.Comment name = record { text = omega arith; comment = omega arith }
  class_short K.History name = record { text = omega arith; comment = omega arith }
  class_short K.Continue name = continued-short name
  class_short K.Xtension name = extension_short name
  class_short K.Hierarch name = hierarch_short
  class_short K.End name = record { text = omega arith; comment = omega arith }
  class_short K.Other name = other-short name

  card-short : CardShort (card_of c)
  unfolding card_of unplaced_of
  card-short = placed-short (column_of c) (unplaced_of c) (go (has_high c))
    where
      go : (b : Bool)
          → CardShort (cond b (Err (fault_of R.HighByte)) (by_class (class_of (keyword_of c)) (text_of (keyword_of c)) c))
      go true = tt
      go false = class_short (class_of (keyword_of c)) (text_of (keyword_of c))

-- ---- the same of roles
abbrev pub WordsShort : List ℕ → Comment → Type 0
WordsShort t k = (length t ≤ card_words) × (length (bytes_in k) ≤ card_words)

abbrev pub RoleShort : Role → Type 0
RoleShort (entry n v) = WordsShort v.words.text v.words.comment
RoleShort (more t k) = WordsShort t k
RoleShort neutral = Unit {0}
RoleShort last = Unit {0}
RoleShort (refused f) = Unit {0}

remark_short : (c : Option Text) → text_len c ≤ card_words → length (bytes_in (comment_read c)) ≤ card_words
remark_short (Some t) h = omega (arith, bytes_len t)
remark_short None h = omega arith

shown-short : (b : Bool) (t : Text) → cond b t.len 0 ≤ card_words → length (cond b (bytes_of t) []) ≤ card_words
shown-short true t h = omega (arith, bytes_len t)
shown-short false t h = omega arith

by_card : (card : Card) (r : CardRead) → words_len card r.text.len ≤ card_words → text_len r.comment ≤ card_words
    → RoleShort (role_in (role_by card) r)
by_card (C.Value v) r h k = (shown-short (has_text v) r.text h, remark_short r.comment k)
by_card (C.Hierarch v) r h k = (shown-short (has_text v) r.text h, remark_short r.comment k)
by_card C.Xtension r h k = (shown-short true r.text h, remark_short r.comment k)
by_card C.Continuation r h k = (shown-short true r.text h, remark_short r.comment k)
by_card C.Comment r h k = tt
by_card C.History r h k = tt
by_card C.Space r h k = tt
by_card C.Undefined r h k = tt
by_card C.End r h k = tt

by_answer : (a : Result CardRead Fault) → CardShort a → RoleShort (role_read a)
by_answer (Ok r) s = by_card r.card r s.text s.comment
by_answer (Err f) s = tt

pub role_short : (c : List ℕ) → length c ≡ 80 → RoleShort (role_of c)
role_short c whole = by_answer (card_of c) (card-short c whole)
