-- The bytes of names, and what a name that may be written is.
use Prim.Native.Nat.{ℕ, ◌<◌, ◌≤◌}
use Prim.Native.Char.{code}
use native.Mathlib.Omega.{arith}
use mathlib.Core.Path.{◌≡◌, refl, ◌∙◌}
use mathlib.Core.Logic.{◌⊎◌, inl, inr, ⊎_elim}
use mathlib.Core.Bool.{true, false, ◌&&◌, ◌||◌}
use mathlib.Core.List.{List}
use borrow.Author.Tests.{ne_eqb, eqb-true, le-leb, leb-true}
use lib.Dec.{eqb, leb}
use lib.ListN.{length}
use Rattle.std.proofs.lemmas.Bool.{or_cases}
use Rattle.laws.proofs.Truths.{and_both, false≢true}
use Rattle.text.specs.Bytes.{is_space, is_blank, is_printable, is_digit, every}
use Rattle.splitting.specs.Scan.{plain, byte_class}
use Rattle.splitting.proofs.Scanning.{class_plain}
use Rattle.card.specs.declared.Class.{Class}
use Rattle.card.specs.Keywords.{class_of}
use Rattle.writing.specs.Rules.{is_name_byte, is_other, is_name}
use Rattle.rereading.proofs.Endings.{blank_printable}
use Rattle.card.specs.declared.Class.TheVariants as K

abbrev Visible : ℕ → Type 0
Visible b = (code "!" ≤ b) × (b ≤ code "~")

between : (l h b : ℕ) → code "0" ≤ l → h ≤ code "_" → (leb l b && leb b h) ≡ true → (code "0" ≤ b) × (b ≤ code "_")
between l h b x y e =
    let low : l ≤ b = leb-true l b (and_both (leb l b) (leb b h) e).0 in
    let high : b ≤ h = leb-true b h (and_both (leb l b) (leb b h) e).1 in
    (omega arith, omega arith)

-- a hyphen, or from 0 to underscore
name_range : (b : ℕ) → is_name_byte b ≡ true → (b ≡ code "-") ⊎ ((code "0" ≤ b) × (b ≤ code "_"))
unfolding is_name_byte is_digit
name_range b e =
    ⊎_elim (λ x. inr (between (code "A") (code "Z") b (omega arith) (omega arith) x))
    (λ r. ⊎_elim (λ x. inr (between (code "0") (code "9") b (omega arith) (omega arith) x))
    (λ r. ⊎_elim (λ x. inl (eqb-true b (code "-") x))
    (λ x. inr (let y : b ≡ code "_" = eqb-true b (code "_") x in (omega arith, omega arith)))
    (or_cases (eqb b (code "-")) (eqb b (code "_")) r))
    (or_cases (leb (code "0") b && leb b (code "9")) (eqb b (code "-") || eqb b (code "_")) r))
    (or_cases (leb (code "A") b && leb b (code "Z"))
    ((leb (code "0") b && leb b (code "9")) || (eqb b (code "-") || eqb b (code "_"))) e)

name_visible : (b : ℕ) → is_name_byte b ≡ true → Visible b
name_visible b e =
    ⊎_elim (λ x. (let y : b ≡ code "-" = x in (omega arith, omega arith))) (λ (l, h). (omega arith, omega arith)) (name_range b e)

visible_printable : (b : ℕ) → Visible b → is_printable b ≡ true
unfolding is_printable
visible_printable b (l, h) = rw (le-leb (code " ") b (omega arith), le-leb b (code "~") h)

visible_space : (b : ℕ) → Visible b → is_space b ≡ false
unfolding is_space
visible_space b (l, h) = ne_eqb b (code " ") (λ x. let y : b ≡ code " " = x in omega arith)

visible_blank : (b : ℕ) → Visible b → is_blank b ≡ false
visible_blank b v = blank_printable b (visible_printable b v) ∙ visible_space b v

-- neither a quote nor a slash
pub name_class : (b : ℕ) → is_name_byte b ≡ true → byte_class b ≡ plain
name_class b e =
    class_plain (λ x. let y : b ≡ code "'" = x in outside (omega arith) (omega arith))
    (λ x. let y : b ≡ code "/" = x in outside (omega arith) (omega arith)) (visible_printable b (name_visible b e))
  where
    outside : (b ≡ code "-" → ⊥) → b < code "0" → ⊥
    outside other low = ⊎_elim other (λ (l, h). omega arith) (name_range b e)

pub name-printable : (b : ℕ) → is_name_byte b ≡ true → is_printable b ≡ true
name-printable b e = visible_printable b (name_visible b e)

pub name_blank : (b : ℕ) → is_name_byte b ≡ true → is_blank b ≡ false
name_blank b e = visible_blank b (name_visible b e)

pub name_space : (b : ℕ) → is_name_byte b ≡ true → is_space b ≡ false
name_space b e = visible_space b (name_visible b e)

-- ---- a name
other-is : (k : Class) → is_other k ≡ true → k ≡ K.Other
other-is K.Empty e = absurd (false≢true e)
other-is K.Comment e = absurd (false≢true e)
other-is K.History e = absurd (false≢true e)
other-is K.Continue e = absurd (false≢true e)
other-is K.Xtension e = absurd (false≢true e)
other-is K.Hierarch e = absurd (false≢true e)
other-is K.End e = absurd (false≢true e)
other-is K.Other e = refl

module _ (name : List ℕ) (e : is_name name ≡ true) where
  short-bytes : (leb (length name) 8 ≡ true) × ((every is_name_byte name && is_other (class_of name)) ≡ true)
  unfolding is_name
  short-bytes = and_both (leb (length name) 8) (every is_name_byte name && is_other (class_of name)) e

  bytes-other : (every is_name_byte name ≡ true) × (is_other (class_of name) ≡ true)
  bytes-other = and_both (every is_name_byte name) (is_other (class_of name)) short-bytes.1

  pub name-length : length name ≤ 8
  name-length = leb-true (length name) 8 short-bytes.0

  pub name-bytes : every is_name_byte name ≡ true
  name-bytes = bytes-other.0

  pub name-other : class_of name ≡ K.Other
  name-other = other-is (class_of name) bytes-other.1
