-- The two forms of written cards: one card of a logical or number, or the cards of a string.
use Prim.Native.Nat.{ℕ, ◌≤◌}
use mathlib.Core.Path.{◌≡◌, refl}
use mathlib.Core.Bool.{true, false, ◌&&◌}
use mathlib.Core.List.{List, []}
use borrow.Author.Tests.{leb-true}
use lib.ListN.{length}
use Rattle.laws.proofs.Truths.{and_both, false≢true}
use Rattle.text.specs.Bytes.{is_printable, every}
use Rattle.numbers.specs.declared.Size.TheVariants.{Finite, Infinite, Nan}
use Rattle.numbers.specs.declared.Value.{Value}
use Rattle.numbers.specs.declared.Value.TheVariants.{Integer, Float, Logical, String, Undefined, Invalid}
use Rattle.numerals.specs.Numerals.{signed_digits}
use Rattle.roles.specs.Roles.{Comment, entry, is_string, role_of}
use Rattle.writing.specs.Pieces.{text_room, pieces_of}
use Rattle.writing.specs.Written.{card_from, name_front, truth_text, decimal_text, plain_text, plain_cards, string_cards, written_cards}
use Rattle.writing.specs.Written.{held_for}
use Rattle.writing.specs.Rules.{is_name, is_comment, is_short, remark_limit, is_text, is_long, is_significant, is_power, fits_card}
use Rattle.writing.specs.Rules.{is_value, is_writable}
use Rattle.rereading.proofs.Plain.{truth_printable, truth_role, figures_printable, figures_role}
use Rattle.rereading.proofs.Integers.{integer_figures, integer-number}
use Rattle.rereading.proofs.Decimals.{decimal_number_lem, decimal_figures}

-- one card with the text t: its role, and that the text is printable and fits
pub record OneCard (name t : List ℕ) (v : Value) (text : List ℕ) (c : Comment) : Type 0 where
  pub role : role_of (card_from (name_front name) (plain_text t c)) ≡ entry name (held_for v text c)
  pub unjoined : is_string v ≡ false
  pub printable : every is_printable (plain_text t c) ≡ true
  pub fit : length (plain_text t c) ≤ text_room

pub data Formed (name : List ℕ) (c : Comment) : Value → List ℕ → List (List ℕ) → Type 0 where
  one-card : {v : Value} {text t : List ℕ} → OneCard name t v text c → Formed name c v text (plain_cards name t c)
  string_cards_lem : {s : List ℕ} → is_text s ≡ true → is_comment c ≡ true → is_short remark_limit c ≡ true
      → Formed name c String s (string_cards name (pieces_of s c))

module _ (name : List ℕ) (good : is_name name ≡ true) (text : List ℕ) (c : Comment) where
  by_value : (v : Value) → is_comment c ≡ true → is_value v text c ≡ true → Formed name c v text (written_cards v name text c)
  by_value (Integer z) y e =
      let (long, fit) = and_both (is_long z) (fits_card (signed_digits z) c) e in
      one-card (record {
        role = figures_role c y name good (integer_figures z) (Integer z) [] refl (integer-number z long);
        unjoined = refl;
        printable = figures_printable c y (integer_figures z);
        fit = leb-true (length (plain_text (signed_digits z) c)) text_room fit;
      })
  by_value (Float minus (Finite power)) y e =
      let t = decimal_text minus text power in
      let (both, fit) = and_both (is_significant text && is_power text power) (fits_card t c) e in
      let (digits, small) = and_both (is_significant text) (is_power text power) both in
      let shape = decimal_figures minus text power digits small in
      one-card (record {
        role = figures_role c y name good shape (Float minus (Finite power)) text refl (decimal_number_lem minus text power digits small);
        unjoined = refl;
        printable = figures_printable c y shape;
        fit = leb-true (length (plain_text t c)) text_room fit;
      })
  by_value (Float minus Infinite) y e = absurd (false≢true e)
  by_value (Float minus Nan) y e = absurd (false≢true e)
  by_value (Logical t) y e =
      one-card (record {
        role = truth_role name good t c y;
        unjoined = refl;
        printable = truth_printable t c y;
        fit = leb-true (length (plain_text (truth_text t) c)) text_room e;
      })
  by_value String y e = let (is, short) = and_both (is_text text) (is_short remark_limit c) e in string_cards_lem is y short
  by_value Undefined y e = absurd (false≢true e)
  by_value Invalid y e = absurd (false≢true e)

  -- what may be written is of one of them
  pub written_formed : (v : Value) → is_writable v text c ≡ true → Formed name c v text (written_cards v name text c)
  unfolding is_writable
  written_formed v e = let (remark, value) = and_both (is_comment c) (is_value v text c) e in by_value v remark value
