-- What a keyword says, by the tests of the code, and texts of cards.
use Prim.Native.Nat.{ℕ, ◌<◌, ◌≤◌}
use Prim.Native.Char.{code}
use native.Mathlib.Omega.{arith}
use mathlib.Core.Path.{◌≡◌, refl}
use mathlib.Core.Bool.{Bool, true, false, cond, true≢false}
use mathlib.Core.List.{List, [], ◌∷◌}
use borrow.Author.Tests.{eq-eqb, ne_eqb, le-leb, lt-leb, eqb-true, leb-true}
use lib.Dec.{eqb, leb}
use lib.ListN.{length}
use Rattle.laws.proofs.Truths.{and_both}
use Rattle.text.specs.Bytes.{ascii, is_space, is_blank, is_printable, shown}
use Rattle.text.specs.Same.{same}
use Rattle.text.specs.Ends.{ends_with}
use Rattle.splitting.proofs.Stringing.{Opens, Closes}
use Rattle.card.specs.declared.Class.{Class}
use Rattle.card.specs.declared.Class.TheVariants.{Empty, Comment, History, Continue, Xtension, Hierarch, End, Other}
use Rattle.card.specs.Keywords.{class_of}
use Rattle.card.specs.Cards.{is_within_quotes}

-- ---- keywords: a class is the first whose word the keyword is

-- the classes from a word on
abbrev pub from_end : List ℕ → Class
from_end k = cond (same k (ascii "END")) End Other

abbrev pub from_hierarch : List ℕ → Class
from_hierarch k = cond (same k (ascii "HIERARCH")) Hierarch (from_end k)

abbrev pub from_xtension : List ℕ → Class
from_xtension k = cond (same k (ascii "XTENSION")) Xtension (from_hierarch k)

abbrev pub from_continue : List ℕ → Class
from_continue k = cond (same k (ascii "CONTINUE")) Continue (from_xtension k)

abbrev pub from_history : List ℕ → Class
from_history k = cond (same k (ascii "HISTORY")) History (from_continue k)

abbrev pub from_comment : List ℕ → Class
from_comment k = cond (same k (ascii "COMMENT")) Comment (from_history k)

pub class_empty : (k : List ℕ) → length k ≡ 0 → Empty ≡ class_of k
unfolding class_of same
class_empty [] h = refl
class_empty (b ∷ k) h = absurd (omega arith)

pub class_some : (k : List ℕ) → (length k ≡ 0 → ⊥) → from_comment k ≡ class_of k
unfolding class_of same
class_some [] h = absurd (h refl)
class_some (b ∷ k) h = refl

-- the keyword is a class's word, or it is another
module _ (x y : Class) {t : Bool} where
  pub is_word : t ≡ true → x ≡ cond t x y
  is_word e = rw e

  pub is_other_lem : t ≡ false → y ≡ cond t x y
  is_other_lem e = rw e

-- ---- after the replacing only spaces are blank
pub blank_shown : (b : ℕ) → is_blank (shown b) ≡ is_space b
unfolding shown is_space is_blank is_printable
blank_shown b = go (is_printable b) refl (is_space b) refl
  where
    -- a control byte is below the space
    control : (m : ℕ) → m < code " " → code " " ≤ b → eqb b m ≡ false
    control m h least = ne_eqb b m (λ x. let y : b ≡ m = x in omega arith)

    go : (t : Bool) → is_printable b ≡ t → (u : Bool) → is_space b ≡ u → is_blank (shown b) ≡ is_space b
    go true e true d = rw (e, d)
    go true e false d =
        let least : code " " ≤ b = leb-true (code " ") b (and_both (leb (code " ") b) (leb b (code "~")) e).0 in
        let none : (m : ℕ) → m < code " " → eqb b m ≡ false = λ m h. control m h least in
        rw (e, d, none 9 (omega arith), none 10 (omega arith), none 12 (omega arith), none 13 (omega arith))
    go false e true d = absurd (true≢false (rw (eqb-true b (code " ") d) at e))
    go false e false d = rw (e, d)

-- ---- within quotes
module _ (s : List ℕ) where
  pub too_short : length s < 2 → is_within_quotes s ≡ false
  unfolding is_within_quotes
  too_short h = rw (lt-leb 2 (length s) h)

  module _ (long : 2 ≤ length s) where
    pub not_opened : (Opens s → ⊥) → is_within_quotes s ≡ false
    unfolding is_within_quotes
    not_opened e = rw (le-leb 2 (length s) long, ne_eqb _ (code "'") e)

    pub not-closed : Opens s → (Closes s → ⊥) → is_within_quotes s ≡ false
    unfolding is_within_quotes ends_with
    not-closed e d = rw (le-leb 2 (length s) long, eq-eqb _ (code "'") e, ne_eqb _ (code "'") d)

    pub quoted : Opens s → Closes s → is_within_quotes s ≡ true
    unfolding is_within_quotes ends_with
    quoted e d = rw (le-leb 2 (length s) long, eq-eqb _ (code "'") e, eq-eqb _ (code "'") d)
