-- Strings that may be written, and their pieces.
use Rattle.std.specs.Prelude.{None, Some}
use Prim.Native.Nat.{ℕ, suc, ◌≤◌}
use Prim.Native.Char.{code}
use native.Mathlib.Omega.{arith}
use mathlib.Core.Path.{◌≡◌, refl, sym, subst, ◌∙◌}
use mathlib.Core.Logic.{◌⊎◌, inl, inr, ⊎_elim}
use mathlib.Core.Bool.{true, false, not, ◌&&◌, ◌||◌}
use mathlib.Core.List.{List, [], ◌∷◌}
use borrow.Author.Tests.{le-leb, leb-true, not-true}
use lib.Dec.{leb}
use lib.ListN.{length}
use Rattle.laws.proofs.Truths.{and_both}
use Rattle.text.specs.Bytes.{ascii, is_space, is_printable, every}
use Rattle.text.specs.Same.{same}
use Rattle.text.specs.Ends.{ends_with}
use Rattle.text.proofs.Comparing.{same_eq}
use Rattle.roles.specs.Roles.{Comment}
use Rattle.joining.specs.Words.{ends_open}
use Rattle.writing.specs.Pieces.{doubled, text_room, last_piece, pieces_from, pieces_of}
use Rattle.writing.specs.Rules.{is_comment, is_short, text_limit, remark_limit, ends_well, is_text}
use Rattle.rereading.proofs.Lists.{All, no_more, also}
use Rattle.rereading.proofs.Endings.{last_is, ends_space}
use Rattle.rereading.proofs.Valuing.{settled_space}
use Rattle.std.proofs.lemmas.Bool.{or_cases}
use Rattle.rereading.proofs.Cutting.{pieces_cut, Sound, pieces_sound}

module _ (s : List ℕ) (e : is_text s ≡ true) where
  printable-rest : (every is_printable s ≡ true) × ((leb (length s) text_limit && ends_well s) ≡ true)
  unfolding is_text
  printable-rest = and_both (every is_printable s) (leb (length s) text_limit && ends_well s) e

  short-end : (leb (length s) text_limit ≡ true) × (ends_well s ≡ true)
  short-end = and_both (leb (length s) text_limit) (ends_well s) printable-rest.1

  string-printable : every is_printable s ≡ true
  string-printable = printable-rest.0

  pub string-length : length s ≤ text_limit
  string-length = leb-true (length s) text_limit short-end.0

  ends : ((not (ends_with (code " ") s) || same s (ascii " ")) ≡ true) × (not (ends_with (code "&") s) ≡ true)
  unfolding ends_well
  ends = and_both (not (ends_with (code " ") s) || same s (ascii " ")) (not (ends_with (code "&") s)) short-end.1

  pub string_shut : ends_open s ≡ false
  unfolding ends_open
  string_shut = not-true (ends_with (code "&") s) ends.1

  -- it ends in no space, or it is one space
  pub string-end : (last_is is_space s ≡ false) ⊎ (s ≡ ascii " ")
  string-end =
      ⊎_elim (λ x. inl (sym (ends_space s) ∙ not-true (ends_with (code " ") s) x)) (λ x. inr (same_eq s (ascii " ") x))
      (or_cases (not (ends_with (code " ") s)) (same s (ascii " ")) ends.0)

-- one space is written on one card, whatever its comment
pub one_space : (c : Comment) → is_short remark_limit c ≡ true → pieces_of (ascii " ") c ≡ last_piece (ascii " ") c ∷ []
unfolding pieces_from doubled
one_space None y = refl
one_space (Some c) y =
    let long : length c ≤ remark_limit = leb-true (length c) remark_limit y in
    rw (le-leb (suc (suc (suc (suc (suc (length c)))))) text_room (omega arith))

-- the pieces of a string that may be written are sound
pub text_sound : (s : List ℕ) (c : Comment) → is_text s ≡ true → is_comment c ≡ true → is_short remark_limit c ≡ true
    → All Sound (pieces_of s c)
unfolding every is_printable
text_sound s c text remark short =
    ⊎_elim (λ l. pieces_sound (pieces_cut (length s) s c) (string-printable s text) l remark)
    (λ one. subst (λ (t : List ℕ). All Sound (pieces_of t c)) (sym one) (subst (All Sound) (sym (one_space c short))
    (also (record { printable = refl; settles = settled_space; remark = remark }) no_more)))
    (string-end s text)
