-- Joining the pieces gives the string and its comment.
use Rattle.std.specs.Prelude.{None}
use Prim.Native.Nat.{ℕ}
use Prim.Native.Char.{code}
use mathlib.Core.Path.{◌≡◌, refl, sym, ap, ◌∙◌}
use mathlib.Core.Bool.{true, false}
use mathlib.Core.List.{List, [], ◌∷◌, ◌++◌, append_assoc, append-nil, map}
use Rattle.text.specs.Bytes.{is_space}
use Rattle.text.specs.Trim.{trim_end}
use Rattle.roles.specs.Roles.{Comment, Words, Role, more}
use Rattle.joining.specs.Words.{ends_open, adds_nothing, join_text, join_comment, opens, join_words}
use Rattle.joining.specs.Lookup.{join_on}
use Rattle.writing.specs.Pieces.{Piece}
use Rattle.rereading.proofs.Endings.{last_is, stem-behind, ends_behind, end_kept}
use Rattle.rereading.proofs.Cutting.{last-back, head_part, open_text_lem, parts_behind, Cut, final, goes_on}
use Rattle.rereading.proofs.Roles.{more_of}

-- the words of a string so far
abbrev pub words_of : List ℕ → Comment → Words
words_of s c = record { text = s; comment = c; joins = true }

-- a text that ends in & is open
pub opens-here : (a : List ℕ) (c : Comment) → opens (words_of (open_text_lem a) c) ≡ true
unfolding opens ends_open
opens-here a c = ends_behind a (code "&")

-- a text that ends in & adds something
open_adds : (s : List ℕ) → adds_nothing (open_text_lem s) ≡ false
unfolding adds_nothing is_space
open_adds [] = refl
open_adds (b ∷ []) = refl
open_adds (b ∷ c ∷ s) = refl

-- the last text is put on
pub join_last : (a s : List ℕ) → last_is is_space (a ++ s) ≡ false → join_text (open_text_lem a) s ≡ a ++ s
unfolding join_text adds_nothing last_is is_space
join_last a [] e =
    ap (trim_end is_space) (stem-behind a (code "&"))
    ∙ end_kept is_space a (ap (last_is is_space) (sym (append-nil a)) ∙ e)
    ∙ sym (append-nil a)
join_last a (b ∷ []) e = rw (last-back is_space a (b ∷ []) e, stem-behind a (code "&"))
join_last a (b ∷ c ∷ s) e = rw (stem-behind a (code "&"))

-- and so is one that ends in &
pub join_open : (a s : List ℕ) → join_text (open_text_lem a) (open_text_lem s) ≡ open_text_lem (a ++ s)
unfolding join_text
join_open a s = rw (open_adds s, stem-behind a (code "&"), append_assoc)

step : (a s : List ℕ) (c : Comment) (t : List ℕ) → join_text (open_text_lem a) s ≡ t → (h : List Role)
    → join_on (words_of (open_text_lem a) None) (more s c ∷ h) ≡ join_on (words_of t c) h
unfolding join_on join_words join_comment
step a s c t e h = rw (opens-here a None, e)

-- the pieces joined to a text that ends in &
pub join_pieces_lem : {c : Comment} {s : List ℕ} {ps : List Piece} → Cut c s ps → (a : List ℕ) → last_is is_space (a ++ s) ≡ false
    → (h : List Role) → join_on (words_of (open_text_lem a) None) (map more_of ps ++ h) ≡ join_on (words_of (a ++ s) c) h
join_pieces_lem {c} (final {s}) a e h = step a s c (a ++ s) (join_last a s e) h
join_pieces_lem {c} (goes_on {s} {ps} cut) a e h =
    step a (open_text_lem (head_part s)) None (open_text_lem (a ++ head_part s)) (join_open a (head_part s)) (map more_of ps ++ h)
    ∙ join_pieces_lem cut (a ++ head_part s) (ap (last_is is_space) (parts_behind a s) ∙ e) h
    ∙ ap (λ (t : List ℕ). join_on (words_of t c) h) (parts_behind a s)
