-- The pieces of a string: nothing is lost, and each is sound.
use Rattle.std.specs.Prelude.{None, Some}
use Prim.Native.Nat.{ℕ, zero, suc, ◌-◌}
use Prim.Native.Char.{code}
use mathlib.Core.Path.{◌≡◌, refl, sym, ap, ◌∙◌}
use mathlib.Core.Bool.{Bool, true, false, cond}
use mathlib.Core.List.{List, [], ◌∷◌, ◌++◌, append_assoc}
use lib.Dec.{eqb, leb}
use Rattle.text.specs.Bytes.{ascii, is_space, is_printable, every}
use Rattle.splitting.specs.Strings.{settled_of}
use Rattle.roles.specs.Roles.{Comment}
use Rattle.writing.specs.Pieces.{doubled, quoted, tail_of, bytes_for, fitting, leftover, Piece, piece_text, open_room, fits, last_piece}
use Rattle.writing.specs.Pieces.{open_piece, pieces_from}
use Rattle.writing.specs.Rules.{is_comment}
use Rattle.rereading.proofs.Lists.{All, no_more, also}
use Rattle.rereading.proofs.Endings.{every_first, every_rest, every_append, last_is, last-behind}
use Rattle.rereading.proofs.Splitting.{remark_printable}
use Rattle.rereading.proofs.Valuing.{settled_kept}

-- ---- what fits and what is left are the whole
cut-whole : (n : ℕ) (s : List ℕ) → fitting n s ++ leftover n s ≡ s
unfolding fitting leftover
cut-whole n [] = refl
cut-whole n (b ∷ s) = go (leb (bytes_for b) n) (cut-whole (n - bytes_for b) s)
  where
    go : (u : Bool) → fitting (n - bytes_for b) s ++ leftover (n - bytes_for b) s ≡ s
        → cond u (b ∷ fitting (n - bytes_for b) s) [] ++ cond u (leftover (n - bytes_for b) s) (b ∷ s) ≡ b ∷ s
    go true h = ap (λ (l : List ℕ). b ∷ l) h
    go false h = refl

every_front : (p : ℕ → Bool) (s t : List ℕ) → every p (s ++ t) ≡ true → every p s ≡ true
unfolding every
every_front p [] t e = refl
every_front p (b ∷ s) t e = rw (every_first p b (s ++ t) e, every_front p s t (every_rest p b (s ++ t) e))

every_back : (p : ℕ → Bool) (s t : List ℕ) → every p (s ++ t) ≡ true → every p t ≡ true
every_back p [] t e = e
every_back p (b ∷ s) t e = every_back p s t (every_rest p b (s ++ t) e)

pub last-back : (p : ℕ → Bool) (s t : List ℕ) → last_is p (s ++ t) ≡ false → last_is p t ≡ false
unfolding last_is
last-back p s [] e = refl
last-back p s (b ∷ t) e = sym (last-behind p s b t) ∙ e

-- ---- what stands on a card that goes on, and what is left for the cards behind it
abbrev pub head_part : List ℕ → List ℕ
head_part s = fitting open_room s

abbrev pub rest_part : List ℕ → List ℕ
rest_part s = leftover open_room s

-- a text that ends in &
abbrev pub open_text_lem : List ℕ → List ℕ
open_text_lem s = s ++ ascii "&"

pub parts_whole : (s : List ℕ) → head_part s ++ rest_part s ≡ s
parts_whole s = cut-whole open_room s

pub parts_behind : (a s : List ℕ) → (a ++ head_part s) ++ rest_part s ≡ a ++ s
parts_behind a s = append_assoc a (head_part s) (rest_part s) ∙ ap (λ (l : List ℕ). a ++ l) (parts_whole s)

module _ (p : ℕ → Bool) (s : List ℕ) where
  head-every : every p s ≡ true → every p (head_part s) ≡ true
  head-every e = every_front p (head_part s) (rest_part s) (ap (every p) (parts_whole s) ∙ e)

  rest-every : every p s ≡ true → every p (rest_part s) ≡ true
  rest-every e = every_back p (head_part s) (rest_part s) (ap (every p) (parts_whole s) ∙ e)

  rest-last : last_is p s ≡ false → last_is p (rest_part s) ≡ false
  rest-last e = last-back p (head_part s) (rest_part s) (ap (last_is p) (parts_whole s) ∙ e)

-- ---- a string in pieces: one alone, or one that goes on before those of the rest
pub data Cut (c : Comment) : List ℕ → List Piece → Type 0 where
  final : {s : List ℕ} → Cut c s (last_piece s c ∷ [])
  goes_on : {s : List ℕ} {ps : List Piece} → Cut c (rest_part s) ps → Cut c s (open_piece s ∷ ps)

pub pieces_cut : (n : ℕ) (s : List ℕ) (c : Comment) → Cut c s (pieces_from n s c)
unfolding pieces_from
pieces_cut zero s c = final
pieces_cut (suc n) s c = go (fits (last_piece s c)) (pieces_cut n (rest_part s) c)
  where
    go : (u : Bool) → Cut c (rest_part s) (pieces_from n (rest_part s) c)
        → Cut c s (cond u (last_piece s c ∷ []) (open_piece s ∷ pieces_from n (rest_part s) c))
    go true later = final
    go false later = goes_on later

-- ---- sound pieces: printable, settled, with a comment that may be written
pub record Sound (p : Piece) : Type 0 where
  pub printable : every is_printable p.text ≡ true
  pub settles : settled_of p.text ≡ p.text
  pub remark : is_comment p.comment ≡ true

open_sound : (s : List ℕ) → every is_printable s ≡ true → Sound (open_piece s)
unfolding every is_printable last_is is_space
open_sound s e =
    record {
      printable = every_append is_printable (head_part s) (ascii "&") (head-every is_printable s e) refl;
      settles = settled_kept (open_text_lem (head_part s)) (last-behind is_space (head_part s) (code "&") []);
      remark = refl;
    }

pub pieces_sound : {c : Comment} {s : List ℕ} {ps : List Piece} → Cut c s ps → every is_printable s ≡ true
    → last_is is_space s ≡ false
    → is_comment c ≡ true → All Sound ps
pieces_sound (final {s}) e l y = also (record { printable = e; settles = settled_kept s l; remark = y }) no_more
pieces_sound (goes_on {s} cut) e l y =
    also (open_sound s e) (pieces_sound cut (rest-every is_printable s e) (rest-last is_space s l) y)

-- ---- a piece's text is printable
doubled-printable : (s : List ℕ) → every is_printable s ≡ true → every is_printable (doubled s) ≡ true
unfolding doubled every is_printable
doubled-printable [] e = refl
doubled-printable (b ∷ s) e = go (eqb b (code "'")) (doubled-printable s (every_rest is_printable b s e))
  where
    go : (u : Bool) → every is_printable (doubled s) ≡ true
        → every is_printable (cond u (code "'" ∷ code "'" ∷ doubled s) (b ∷ doubled s)) ≡ true
    go true h = h
    go false h = rw (every_first is_printable b s e, h)

pub tail_printable : (c : Comment) → is_comment c ≡ true → every is_printable (tail_of c) ≡ true
unfolding every is_printable
tail_printable None y = refl
tail_printable (Some c) y = remark_printable c y

pub piece_printable : {p : Piece} → Sound p → every is_printable (piece_text p) ≡ true
unfolding every is_printable
piece_printable {p} h =
    every_append is_printable (quoted p.text) (tail_of p.comment)
    (every_append is_printable (doubled p.text) (ascii "'") (doubled-printable p.text h.printable) refl)
    (tail_printable p.comment h.remark)
