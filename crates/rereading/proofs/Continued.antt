-- The written cards of a string belong to its name, and they leave nothing open.
use Rattle.std.specs.Prelude.{None}
use Prim.Native.Nat.{ℕ}
use mathlib.Core.Path.{◌≡◌, refl, ap, ◌∙◌}
use mathlib.Core.Bool.{false}
use mathlib.Core.List.{List, [], ◌++◌, map}
use Rattle.text.specs.Bytes.{is_space}
use Rattle.roles.specs.Roles.{Comment, Role, more}
use Rattle.joining.specs.Words.{ends_open, join_comment, opens, join_words}
use Rattle.joining.specs.Belonging.{Entry, Open, ended, idle, held, gives, does, leaves}
use Rattle.writing.specs.Pieces.{Piece}
use Rattle.rereading.proofs.Endings.{last_is}
use Rattle.rereading.proofs.Cutting.{head_part, open_text_lem, parts_whole, parts_behind, Cut, final, goes_on}
use Rattle.rereading.proofs.Roles.{held_string, more_of, roles_for}
use Rattle.rereading.proofs.Joining.{opens-here, join_last, join_open}
use Rattle.rereading.proofs.Owning.{Owns, bears-entry, at_end, gives_one}

abbrev entry_of : List ℕ → List ℕ → Comment → Entry
entry_of name s c = record { name = name; value = held_string s c }

module _ (name : List ℕ) where
  -- the last piece, and one that ends in &, joined to what ends in &
  joins-last : (a s : List ℕ) (c : Comment) → last_is is_space (a ++ s) ≡ false
      → does (held (entry_of name (open_text_lem a) None)) (more s c) ≡ gives (entry_of name (a ++ s) c)
  unfolding join_words join_comment
  joins-last a s c l = ap (λ (t : List ℕ). gives (entry_of name t c)) (join_last a s l)

  joins_open : (a s : List ℕ)
      → does (held (entry_of name (open_text_lem a) None)) (more (open_text_lem s) None)
      ≡ gives (entry_of name (open_text_lem (a ++ s)) None)
  unfolding join_words join_comment
  joins_open a s = ap (λ (t : List ℕ). gives (entry_of name t None)) (join_open a s)

  shut_end : (q : Open) (s : List ℕ) (c : Comment) → ends_open s ≡ false → Owns name (leaves q (gives (entry_of name s c))) []
  unfolding opens
  shut_end q s c o = rw o at_end

  still_open : (q : Open) (a : List ℕ) {rs : List Role} → Owns name (held (entry_of name (open_text_lem a) None)) rs
      → Owns name (leaves q (gives (entry_of name (open_text_lem a) None))) rs
  still_open q a o = rw (opens-here a None) o

  owns_more : {c : Comment} {s : List ℕ} {ps : List Piece} → Cut c s ps → (a : List ℕ) → last_is is_space (a ++ s) ≡ false
      → ends_open (a ++ s) ≡ false → Owns name (held (entry_of name (open_text_lem a) None)) (map more_of ps)
  owns_more {c} (final {s}) a l o = gives_one (entry_of name (a ++ s) c) (joins-last a s c l) refl (shut_end idle (a ++ s) c o)
  owns_more (goes_on {s} cut) a l o =
      gives_one (entry_of name (open_text_lem (a ++ head_part s)) None) (joins_open a (head_part s)) refl
      (still_open idle (a ++ head_part s)
      (owns_more cut (a ++ head_part s) (ap (last_is is_space) (parts_behind a s) ∙ l) (ap ends_open (parts_behind a s) ∙ o)))

  pub owns_string : {c : Comment} {s : List ℕ} {ps : List Piece} → Cut c s ps → last_is is_space s ≡ false → ends_open s ≡ false
      → (q : Open) → (q ≡ ended → ⊥) → Owns name q (roles_for name ps)
  owns_string {c} (final {s}) l o q on =
      gives_one (entry_of name s c) (bears-entry name q on (held_string s c)) refl (shut_end q s c o)
  owns_string (goes_on {s} cut) l o q on =
      gives_one (entry_of name (open_text_lem (head_part s)) None)
      (bears-entry name q on (held_string (open_text_lem (head_part s)) None)) refl
      (still_open q (head_part s)
      (owns_more cut (head_part s) (ap (last_is is_space) (parts_whole s) ∙ l) (ap ends_open (parts_whole s) ∙ o)))
