-- For every kind of value: what is written is what a lookup answers, and its cards belong to the name, which one of them bears.
use Rattle.std.specs.Prelude.{None, Some}
use Prim.Native.Nat.{ℕ}
use mathlib.Core.Path.{◌≡◌, refl, sym, ap, subst, ◌∙◌}
use mathlib.Core.Logic.{⊎_elim}
use mathlib.Core.Bool.{true, false}
use mathlib.Core.List.{List, [], ◌∷◌, ◌++◌, map}
use lib.ListN.{length}
use Rattle.text.specs.Bytes.{ascii, is_space}
use Rattle.text.specs.Ends.{ends_with}
use Rattle.text.proofs.Comparing.{same_self}
use Rattle.numbers.specs.declared.Value.{Value}
use Rattle.numbers.specs.declared.Value.TheVariants.{String}
use Rattle.roles.specs.Roles.{Comment, Words, Held, Role, entry, role_of}
use Rattle.joining.specs.Words.{ends_open, opens}
use Rattle.joining.specs.Lookup.{join_on, is_open, whole, lookup}
use Rattle.joining.specs.Belonging.{Open, ended}
use Rattle.joining.proofs.Answers.{join_on_shut}
use Rattle.agreeing.specs.Firsts.{times_borne}
use Rattle.writing.specs.Pieces.{Piece, pieces_of}
use Rattle.writing.specs.Written.{written_cards, held_for}
use Rattle.writing.specs.Rules.{is_name, is_writable}
use Rattle.rereading.proofs.Endings.{last_is}
use Rattle.rereading.proofs.Cutting.{head_part, open_text_lem, parts_whole, Cut, pieces_cut, final, goes_on}
use Rattle.rereading.proofs.Roles.{held_string, more_of, roles_for, string_roles}
use Rattle.rereading.proofs.Joining.{words_of, join_pieces_lem}
use Rattle.rereading.proofs.Strings.{string_shut, string-end, one_space, text_sound}
use Rattle.rereading.proofs.Forms.{Formed, written_formed, one-card, string_cards_lem}
use Rattle.rereading.proofs.Owning.{Owns, owns_one}
use Rattle.rereading.proofs.Continued.{owns_string}

-- ---- an entry and what is joined to it

-- an entry behind which nothing bears its name
lookup-here : (n : List ℕ) (v : Held) (h : List Role) → lookup n h ≡ None → lookup n (entry n v ∷ h) ≡ Some (whole v h)
unfolding lookup
lookup-here n v h e = rw (e, same_self n)

-- the same of one that stays shut
lookup_shut : (n : List ℕ) (v : Held) (h : List Role) → is_open v ≡ false → lookup n h ≡ None
    → lookup n (entry n v ∷ h) ≡ Some v
lookup_shut n v h o e =
    lookup-here n v h e
    ∙ ap (λ (w : Words). Some (record { value = v.value; digits = v.digits; words = w })) (join_on_shut v.words o h)

-- CONTINUE cards bear no name
lookup-more : (n : List ℕ) (ps : List Piece) (h : List Role) → lookup n (map more_of ps ++ h) ≡ lookup n h
unfolding lookup
lookup-more n [] h = refl
lookup-more n (p ∷ ps) h = lookup-more n ps h

-- the entry of a string's first piece, joined with the others
lookup-string : (name : List ℕ) {c : Comment} {s : List ℕ} {ps : List Piece} → Cut c s ps → last_is is_space s ≡ false
    → ends_open s ≡ false → (h : List Role) → lookup name h ≡ None
    → lookup name (roles_for name ps ++ h) ≡ Some (held_string s c)
unfolding opens
lookup-string name {c} (final {s}) l o h free = lookup_shut name (held_string s c) h o free
lookup-string name {c} (goes_on {s} {ps} cut) l o h free =
    lookup-here name (held_string (open_text_lem (head_part s)) None) (map more_of ps ++ h) (lookup-more name ps h ∙ free)
    ∙ ap (λ (w : Words). Some (record { value = String; digits = []; words = w }))
    (join_pieces_lem cut (head_part s) (ap (last_is is_space) (parts_whole s) ∙ l) h
    ∙ ap (λ (t : List ℕ). join_on (words_of t c) h) (parts_whole s)
    ∙ join_on_shut (words_of s c) o h)

-- ---- the roles of written cards: one entry that stays shut, or those of a string's pieces
data Roled (name : List ℕ) (c : Comment) : Value → List ℕ → List Role → Type 0 where
  alone : {v : Value} {text : List ℕ} → is_open (held_for v text c) ≡ false
      → Roled name c v text (entry name (held_for v text c) ∷ [])
  in_pieces : {s : List ℕ} {ps : List Piece} → Cut c s ps → last_is is_space s ≡ false → ends_open s ≡ false
      → Roled name c String s (roles_for name ps)

formed_roles : {name : List ℕ} {c : Comment} {v : Value} {text : List ℕ} {cs : List (List ℕ)} → is_name name ≡ true
    → Formed name c v text cs → Roled name c v text (map role_of cs)
unfolding opens ends_open ends_with
formed_roles {name} {c} good (one-card {v} {text} one) =
    subst (λ (r : Role). Roled name c v text (r ∷ [])) (sym one.role) (alone (rw one.unjoined))
formed_roles {name} {c} good (string_cards_lem {s} is remark short) =
    subst (Roled name c String s) (sym (string_roles name good (text_sound s c is remark short)))
    (⊎_elim (λ l. in_pieces (pieces_cut (length s) s c) l (string_shut s is))
    (λ one. subst (λ (t : List ℕ). Roled name c String t (roles_for name (pieces_of t c))) (sym one)
    (subst (λ (ps : List Piece). Roled name c String (ascii " ") (roles_for name ps)) (sym (one_space c short)) (alone refl)))
    (string-end s is))

written_roles : (name : List ℕ) → is_name name ≡ true → (text : List ℕ) (c : Comment) (v : Value) → is_writable v text c ≡ true
    → Roled name c v text (map role_of (written_cards v name text c))
written_roles name good text c v e = formed_roles good (written_formed name good text c v e)

-- ---- so they are answered
answers_roled : {name : List ℕ} {c : Comment} {v : Value} {text : List ℕ} {rs : List Role} → Roled name c v text rs
    → (h : List Role) → lookup name h ≡ None → lookup name (rs ++ h) ≡ Some (held_for v text c)
answers_roled {name} {c} (alone {v} {text} shut) h free = lookup_shut name (held_for v text c) h shut free
answers_roled {name} (in_pieces cut l o) h free = lookup-string name cut l o h free

-- What may be written is answered by the lookup as the same kind, number, digits, text and comment, where no later card bears the
-- name.
pub written_back : (name : List ℕ) → is_name name ≡ true → (text : List ℕ) (c : Comment) (h : List Role) → lookup name h ≡ None
    → (v : Value) → is_writable v text c ≡ true
    → lookup name (map role_of (written_cards v name text c) ++ h) ≡ Some (held_for v text c)
written_back name good text c h free v e = answers_roled (written_roles name good text c v e) h free

-- ---- and they belong to the name
owns_roled : {name : List ℕ} {c : Comment} {v : Value} {text : List ℕ} {rs : List Role} → Roled name c v text rs
    → (q : Open) → (q ≡ ended → ⊥) → Owns name q rs
owns_roled {name} {c} (alone {v} {text} shut) q on = owns_one name (held_for v text c) shut q on
owns_roled {name} (in_pieces cut l o) q on = owns_string name cut l o q on

-- Before END the written cards belong to the name, each of them, and they leave nothing open: `owned-bears` and `owned-rest` say so
-- of the places.
pub written_owned : (name : List ℕ) → is_name name ≡ true → (text : List ℕ) (c : Comment) (q : Open) → (q ≡ ended → ⊥)
    → (v : Value) → is_writable v text c ≡ true → Owns name q (map role_of (written_cards v name text c))
written_owned name good text c q on v e = owns_roled (written_roles name good text c v e) q on

-- ---- and one of them bears it: an entry does, and CONTINUE cards do not
borne_more : (name : List ℕ) (ps : List Piece) → times_borne name (map more_of ps) ≡ 0
unfolding times_borne
borne_more name [] = refl
borne_more name (p ∷ ps) = borne_more name ps

borne_roled : {name : List ℕ} {c : Comment} {v : Value} {text : List ℕ} {rs : List Role} → Roled name c v text rs
    → times_borne name rs ≡ 1
unfolding times_borne
borne_roled {name} (alone shut) = rw (same_self name)
borne_roled {name} (in_pieces final l o) = rw (same_self name)
borne_roled {name} (in_pieces (goes_on {ps = ps} cut) l o) = rw (same_self name, borne_more name ps)

pub written_once : (name : List ℕ) → is_name name ≡ true
    → (text : List ℕ) (c : Comment) (v : Value) → is_writable v text c ≡ true
    → times_borne name (map role_of (written_cards v name text c)) ≡ 1
written_once name good text c v e = borne_roled (written_roles name good text c v e)
