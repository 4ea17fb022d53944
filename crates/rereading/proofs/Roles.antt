-- What a card that is read is to a header, and the written cards of a string.
use Rattle.std.specs.Prelude.{None, Ok, Result, Some}
use Prim.Native.Nat.{ℕ}
use mathlib.Core.Path.{◌≡◌, refl, ap, ap₂, ◌∙◌}
use mathlib.Core.Bool.{true, false}
use mathlib.Core.List.{List, [], ◌∷◌, map}
use Rattle.refusal.specs.declared.Fault.{Fault}
use Rattle.text.specs.declared.Text.{Text}
use Rattle.text.specs.Bytes.{ascii}
use Rattle.text.specs.Text.{text_of, bytes_of}
use Rattle.text.proofs.Texts.{bytes-text}
use Rattle.splitting.specs.declared.Halves.{Halves}
use Rattle.splitting.specs.Split.{split_of}
use Rattle.splitting.specs.Strings.{string_of}
use Rattle.numbers.specs.declared.Value.{Value}
use Rattle.numbers.specs.declared.Value.TheVariants.{String}
use Rattle.value.specs.Values.{keeps_comment, value_as}
use Rattle.card.specs.declared.CardRead.{CardRead}
use Rattle.card.specs.Cards.{of_value, string_card, continued, continuation_of, unplaced_of}
use Rattle.roles.specs.Roles.{Comment, Held, Role, entry, more, comment_read, role_of}
use Rattle.writing.specs.Pieces.{Piece, piece_text}
use Rattle.writing.specs.Written.{card_from, name_front, continue_front, string_cards, held_for}
use Rattle.writing.specs.Rules.{is_name}
use Rattle.rereading.proofs.Lists.{All, no_more, also}
use Rattle.rereading.proofs.Scanning.{within}
use Rattle.rereading.proofs.Splitting.{texted, halves_of_lem, split_quoted}
use Rattle.rereading.proofs.Valuing.{string-within, value-quoted}
use Rattle.rereading.proofs.Fronts.{left, card-read, continue_read, continue_text, role_by_lem}
use Rattle.rereading.proofs.Cutting.{Sound, piece_printable}

-- a comment that was read
comment-back : (c : Comment) → comment_read (texted c) ≡ c
comment-back None = refl
comment-back (Some c) = ap Some (bytes-text c)

-- a card whose value is read with text t and comment c is the entry of its name, with that value, text and comment
pub value_role : (card name : List ℕ) (v : Value) (t : List ℕ) (c : Comment) → keeps_comment v ≡ true
    → unplaced_of card ≡ of_value false (text_of name) (Ok (value_as v (text_of t) (texted c)))
    → role_of card ≡ entry name (held_for v t c)
value_role card name v t c keeps e =
    let read = comment_read (texted c) in
    role_by_lem card e
    ∙ rw keeps (ap (λ (n : List ℕ). entry n (held_for v (bytes_of (text_of t)) read)) (bytes-text name)
    ∙ ap₂ (λ (s : List ℕ) (d : Comment). entry name (held_for v s d)) (bytes-text t) (comment-back c))

-- what a string's entry holds
abbrev pub held_string : List ℕ → Comment → Held
held_string s c = held_for String s c

-- a written card of a string is the entry of its name, its text and its comment
string_role : (name : List ℕ) → is_name name ≡ true → {p : Piece} → Sound p
    → role_of (card_from (name_front name) (piece_text p)) ≡ entry name (held_string p.text p.comment)
string_role name e {p} h =
    let room = left (name_front name) (piece_text p) in
    value_role (card_from (name_front name) (piece_text p)) name String p.text p.comment refl
    (card-read name (piece_text p) e (piece_printable h)
    ∙ ap (of_value false (text_of name)) (value-quoted p.text h.printable h.settles 0 room p.comment h.remark))

-- and a CONTINUE card likewise
abbrev read_by : Result Halves Fault → Result CardRead Fault
read_by h = continued h (text_of (ascii "CONTINUE"))

abbrev string_by : Comment → Result Text Fault → Result CardRead Fault
string_by c r = string_card r (text_of (ascii "CONTINUE")) (texted c)

halves-read : (s : List ℕ) (c : Comment) → read_by (halves_of_lem (within s) c) ≡ string_by c (string_of (within s))
halves-read s c = ap (λ (w : List ℕ). string_by c (string_of w)) (bytes-text (within s))

continue_role : {p : Piece} → Sound p → role_of (card_from continue_front (piece_text p)) ≡ more p.text p.comment
unfolding continuation_of
continue_role {p} h =
    let room = left continue_front (piece_text p) in
    role_by_lem (card_from continue_front (piece_text p))
    (continue_read (piece_text p) (piece_printable h)
    ∙ ap (λ (t : List ℕ). read_by (split_of t)) (continue_text (piece_text p))
    ∙ ap read_by (split_quoted p.text h.printable 2 room p.comment h.remark)
    ∙ halves-read p.text p.comment
    ∙ ap (string_by p.comment) (string-within p.text))
    ∙ ap₂ more (bytes-text _ ∙ h.settles) (comment-back p.comment)

-- the roles of a string's cards
abbrev pub more_of : Piece → Role
more_of p = more p.text p.comment

abbrev pub roles_for : List ℕ → List Piece → List Role
roles_for name [] = []
roles_for name (p ∷ ps) = entry name (held_string p.text p.comment) ∷ map more_of ps

continued_roles : {ps : List Piece} → All Sound ps
    → map role_of (map (λ (q : Piece). card_from continue_front (piece_text q)) ps) ≡ map more_of ps
continued_roles no_more = refl
continued_roles (also h hs) = ap₂ ◌∷◌ (continue_role h) (continued_roles hs)

pub string_roles : (name : List ℕ) → is_name name ≡ true → {ps : List Piece} → All Sound ps
    → map role_of (string_cards name ps) ≡ roles_for name ps
string_roles name e no_more = refl
string_roles name e (also h hs) = ap₂ ◌∷◌ (string_role name e h) (continued_roles hs)
