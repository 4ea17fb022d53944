-- Cards of logicals and numbers, by what their texts read as.
use Rattle.std.specs.Prelude.{Ok}
use Prim.Native.Nat.{ℕ, ◌-◌}
use Prim.Native.Char.{code}
use mathlib.Core.Path.{◌≡◌, refl, ap, ◌∙◌}
use mathlib.Core.Bool.{Bool, true, false}
use mathlib.Core.List.{List, [], ◌∷◌, ◌++◌, append_assoc}
use lib.ListN.{length}
use Rattle.text.specs.Bytes.{is_printable, every}
use Rattle.text.specs.Text.{text_of}
use Rattle.text.proofs.Texts.{bytes-text}
use Rattle.numbers.specs.declared.Number.{Number}
use Rattle.numbers.specs.declared.Value.{Value}
use Rattle.numbers.specs.declared.Value.TheVariants.{Logical}
use Rattle.numbers.specs.Numbers.{read_number}
use Rattle.value.specs.declared.ValueRead.{ValueRead}
use Rattle.value.specs.declared.Start.{Start}
use Rattle.value.specs.Values.{keeps_comment, start_of, value_as, of_number, by_start, value_of}
use Rattle.card.specs.Cards.{of_value}
use Rattle.roles.specs.Roles.{Comment, entry, role_of}
use Rattle.writing.specs.Pieces.{tail_of}
use Rattle.writing.specs.Written.{card_from, name_front, truth_text, number_room, justified, plain_text, held_for}
use Rattle.writing.specs.Rules.{is_name_byte, is_name, is_comment}
use Rattle.rereading.proofs.Endings.{every_append, every_weaker, every-spaces}
use Rattle.rereading.proofs.Names.{name-printable}
use Rattle.rereading.proofs.Splitting.{texted, spaced, split_names}
use Rattle.rereading.proofs.Valuing.{by_halves, by_start_lem}
use Rattle.rereading.proofs.Fronts.{spaces, left, card-read}
use Rattle.rereading.proofs.Cutting.{tail_printable}
use Rattle.rereading.proofs.Roles.{value_role}
use Rattle.value.specs.declared.Start.TheVariants.{Number as Numeric}

-- a text of name bytes, among spaces and with its comment, by its first byte
module _ (b : ℕ) (s : List ℕ) (e : every is_name_byte (b ∷ s) ≡ true) (c : Comment) (y : is_comment c ≡ true) where
  -- the spaces in front of it
  abbrev room : ℕ
  room = number_room - length (b ∷ s)

  plain_printable : every is_printable (plain_text (b ∷ s) c) ≡ true
  unfolding justified
  plain_printable =
      every_append is_printable (spaces room ++ (b ∷ s)) (tail_of c)
      (every_append is_printable (spaces room) (b ∷ s) (every-spaces room)
      (every_weaker is_name_byte is_printable name-printable (b ∷ s) e))
      (tail_printable c y)

  plain_spaced : (m : ℕ) → plain_text (b ∷ s) c ++ spaces m ≡ spaced room m ((b ∷ s) ++ tail_of c)
  unfolding justified
  plain_spaced m =
      ap (λ (l : List ℕ). l ++ spaces m) (append_assoc (spaces room) (b ∷ s) (tail_of c))
      ∙ append_assoc (spaces room) ((b ∷ s) ++ tail_of c) (spaces m)

  -- the card of such a text, where its first byte says that it is read as v with text t
  plain_role : (name : List ℕ) → is_name name ≡ true → (v : Value) (t : List ℕ) → keeps_comment v ≡ true
      → ((raw : List ℕ) → by_start (start_of b) (text_of (b ∷ s)) raw (texted c) ≡ Ok (value_as v (text_of t) (texted c)))
      → role_of (card_from (name_front name) (plain_text (b ∷ s) c)) ≡ entry name (held_for v t c)
  plain_role name good v t keeps about =
      let m = left (name_front name) (plain_text (b ∷ s) c) in
      let raw = spaced room m ((b ∷ s) ++ tail_of c) in
      value_role (card_from (name_front name) (plain_text (b ∷ s) c)) name v t c keeps
      (card-read name (plain_text (b ∷ s) c) good plain_printable
      ∙ ap (λ (w : List ℕ). of_value false (text_of name) (value_of w)) (plain_spaced m)
      ∙ ap (of_value false (text_of name))
      (by_halves raw (b ∷ s) c (split_names b s e room m c y) ∙ by_start_lem raw b s (texted c) ∙ about raw))

-- ---- logicals
truth_names : (t : Bool) → every is_name_byte (truth_text t) ≡ true
unfolding every is_name_byte
truth_names true = refl
truth_names false = refl

pub truth_printable : (t : Bool) (c : Comment) → is_comment c ≡ true → every is_printable (plain_text (truth_text t) c) ≡ true
truth_printable true c y = plain_printable (code "T") [] (truth_names true) c y
truth_printable false c y = plain_printable (code "F") [] (truth_names false) c y

pub truth_role : (name : List ℕ) → is_name name ≡ true → (t : Bool) (c : Comment) → is_comment c ≡ true
    → role_of (card_from (name_front name) (plain_text (truth_text t) c)) ≡ entry name (held_for (Logical t) [] c)
unfolding start_of
truth_role name good true c y = plain_role (code "T") [] (truth_names true) c y name good (Logical true) [] refl (λ raw. refl)
truth_role name good false c y = plain_role (code "F") [] (truth_names false) c y name good (Logical false) [] refl (λ raw. refl)

-- ---- numbers: the first byte of the text starts a number, and all its bytes are name bytes
pub data Figures : List ℕ → Type 0 where
  figures : {b : ℕ} {s : List ℕ} → start_of b ≡ Numeric → every is_name_byte (b ∷ s) ≡ true → Figures (b ∷ s)

pub figures_names : {t : List ℕ} → Figures t → every is_name_byte t ≡ true
figures_names (figures first e) = e

module _ (c : Comment) (y : is_comment c ≡ true) where
  pub figures_printable : {t : List ℕ} → Figures t → every is_printable (plain_text t c) ≡ true
  figures_printable (figures {b} {s} first e) = plain_printable b s e c y

  abbrev number_read_lem : Number → ValueRead
  number_read_lem r = value_as r.value r.text (texted c)

  pub figures_role : (name : List ℕ) → is_name name ≡ true → {t : List ℕ} → Figures t → (v : Value) (d : List ℕ)
      → keeps_comment v ≡ true
      → read_number t ≡ record { value = v; text = text_of d }
      → role_of (card_from (name_front name) (plain_text t c)) ≡ entry name (held_for v d c)
  unfolding of_number
  figures_role name good (figures {b} {s} first e) v d keeps is =
      plain_role b s e c y name good v d keeps (λ raw.
      ap (λ (k : Start). by_start k (text_of (b ∷ s)) raw (texted c)) first
      ∙ ap (λ (w : List ℕ). Ok (number_read_lem (read_number w))) (bytes-text (b ∷ s)) ∙ ap (λ (r : Number). Ok (number_read_lem r)) is)
