-- Every written card has 80 printable bytes and is accepted.
use Rattle.std.specs.Prelude.{Err, Ok, Result}
use Prim.Native.Nat.{ℕ}
use mathlib.Core.Path.{◌≡◌, refl, sym, ap, ◌∙◌}
use mathlib.Core.Bool.{Bool, true, false, true≢false}
use mathlib.Core.List.{List, [], ◌∷◌, map}
use Rattle.laws.proofs.Truths.{false≢true}
use Rattle.refusal.specs.declared.Fault.{Fault}
use Rattle.text.specs.Bytes.{is_printable, every}
use Rattle.numbers.specs.declared.Value.{Value}
use Rattle.card.specs.declared.CardRead.{CardRead}
use Rattle.card.specs.Cards.{card_of}
use Rattle.roles.specs.Roles.{Comment, refused, role_read, role_of}
use Rattle.joining.specs.Belonging.{Open, ended, idle, held, Effect, gives, nothing, stops, does, leaves}
use Rattle.writing.specs.Pieces.{piece_text}
use Rattle.writing.specs.Written.{name_front, continue_front, plain_text, written_cards}
use Rattle.writing.specs.Rules.{is_name}
use Rattle.rereading.specs.ReadsBack.{EachIsSound}
use Rattle.rereading.proofs.Lists.{All, all_at, no_more, also}
use Rattle.rereading.proofs.Fronts.{front-printable, continue_printable, card-printable}
use Rattle.rereading.proofs.Cutting.{Sound, piece_printable}
use Rattle.rereading.proofs.Strings.{text_sound}
use Rattle.rereading.proofs.Forms.{Formed, written_formed, one-card, string_cards_lem}
use Rattle.rereading.proofs.Owning.{Owns, gives_one}
use Rattle.rereading.proofs.Answering.{written_owned}
use Rattle.rereading.proofs.Lengths.{IsWhole, string_all, written-whole}

-- ---- printable bytes
abbrev Printable : List ℕ → Type 0
Printable c = every is_printable c ≡ true

formed_printable : {name : List ℕ} {c : Comment} {v : Value} {text : List ℕ} {cs : List (List ℕ)} → is_name name ≡ true
    → Formed name c v text cs → All Printable cs
formed_printable {name} {c} good (one-card {v} {text} {t} one) =
    also (card-printable (name_front name) (plain_text t c) (front-printable name good) one.printable) no_more
formed_printable {name} {c} good (string_cards_lem {s} is remark short) =
    string_all Sound Printable name
    (λ p h. card-printable (name_front name) (piece_text p) (front-printable name good) (piece_printable h))
    (λ p h. card-printable continue_front (piece_text p) continue_printable (piece_printable h)) (text_sound s c is remark short)

-- ---- a card that gives an entry is read
abbrev IsRead : List ℕ → Type 0
IsRead card = (x : CardRead) × (card_of card ≡ Ok x)

abbrev is_gift : Effect → Bool
is_gift (gives e) = true
is_gift nothing = false
is_gift stops = false

-- a refused card gives nothing
gives_nothing : (q : Open) (f : Fault) → is_gift (does q (refused f)) ≡ false
gives_nothing ended f = refl
gives_nothing idle f = refl
gives_nothing (held e) f = refl

read_by : (q : Open) (card : List ℕ) → is_gift (does q (role_of card)) ≡ true → IsRead card
read_by q card e = go (card_of card) refl e
  where
    go : (a : Result CardRead Fault) → card_of card ≡ a → is_gift (does q (role_read a)) ≡ true → IsRead card
    go (Ok x) is e = (x, is)
    go (Err f) is e = absurd (true≢false (sym e ∙ gives_nothing q f))

owned_read : (name : List ℕ) (q : Open) (cs : List (List ℕ)) → Owns name q (map role_of cs) → All IsRead cs
owned_read name q [] o = no_more
owned_read name q (c ∷ cs) (gives_one e d is o) = also (read_by q c (ap is_gift d)) (owned_read name (leaves q (gives e)) cs o)

pub each_is_sound : EachIsSound
each_is_sound name v text c may p less =
    let cs = written_cards v name text c in
    let formed = written_formed name may.named text c v may.allowed in
    let owned = written_owned name may.named text c idle idle_goes v may.allowed in
    let (reading, read) = all_at IsRead [] (owned_read name idle cs owned) p less in
    record {
      whole = all_at IsWhole [] (written-whole name may.named text c v may.allowed) p less;
      printable = all_at Printable [] (formed_printable may.named formed) p less;
      reading = reading;
      read = read;
    }
  where
    is_ended : Open → Bool
    is_ended ended = true
    is_ended idle = false
    is_ended (held e) = false

    idle_goes : idle ≡ ended → ⊥
    idle_goes e = false≢true (ap is_ended e)
