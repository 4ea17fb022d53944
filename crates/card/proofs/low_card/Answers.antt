-- `card::low_card` meets its contract: by what the keyword says.
use Rattle.std.proofs.Common.{◌≡◌, ◌≤◌, ℕ, List, length, take, sym, ap, ◌∙◌, arith, rules}
use Rattle.std.specs.Prelude.{Ok, Result}
use lib.ListN.{length-take}
use Rattle.refusal.specs.declared.Fault.{Fault}
use Rattle.refusal.specs.Numbers.{answer_placed}
use Rattle.text.specs.declared.Text.{Text}
use Rattle.text.specs.Bytes.{is_blank}
use Rattle.text.specs.Trim.{trim}
use Rattle.text.specs.Text.{size, text_of}
use Rattle.text.proofs.Trimming.{shorter}
use Rattle.text.proofs.Texts.{whole-text}
use Rattle.card.specs.declared.Card.TheVariants as C
use Rattle.card.specs.declared.Class.{Class}
use Rattle.card.specs.declared.Class.TheVariants.{Comment, History, Continue, Xtension, End, Other}
use Rattle.card.specs.declared.CardRead.{CardRead}
use Rattle.card.specs.Keywords.{keyword_of, class_of}
use Rattle.card.specs.Columns.{text_from, column_in}
use Rattle.card.specs.Cards.{card_as, by_class}
use Rattle.card.proofs.low_card.Goals as goal

-- a card by its class, with the column beside its refusal
abbrev columned : Class → Text → List ℕ → Result CardRead Fault
columned k name c = answer_placed (column_in (text_from k c) c) (by_class k name c)

-- the class that an arm knows, and the name, give the card
by : (card s w : List ℕ) (k : Class) {name : Text} {x : Class} → length card ≡ size → name ≡ text_of (take size w)
    → w ≡ trim is_blank s → s ≡ take 8 card → x ≡ class_of w → x ≡ k
    → columned k name card ≡ columned (class_of (keyword_of card)) (text_of (keyword_of card)) card
by card s w k {name = name} long named word part class is =
    let whole : w ≡ keyword_of card = word ∙ ap (trim is_blank) part in
    let short : length (keyword_of card) ≤ size = omega (arith, shorter is_blank (take 8 card), length-take 8 card) in
    ap (λ (x : Class). columned x name card) (sym is ∙ class ∙ ap class_of whole)
    ∙ ap (λ (t : Text). columned (class_of (keyword_of card)) t card)
    (named ∙ ap (λ (l : List ℕ). text_of (take size l)) whole ∙ whole-text (keyword_of card) short)

pub returns-in-Comment : goal.returns-in-Comment
returns-in-Comment c =
    let long : length c.args.card.now ≡ size = search rules in
    ap Ok c.remark.ensures
    ∙ by c.args.card.now _ _ Comment long c.text_of-name.ensures c.trimmed-word.ensures c.first_of.ensures c.class_of.ensures
    c.in-Comment.is

pub returns-in-History : goal.returns-in-History
returns-in-History c =
    let long : length c.args.card.now ≡ size = search rules in
    ap Ok c.remark-in-History.ensures
    ∙ by c.args.card.now _ _ History long c.text_of-name.ensures c.trimmed-word.ensures c.first_of.ensures c.class_of.ensures
    c.in-History.is

pub returns-in-Continue : goal.returns-in-Continue
returns-in-Continue c =
    let long : length c.args.card.now ≡ size = search rules in
    c.continuation.ensures
    ∙ by c.args.card.now _ _ Continue long c.text_of-name.ensures c.trimmed-word.ensures c.first_of.ensures c.class_of.ensures
    c.in-Continue.is

pub returns-in-Xtension : goal.returns-in-Xtension
returns-in-Xtension c =
    let long : length c.args.card.now ≡ size = search rules in
    c.extension.ensures
    ∙ by c.args.card.now _ _ Xtension long c.text_of-name.ensures c.trimmed-word.ensures c.first_of.ensures c.class_of.ensures
    c.in-Xtension.is

pub returns-in-End : goal.returns-in-End
returns-in-End c =
    let long : length c.args.card.now ≡ size = search rules in
    ap Ok (c.read_as.ensures ∙ ap (card_as C.End c.text_of-name.result) c.empty_text.ensures)
    ∙ by c.args.card.now _ _ End long c.text_of-name.ensures c.trimmed-word.ensures c.first_of.ensures c.class_of.ensures
    c.in-End.is

pub returns-in-Other : goal.returns-in-Other
returns-in-Other c =
    let long : length c.args.card.now ≡ size = search rules in
    c.other.ensures
    ∙ by c.args.card.now _ _ Other long c.text_of-name.ensures c.trimmed-word.ensures c.first_of.ensures c.class_of.ensures
    c.in-Other.is
