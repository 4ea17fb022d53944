-- `card::other` meets its contract: by whether "= " follows the keyword.
use Rattle.std.proofs.Common.{◌≡◌, ℕ, List, Bool, true, false, length, take, drop, sym, ap, ◌∙◌, arith, rules}
use Rattle.std.specs.Prelude.{Ok}
use Rattle.refusal.specs.Numbers.{answer_placed}
use Rattle.text.specs.Bytes.{ascii}
use Rattle.text.specs.Same.{same}
use Rattle.text.specs.declared.Text.{Text}
use Rattle.text.specs.Text.{size, text_of}
use Rattle.text.proofs.Texts.{whole-text}
use Rattle.value.specs.Values.{value_from}
use Rattle.card.specs.declared.Card.TheVariants.{Undefined}
use Rattle.card.specs.Columns.{column_in}
use Rattle.card.specs.Cards.{card_as, of_value, other_of}
use Rattle.card.proofs.Placing.{value_in}
use Rattle.card.proofs.other.Goals as goal

-- "= " follows the keyword
abbrev indicated : List ℕ → Bool
indicated c = same (take 2 (drop 8 c)) (ascii "= ")

-- what the test says of the bytes behind the keyword
told : (c s t : List ℕ) {x y : Bool} → x ≡ same s (ascii "= ") → s ≡ take 2 t → t ≡ drop 8 c → x ≡ y → indicated c ≡ y
told c s t e two rest is = sym (e ∙ ap (λ (l : List ℕ). same l (ascii "= ")) (two ∙ ap (take 2) rest)) ∙ is

with-equals : (name : Text) (c : List ℕ) → indicated c ≡ true
    → of_value false name (value_from 10 (drop 10 c)) ≡ answer_placed (column_in 10 c) (other_of name c)
unfolding other_of
with-equals name c e = value_in 10 c false name ∙ rw e

without-equals : (name : Text) (c : List ℕ) → indicated c ≡ false → Ok (card_as Undefined name (text_of c)) ≡ other_of name c
unfolding other_of
without-equals name c e = rw e

pub returns-then-same_bytes : goal.returns-then-same_bytes
returns-then-same_bytes c =
    let a = c.args in
    let e = told a.card.now _ _ c.same_bytes.ensures c.first_of.ensures c.rest_of.ensures c.if-same_bytes.true in
    c.value_card.ensures ∙ with-equals a.name.now a.card.now e

pub returns : goal.returns
returns c =
    let a = c.args in
    let long : length a.card.now ≡ size = search rules in
    let e = told a.card.now _ _ c.same_bytes.ensures c.first_of.ensures c.rest_of.ensures c.if-same_bytes.false in
    ap Ok (c.read_as.ensures ∙ ap (card_as Undefined a.name.now) (c.text_of.ensures ∙ whole-text a.card.now (omega arith)))
    ∙ ap (answer_placed (column_in 10 a.card.now)) (without-equals a.name.now a.card.now e)
