-- `splitting::unquoted` meets its contract, test by test. Assumes nothing.
use Prim.Native.Nat.{ℕ}
use mathlib.Core.Path.{◌≡◌, ◌∙◌, ap, sym}
use mathlib.Core.List.{List}
use Rattle.std.specs.Prelude.{Result, Ok, Err}
use Rattle.refusal.specs.declared.Fault.{Fault}
use Rattle.refusal.specs.Numbers.{answer_placed}
use Rattle.text.specs.declared.Text.{Text}
use Rattle.splitting.specs.Strings.{settled_of, string_of}
use Rattle.splitting.specs.Columns.{at_byte, string_from}
use Rattle.splitting.proofs.Stringing.{empty, lone, quoted, unclosed, unopened_quote, plain_text_lem}
use Rattle.splitting.proofs.unquoted.Goals as goal

abbrev a-string : Text → Result Text Fault
a-string t = Ok t

-- what a law says of the string, with the column beside a refusal
placed : (first : ℕ) (s : List ℕ) {r : Result Text Fault} → string_of s ≡ r → answer_placed (at_byte first) r ≡ string_from first s
placed first s e = ap (answer_placed (at_byte first)) (sym e)

pub returns-then-n-eq0 : goal.returns-then-n-eq0
unfolding string_of settled_of
returns-then-n-eq0 c =
    let a = c.args in
    ap a-string c.empty_text.ensures ∙ ap (string_from a.first) (sym (empty a.s.now c.if-n-eq0.true))

pub returns-then-n-eq1 : goal.returns-then-n-eq1
returns-then-n-eq1 c =
    let quote = c in
    let a = quote.args in
    ap Err c.fault_at.ensures
    ∙ placed a.first a.s.now (lone a.s.now c.if-n-eq1.true quote.if-s-eq-QUOTE.true)

pub returns-then-s-n-eq-QUOTE : goal.returns-then-s-n-eq-QUOTE
returns-then-s-n-eq-QUOTE c =
    let last = c in
    let quote = last in
    let a = quote.args in
    ap a-string c.settled.ensures
    ∙ placed a.first a.s.now
    (quoted a.s.now quote.if-n-eq0.false last.if-n-eq1.false quote.if-s-eq-QUOTE.true last.if-s-n-eq-QUOTE.true)

pub returns-then-s-eq-QUOTE : goal.returns-then-s-eq-QUOTE
returns-then-s-eq-QUOTE c =
    let last = c in
    let quote = last in
    let a = quote.args in
    ap Err c.fault_at-then-s-eq-QUOTE.ensures
    ∙ placed a.first a.s.now
    (unclosed a.s.now quote.if-n-eq0.false last.if-n-eq1.false quote.if-s-eq-QUOTE.true last.if-s-n-eq-QUOTE.false)

pub returns-then-s-n-eq-QUOTE-2 : goal.returns-then-s-n-eq-QUOTE-2
returns-then-s-n-eq-QUOTE-2 c =
    let bare = c in
    let a = bare.args in
    ap Err c.fault_at-then-s-n-eq-QUOTE-2.ensures
    ∙ placed a.first a.s.now
    (unopened_quote a.s.now bare.if-n-eq0.false bare.if-s-eq-QUOTE.false c.if-s-n-eq-QUOTE-2.true)

pub returns : goal.returns
returns c =
    let bare = c in
    let a = bare.args in
    ap a-string c.settled-2.ensures
    ∙ placed a.first a.s.now (plain_text_lem a.s.now bare.if-n-eq0.false bare.if-s-eq-QUOTE.false c.if-s-n-eq-QUOTE-2.false)
