-- `value::value_with` meets its contract: by what the first byte says.
use Rattle.std.proofs.Common.{◌≡◌, ◌≤◌, ℕ, List, length, sym, ap, ◌∙◌, arith}
use Rattle.std.proofs.lemmas.Result.{err_from_is_err_and}
use Rattle.std.specs.Prelude.{Ok, Err, Option, Result}
use lib.ListN.{get_or}
use Rattle.refusal.specs.declared.Fault.{Fault}
use Rattle.refusal.specs.Numbers.{answer_placed}
use Rattle.text.specs.declared.Text.{Text}
use Rattle.text.specs.Text.{text_of, bytes_of}
use Rattle.text.proofs.Texts.{whole-text}
use Rattle.numbers.specs.declared.Number.{Number}
use Rattle.numbers.specs.declared.Value.TheVariants.{Logical, Undefined, Invalid}
use Rattle.numbers.specs.Numbers.{read_number}
use Rattle.splitting.specs.declared.Halves.{Halves}
use Rattle.splitting.specs.Strings.{string_of}
use Rattle.splitting.specs.Columns.{at_byte, string_from}
use Rattle.value.specs.declared.Start.{Start}
use Rattle.value.specs.declared.Start.TheVariants as S
use Rattle.value.specs.declared.ValueRead.{ValueRead}
use Rattle.value.specs.Values.{start_of, value_as, by_quotes, of_string, of_number, by_start, value_with}
use Rattle.value.proofs.Placing.{quotes_placed}
use Rattle.value.proofs.Starts.{with_none, with_some}
use Rattle.value.proofs.value_with.Goals.{in-Quote+in_ok-parse_string-in-Quote, in-Truth, in-Number, in-Else}
use Rattle.value.proofs.value_with.Goals as goal

module _ (h : Halves) (raw : List ℕ) (first : ℕ) where
  -- an answer with the column beside its refusal
  abbrev columned : Result ValueRead Fault → Result ValueRead Fault
  columned r = answer_placed (at_byte first) r

  -- the reading by the first byte that an arm knows is that of the whole
  chosen : (k : Start) {x : Start} → (h.value.len ≡ 0 → ⊥) → h.value.len ≤ length h.value.bytes
      → x ≡ start_of (get_or h.value.bytes 0 0) → x ≡ k
      → columned (by_start k h.value raw h.comment) ≡ columned (value_with h.value raw h.comment)
  chosen k some fits e is =
      ap columned (ap (λ (y : Start). by_start y h.value raw h.comment) (sym is ∙ e) ∙ with_some h.value raw h.comment some fits)

  -- a string as it was read
  quoted : {r q : Result Text Fault} → r ≡ string_from first (bytes_of h.value) → r ≡ q
      → by_quotes q h.comment ≡ columned (by_start S.Quote h.value raw h.comment)
  unfolding of_string
  quoted e is =
      ap (λ (x : Result Text Fault). by_quotes x h.comment) (sym is ∙ e) ∙ quotes_placed first (string_of (bytes_of h.value)) h.comment

  -- a number as it was read
  numbered : {n : Number} → n ≡ read_number (bytes_of h.value)
      → ◌≡◌ {A = Result ValueRead Fault} (Ok (value_as n.value n.text h.comment)) (columned (by_start S.Number h.value raw h.comment))
  unfolding of_number
  numbered e = ap (λ (x : Number). Ok (value_as x.value x.text h.comment)) e

pub returns-then-halves-eq0 : goal.returns-then-halves-eq0
returns-then-halves-eq0 c =
    let a = c.args in
    let h = a.halves.now in
    ap Ok (c.read_as.ensures ∙ ap (λ (t : Text). value_as Undefined t h.comment) c.empty_text.ensures)
    ∙ ap (columned h a.raw.now a.first) (with_none h.value a.raw.now h.comment c.if-halves-eq0.true)

pub returns-in_err-parse_string-in-Quote : goal.returns-in_err-parse_string-in-Quote
returns-in_err-parse_string-in-Quote c =
    let a = c.args in
    let p = err_from_is_err_and c.from_residual.result c.from_residual.ensures.1 in
    p.1
    ∙ ap Err p.2
    ∙ quoted a.halves.now a.raw.now a.first c.parse_string.ensures c.in_err-parse_string-in-Quote.was
    ∙ chosen a.halves.now a.raw.now a.first S.Quote c.if-halves-eq0.false (omega arith) c.start_of.ensures c.in-Quote.is

pub returns-in-Complex : goal.returns-in-Complex
returns-in-Complex c =
    let a = c.args in
    ap Err c.fault_at.ensures
    ∙ chosen a.halves.now a.raw.now a.first S.Complex c.if-halves-eq0.false (omega arith) c.start_of.ensures c.in-Complex.is

pub returns : goal.returns
returns c =
    let a = c.args in
    let h = a.halves.now in
    let raw = a.raw.now in
    let known = λ (k : Start) (e : c.start_of.result ≡ k).
    chosen h raw a.first k c.if-halves-eq0.false (omega arith) c.start_of.ensures e in
    ap Ok c.read_as-2.ensures
    ∙ elim c.match-start_of.branch [
      | in-Quote+in_ok-parse_string-in-Quote w ↦
          (λ j. Ok (value_as (w.value-is j).0 (w.value-is j).1 h.comment))
          ∙ quoted h raw a.first w.parse_string.ensures w.in_ok-parse_string-in-Quote.was
          ∙ known S.Quote w.in-Quote.is
      | in-Truth w ↦
          (λ j. Ok (value_as (w.value-is j).0 (w.value-is j).1 h.comment))
          ∙ ap (λ (x : Text). Ok (value_as (Logical w.in-Truth.t) x h.comment)) w.empty_text-in-Truth.ensures
          ∙ known (S.Truth w.in-Truth.t) w.in-Truth.is
      | in-Number w ↦
          (λ j. Ok (value_as (w.value-is j).0 (w.value-is j).1 h.comment))
          ∙ numbered h raw a.first w.parse_number-number.ensures
          ∙ known S.Number w.in-Number.is
      | in-Else w ↦
          (λ j. Ok (value_as (w.value-is j).0 (w.value-is j).1 h.comment))
          ∙ ap (λ (t : Text). Ok (value_as Invalid t h.comment)) (w.text_of.ensures ∙ whole-text raw c.requires.1)
          ∙ known S.Else w.in-Else.is
    ]
