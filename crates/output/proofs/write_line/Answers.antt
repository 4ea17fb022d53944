-- The bytes before the line feed are counted by the one that makes them visible.
use Rattle.std.proofs.Common.{◌≡◌, sym, ap, subst, ◌∙◌, ℕ, ◌+◌, ◌-◌, List, [], ◌∷◌, length, take, length-take, arith}
use Rattle.text.specs.Bytes.{line_feed}
use Rattle.output.specs.Shown.{IsWhole}
use Rattle.output.proofs.Pieces.{escaped-few, counted, before_feed, plain_line_lem, visible_line}
use Rattle.output.proofs.write_line.Goals as goal

pub returns-then-not-escaped : goal.returns-then-not-escaped
returns-then-not-escaped g c =
    let a = c.args in
    let plain = plain_line_lem a.escaped a.line.now c.if-not-escaped.true in
    subst (λ (s : List ℕ). IsWhole c.write.result s) (sym plain) c.write.ensures

pub overflow_add-written : goal.overflow_add-written
overflow_add-written g c =
    let line = c.args.line.now in
    let before = before_feed line c.in_ok-n.was c.write_visibly.ensures c.first_of.ensures c.saturating_sub.ensures in
    let fed : c.in_ok-end.end ≡ 1 = counted (line_feed ∷ []) c.in_ok-end.was c.write-2.ensures in
    record {
      fits = omega (
        arith,
        before,
        fed,
        escaped-few (take (length line - 1) line),
        length-take (length line - 1) line,
        c.if-line-gt-MOST_VISIBLE.false,
      );
    }

pub returns : goal.returns
returns g c =
    let a = c.args in
    let line = a.line.now in
    let before = before_feed line c.in_ok-n.was c.write_visibly.ensures c.first_of.ensures c.saturating_sub.ensures in
    let fed : c.in_ok-end.end ≡ 1 = counted (line_feed ∷ []) c.in_ok-end.was c.write-2.ensures in
    ap (λ (k : ℕ). c.in_ok-n.n + k) fed ∙ visible_line a.escaped line c.if-not-escaped.false before
