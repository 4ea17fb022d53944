-- `splitting::stretch_of` meets its contract: every byte so far was put as it stands, and the scan is outside a string.
use Prim.Native.Nat.{ℕ, ◌<◌}
use Prim.Native.Char.{code}
use native.Mathlib.Omega.{arith}
use mathlib.Core.Path.{◌≡◌, sym, ap, subst, ◌∙◌}
use mathlib.Core.List.{List}
use lib.ListN.{length}
use Rattle.text.proofs.Printing.{printable_at}
use Rattle.splitting.specs.declared.Quoting.{Quoting}
use Rattle.splitting.specs.declared.Quoting.TheVariants.{Outside, Inside, Closed}
use Rattle.splitting.specs.Scan.{slash, byte_class, move}
use Rattle.splitting.specs.Scanned.{Passed, PassedString}
use Rattle.splitting.proofs.Scanning.{class_quote, class_slash, class_plain}
use Rattle.splitting.proofs.Stretching.{at_end, at_slash, passed}
use Rattle.splitting.proofs.stretch_of.Goals as goal

-- a slash is no quote
slash-alone : (b : ℕ) → b ≡ code "/" → byte_class b ≡ slash
slash-alone b e = class_slash (λ (d : b ≡ code "'"). omega arith) e

-- behind the quote that closes a string another byte stands
closed : (s : List ℕ) (from end : ℕ) → PassedString s from end → end < length s → Passed s Closed end
closed s from end S more = subst (λ (q : Quoting). Passed s q end) (S.closed more) S.passed

pub returns-then-b-eq-SLASH : goal.returns-then-b-eq-SLASH
returns-then-b-eq-SLASH c =
    let more = c.loop-i-test.true in
    (more, at_slash c.loop-i.invariant more (ap (move Outside) (slash-alone _ c.if-b-eq-SLASH.true)))

pub behind_string-end-requires : goal.behind_string-end-requires
behind_string-end-requires c =
    let all = sym c.are_printable.ensures ∙ c.if-not-are_printable.false in (
      passed c.loop-i.invariant c.loop-i-test.true all Inside (ap (move Outside) (class_quote c.if-b-eq-QUOTE.true)),
      all,
      c.requires,
    )

pub returns-then-s-end : goal.returns-then-s-end
returns-then-s-end c = at_end c.behind_string-end.ensures.passed c.if-s-end.true

pub returns-then-next-eq-SLASH : goal.returns-then-next-eq-SLASH
returns-then-next-eq-SLASH c =
    let S = c.behind_string-end.ensures in (
      c.if-s-end.false,
      at_slash (closed _ _ _ S c.if-s-end.false) c.if-s-end.false (ap (move Closed) (slash-alone _ c.if-next-eq-SLASH.true)),
    )

pub loop-i-preserved-then-b-eq-QUOTE : goal.loop-i-preserved-then-b-eq-QUOTE
loop-i-preserved-then-b-eq-QUOTE c =
    let s = c.args.s.now in
    let all = sym c.are_printable.ensures ∙ c.if-not-are_printable.false in
    let more = c.if-s-end.false in
    let plain = class_plain c.if-next-eq-QUOTE.false c.if-next-eq-SLASH.false (printable_at s _ more all) in
    passed (closed s _ _ c.behind_string-end.ensures c.if-s-end.false) more all Outside (ap (move Closed) plain)

pub loop-i-preserved : goal.loop-i-preserved
loop-i-preserved c =
    let s = c.args.s.now in
    let all = sym c.are_printable.ensures ∙ c.if-not-are_printable.false in
    let more = c.loop-i-test.true in
    let plain = class_plain c.if-b-eq-QUOTE.false c.if-b-eq-SLASH.false (printable_at s c.loop-i.i more all) in
    passed c.loop-i.invariant more all Outside (ap (move Outside) plain)

pub returns : goal.returns
returns c = at_end c.loop-i.invariant c.loop-i-test.false
