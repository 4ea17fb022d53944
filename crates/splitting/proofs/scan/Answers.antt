-- `splitting::scan` meets its contract: each arm makes the move of its state and of the byte's class.
use mathlib.Core.Path.{◌≡◌, sym, ap, ap₂, ◌∙◌}
use lib.ListN.{get_or}
use Rattle.splitting.specs.declared.Quoting.TheVariants.{Inside}
use Rattle.splitting.specs.Scan.{byte_class, move, puts}
use Rattle.text.specs.Text.{size}
use Rattle.text.proofs.Texts.{padded-none}
use Rattle.splitting.proofs.Scanning.{class_quote, class_slash, class_plain, class_odd, inside-other}
use Rattle.splitting.proofs.Scanning.{start, at_end, on_ends, on_refused, on_passes, on_puts}
use Rattle.splitting.proofs.scan.Goals.{in-Outside+then-b-eq-QUOTE, in-Inside+then-b-eq-QUOTE-2, in-Inside+else-b-eq-QUOTE-2}
use Rattle.splitting.proofs.scan.Goals.{in-Outside+else-b-eq-QUOTE+else-b-eq-SLASH+else-not-is_printable}
use Rattle.splitting.proofs.scan.Goals.{in-Closed+else-b-eq-QUOTE-3+else-b-eq-SLASH-2+then-is_printable}
use Rattle.splitting.proofs.scan.Goals.{in-Closed+else-b-eq-QUOTE-3+else-b-eq-SLASH-2+else-is_printable}
use Rattle.splitting.proofs.scan.Goals as goal

pub loop-i-init : goal.loop-i-init
loop-i-init c = rw (← padded-none size) at (start c.args.s.now)

pub loop-i-preserved-then-b-eq-QUOTE-3 : goal.loop-i-preserved-then-b-eq-QUOTE-3
loop-i-preserved-then-b-eq-QUOTE-3 c =
    on_passes c.loop-i.invariant c.loop-i-test.true Inside (ap₂ move c.in-Closed.is (class_quote c.if-b-eq-QUOTE-3.true))

pub loop-i-preserved : goal.loop-i-preserved
loop-i-preserved c =
    let put-so : move c.loop-i.state (byte_class (get_or c.args.s.now c.loop-i.i 0)) ≡ puts c.match-state.state =
    elim c.match-state.branch [
      | in-Outside+then-b-eq-QUOTE w ↦
          ap₂ move w.in-Outside.is (class_quote w.if-b-eq-QUOTE.true) ∙ ap puts (sym w.state-is)
      | in-Outside+else-b-eq-QUOTE+else-b-eq-SLASH+else-not-is_printable w ↦
          ap₂ move w.in-Outside.is
          (class_plain w.if-b-eq-QUOTE.false w.if-b-eq-SLASH.false (sym w.is_printable.ensures ∙ w.if-not-is_printable.false))
          ∙ ap puts (sym (w.state-is ∙ w.in-Outside.is))
      | in-Inside+then-b-eq-QUOTE-2 w ↦
          ap₂ move w.in-Inside.is (class_quote w.if-b-eq-QUOTE-2.true) ∙ ap puts (sym w.state-is)
      | in-Inside+else-b-eq-QUOTE-2 w ↦
          inside-other w.if-b-eq-QUOTE-2.false _ w.in-Inside.is ∙ ap puts (sym (w.state-is ∙ w.in-Inside.is))
      | in-Closed+else-b-eq-QUOTE-3+else-b-eq-SLASH-2+then-is_printable w ↦
          ap₂ move w.in-Closed.is
          (class_plain w.if-b-eq-QUOTE-3.false w.if-b-eq-SLASH-2.false (sym w.is_printable-in-Closed.ensures ∙ w.if-is_printable.true))
          ∙ ap puts (sym w.state-is)
      | in-Closed+else-b-eq-QUOTE-3+else-b-eq-SLASH-2+else-is_printable w ↦
          ap₂ move w.in-Closed.is
          (class_odd w.if-b-eq-QUOTE-3.false w.if-b-eq-SLASH-2.false (sym w.is_printable-in-Closed.ensures ∙ w.if-is_printable.false))
          ∙ ap puts (sym (w.state-is ∙ w.in-Closed.is))
    ] in
    on_puts c.loop-i.invariant c.loop-i-test.true c.match-state.state c.replaced.result c.requires put-so c.replaced.ensures

pub returns-after-loop-i : goal.returns-after-loop-i
returns-after-loop-i c = at_end c.loop-i.invariant c.loop-i-test.false

pub returns-then-b-eq-SLASH : goal.returns-then-b-eq-SLASH
returns-then-b-eq-SLASH c =
    on_ends c.loop-i.invariant c.loop-i-test.true (ap₂ move c.in-Outside.is (class_slash c.if-b-eq-QUOTE.false c.if-b-eq-SLASH.true))

pub returns-then-not-is_printable : goal.returns-then-not-is_printable
returns-then-not-is_printable c =
    let refuses = sym c.is_printable.ensures ∙ c.if-not-is_printable.true in
    on_refused c.loop-i.invariant c.loop-i-test.true
    (ap₂ move c.in-Outside.is (class_odd c.if-b-eq-QUOTE.false c.if-b-eq-SLASH.false refuses))

pub returns-then-b-eq-SLASH-2 : goal.returns-then-b-eq-SLASH-2
returns-then-b-eq-SLASH-2 c =
    on_ends c.loop-i.invariant c.loop-i-test.true (ap₂ move c.in-Closed.is (class_slash c.if-b-eq-QUOTE-3.false c.if-b-eq-SLASH-2.true))
