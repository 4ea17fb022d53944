-- `card::dotted_name` meets its contract: what was put, with what is still to be put, is the name.
use Prim.Native.Nat.{ℕ, ◌+◌}
use mathlib.Core.Bool.{Bool}
use mathlib.Core.List.{List}
use mathlib.Core.Path.{sym, subst, ◌∙◌}
use lib.ListN.{get_or, set}
use Rattle.text.specs.Text.{size}
use Rattle.text.proofs.Texts.{padded-none}
use Rattle.card.proofs.Naming.{Named, start, at_end, on_blank, on_stop, on_plain}
use Rattle.card.proofs.dotted_name.Goals.{then-gap, else-gap}
use Rattle.card.proofs.dotted_name.Goals as goal

-- what was put, how many bytes, and whether a gap follows them
record Put : Type 0 where
  bytes : List ℕ
  n : ℕ
  gap : Bool

pub loop-b-init : goal.loop-b-init
loop-b-init c = start _ _ (padded-none size)

pub loop-b-preserved-then-is_blank : goal.loop-b-preserved-then-is_blank
loop-b-preserved-then-is_blank c =
    on_blank c.loop-b.invariant c.loop-b-test.true (sym c.is_blank.ensures ∙ c.if-is_blank.true)

pub loop-b-preserved : goal.loop-b-preserved
loop-b-preserved c =
    let s = c.args.s.now in
    let i = c.loop-b.b-index in
    let N = c.loop-b.invariant in
    let plain = sym c.is_blank.ensures ∙ c.if-is_blank.false in
    elim c.if-gap.branch [
      | then-gap w ↦ subst (λ (p : Put). Named s (set p.bytes p.n (get_or s i 0)) (p.n + 1) p.gap (i + 1))
          (λ j. record { bytes = sym w.bytes-is j; n = sym w.n-is j; gap = sym w.gap-is j })
          (on_stop N c.loop-b-test.true w.if-gap.true plain c.requires)
      | else-gap w ↦ subst (λ (p : Put). Named s (set p.bytes p.n (get_or s i 0)) (p.n + 1) p.gap (i + 1))
          (λ j. record { bytes = sym w.bytes-is j; n = sym w.n-is j; gap = sym w.gap-is j })
          (on_plain N c.loop-b-test.true w.if-gap.false plain c.requires)
    ]

pub returns : goal.returns
returns c = at_end c.loop-b.invariant c.loop-b-test.false
