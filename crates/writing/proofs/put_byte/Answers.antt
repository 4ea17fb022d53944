use Rattle.std.proofs.Common.{arith}
use Prim.Native.Nat.{ℕ}
use native.Mathlib.Numerals.{add-one}
use mathlib.Core.Path.{sym, ap, ◌∙◌}
use lib.ListN.{set, length-set}
use lib.Seq.{sets}
use Rattle.writing.proofs.Cutting.{bytes-some, quote_bytes, other-bytes, quote_twice, other-once}
use Rattle.writing.proofs.put_byte.Goals as goal

pub bounds-block-at : goal.bounds-block-at
bounds-block-at c = omega (arith, bytes-some c.args.b)

pub bounds-block-at-then-b-eq-QUOTE : goal.bounds-block-at-then-b-eq-QUOTE
bounds-block-at-then-b-eq-QUOTE c = simp length-set (omega (arith, quote_bytes c.args.b c.if-b-eq-QUOTE.true))

pub returns-then-b-eq-QUOTE-clause-value : goal.returns-then-b-eq-QUOTE-clause-value
returns-then-b-eq-QUOTE-clause-value c = omega (arith, quote_bytes c.args.b c.if-b-eq-QUOTE.true)

pub returns-then-b-eq-QUOTE-clause-block_after : goal.returns-then-b-eq-QUOTE-clause-block_after
returns-then-b-eq-QUOTE-clause-block_after c =
    let a = c.args in
    ap (λ (k : ℕ). set (set a.block.now a.at a.b) k 39) (add-one a.at)
    ∙ sym (ap (sets a.block.now a.at) (quote_twice a.b c.if-b-eq-QUOTE.true))

pub returns-clause-value : goal.returns-clause-value
returns-clause-value c = omega (arith, other-bytes c.args.b c.if-b-eq-QUOTE.false)

pub returns-clause-block_after : goal.returns-clause-block_after
returns-clause-block_after c = sym (ap (sets c.args.block.now c.args.at) (other-once c.args.b c.if-b-eq-QUOTE.false))
