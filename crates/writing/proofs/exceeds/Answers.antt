use native.Mathlib.Omega.{arith}
use Prim.Native.Nat.{ℕ}
use mathlib.Core.Path.{sym, ap, ◌∙◌}
use lib.Dec.{ltb}
use lib.ListN.{length}
use borrow.Author.Tests.{lt-ltb}
use Rattle.writing.specs.Pieces.{doubled}
use Rattle.writing.proofs.Cutting.{doubled_longer, exceeds_is}
use Rattle.writing.proofs.exceeds.Goals as goal

pub returns-then-room-s : goal.returns-then-room-s
returns-then-room-s c =
    let s = c.args.s.now in
    lt-ltb c.args.room (length s) c.if-room-s.true ∙ sym (lt-ltb c.args.room (length (doubled s)) (omega (arith, doubled_longer s)))

pub returns-else-room-s : goal.returns-else-room-s
returns-else-room-s c =
    let s = c.args.s.now in
    ap (λ (n : ℕ). ltb n (length s)) c.fitting_length.ensures ∙ exceeds_is c.args.room s
