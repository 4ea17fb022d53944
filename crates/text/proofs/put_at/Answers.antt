-- `text::put_at` meets its contract: what there is room for is stored in one part.
use Prim.Native.Nat.{◌+◌, ◌-◌, ◌≤◌}
use native.Mathlib.Omega.{arith}
use mathlib.Core.Path.{sym, ap, ◌∙◌}
use lib.ListN.{length, length-take}
use lib.Seq.{sets}
use Rattle.text.proofs.Laying.{sets_past, sets-room, stored_part}
use Rattle.text.proofs.put_at.Goals as goal

pub returns-then-out-at : goal.returns-then-out-at
returns-then-out-at c = let a = c.args in sym (sets_past a.s.now a.out.now a.at c.if-out-at.true)

pub returns : goal.returns
returns c =
    let a = c.args in
    let s = a.s.now in
    let d = a.out.now in
    let fits : a.at + length c.first_of-part.result.now ≤ length d =
    omega (arith, ap length c.first_of-part.ensures, length-take (length d - a.at) s) in
    rw c.copy_from_slice.ensures.after (stored_part c.first_of-part.result.now d a.at fits)
    ∙ ap (sets d a.at) c.first_of-part.ensures
    ∙ sets-room s d a.at (length d - a.at) (omega arith)
