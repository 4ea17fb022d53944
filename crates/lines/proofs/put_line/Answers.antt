use Rattle.std.specs.Prelude.{Some}
use Prim.Native.Nat.{◌+◌}
use native.Mathlib.Omega.{arith}
use mathlib.Core.Path.{◌≡◌, ap, ◌∙◌}
use mathlib.Core.List.{[], ◌∷◌, ◌++◌}
use lib.ListN.{length, length-append}
use lib.Seq.{sets}
use Rattle.text.specs.Bytes.{line_feed}
use Rattle.text.specs.Text.{bytes_of}
use Rattle.text.proofs.Laying.{sets_behind}
use Rattle.lines.specs.Lines.{line_outcome}
use Rattle.lines.proofs.Segmenting.{laid-short, laid-fits, length_segments}
use Rattle.lines.proofs.put_line.Goals as goal

pub returns-then-out-end-clause-out_after : goal.returns-then-out-end-clause-out_after
returns-then-out-end-clause-out_after c =
    let a = c.args in
    let line = bytes_of a.a ++ bytes_of a.b ++ a.middle.now ++ bytes_of a.d ++ line_feed ∷ [] in
    let parts = length_segments (bytes_of a.a) (bytes_of a.b) a.middle.now (bytes_of a.d) (line_feed ∷ []) in
    let x = ap length c.as_slice-first.ensures.bytes in
    let y = ap length c.as_slice-second.ensures.bytes in
    let z = ap length c.as_slice-last.ensures.bytes in
    laid-short line a.out.now (omega (arith, parts, x, y, z))

pub returns-clause-out_after : goal.returns-clause-out_after
returns-clause-out_after c =
    let a = c.args in
    let d = a.out.now in
    let x = bytes_of a.a in
    let y = bytes_of a.b in
    let m = a.middle.now in
    let z = bytes_of a.d in
    let line = x ++ y ++ m ++ z ++ line_feed ∷ [] in
    let parts = length_segments x y m z (line_feed ∷ []) in
    let e₁ = ap length c.as_slice-first.ensures.bytes in
    let e₂ = ap length c.as_slice-second.ensures.bytes in
    let e₄ = ap length c.as_slice-last.ensures.bytes in
    let l₂ = length-append x y in
    let l₃ = length-append (x ++ y) m in
    let l₄ = length-append (x ++ y ++ m) z in
    let p₁ = c.put_at.ensures ∙ ap (sets d 0) c.as_slice-first.ensures.bytes in
    let p₂ = sets_behind d x y p₁ e₁
    (c.put_at-2.ensures ∙ ap (sets c.put_at.new.out (length c.as_slice-first.result.now)) c.as_slice-second.ensures.bytes) in
    let p₃ = sets_behind d (x ++ y) m p₂ (omega arith) c.put_at-3.ensures in
    let p₄ = sets_behind d (x ++ y ++ m) z p₃ (omega arith)
    (c.put_at-4.ensures
    ∙ ap
    (sets c.put_at-3.new.out (length c.as_slice-first.result.now + length c.as_slice-second.result.now + length m))
    c.as_slice-last.ensures.bytes) in
    let p₅ = sets_behind d (x ++ y ++ m ++ z) (line_feed ∷ []) p₄ (omega arith) c.put_at-5.ensures in
    let n : length c.as_slice-first.result.now + length c.as_slice-second.result.now + length m + length c.as_slice-last.result.now + 1
    ≡ length line = omega (arith, parts, e₁, e₂, e₄) in
    (λ j. line_outcome (Some (n j)) (p₅ j)) ∙ laid-fits line d (omega (arith, parts, e₁, e₂, e₄))
