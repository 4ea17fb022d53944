-- What is written of a text and what is left of it make the whole.
use Rattle.std.proofs.Common.{◌≡◌, ap, ◌∙◌, ℕ, ◌+◌, ◌/◌, ◌≤◌, List, [], length, take, length-take, length-append, arith, rules}
use lib.Seq.{take_all}
use lib.ListN.{drop_of_length-le}
use Rattle.std.specs.Slice.Iter.{chunks_rest}
use Rattle.escaping.specs.Escaping.{escaped, EscapeOutcome}
use Rattle.output.proofs.Pieces.{escaped-few, piece_counted, nothing_left, counted}
use Rattle.output.proofs.write_visibly.Goals as goal

pub loop-part-preserved : goal.loop-part-preserved
loop-part-preserved g c =
    let v = c.loop-part.invariant in
    let part = c.in-Some.part.now in
    let left = chunks_rest c.loop-part.part-iterator in
    let rest = chunks_rest c.next.new.self in
    let steps = c.in-Some.ensures.steps in
    let made = c.escape-made in
    -- the piece is made of all of the part
    let few : length part ≤ 256 = omega (arith, steps.1.1, v.0) in
    let quarter : length c.loop-part.piece / 4 ≡ 256 = omega (arith, v.2) in
    let all : take (length c.loop-part.piece / 4) part ≡ part = ap (λ (n : ℕ). take n part) quarter ∙ take_all 256 part few in
    let put : made.result.put ≡ length (escaped part) =
    ap (λ (x : EscapeOutcome). x.put) made.ensures ∙ ap (λ (l : List ℕ). length (escaped l)) all in
    -- all of it was written
    let same : length made.new.out ≡ length c.loop-part.piece = search rules in
    let handed = counted c.first_of.result.now c.in_ok-n.was c.write.ensures in
    let held = ap length c.first_of.ensures ∙ length-take made.result.put made.new.out in
    let wrote : c.in_ok-n.n ≡ length (escaped part) = omega (arith, handed, held, same, v.2, put, escaped-few part, few) in
    let long : length left ≡ length part + length rest = ap length steps.1.0 ∙ length-append part rest in (
      steps.0 ∙ v.0,
      omega (arith, long, wrote, escaped-few part, v.1),
      search rules,
      omega (arith, wrote, piece_counted left part rest steps.1.0, v.3),
    )

pub returns : goal.returns
returns g c =
    let left = chunks_rest c.loop-part.part-iterator in
    let none : left ≡ [] = drop_of_length-le left {i = 0} (omega (arith, c.in-None.ensures.steps.1.0)) in
    omega (arith, ap (λ (l : List ℕ). length (escaped l)) none ∙ nothing_left, c.loop-part.invariant.3)
