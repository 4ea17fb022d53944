-- `naming::write_name` meets its contract: by whether the name fits.
use Rattle.std.proofs.Common.{◌≡◌, ◌<◌, ◌≤◌, ℕ, List, length, ap, ◌∙◌, arith}
use Rattle.std.specs.Prelude.{Ok}
use lib.Seq.{sets}
use Rattle.refusal.specs.declared.Fault.{Fault}
use Rattle.text.specs.Text.{bytes_of}
use Rattle.naming.specs.Naming.{naming_by, unnamed}
use Rattle.naming.proofs.Reading.{fits, short}
use Rattle.naming.proofs.write_name.Goals as goal

pub returns-then-name-n : goal.returns-then-name-n
returns-then-name-n c =
    let name = c.args.name.now in
    let own = bytes_of c.args.own in
    let e = ap length c.as_slice-part.ensures.bytes in
    let long : length name < length own = omega (arith, e, c.if-name-n.true) in
    ap (λ (f : Fault). unnamed f name) c.fault_of.ensures ∙ short own name long

pub returns : goal.returns
returns c =
    let name = c.args.name.now in
    let own = bytes_of c.args.own in
    let is = c.as_slice-part.ensures.bytes in
    let room : length own ≤ length name = let e = ap length is in omega (arith, e, c.if-name-n.false) in
    (λ j. naming_by (Ok (length (is j))) (c.put_at.ensures j))
    ∙ ap (λ (s : List ℕ). naming_by (Ok (length own)) (sets name 0 s)) is
    ∙ fits own name room
