-- `abi_card::fill` meets its contract: each part is stored where the one before it ends, and the four are as long as the record.
use native.Mathlib.Omega.{arith}
use mathlib.Core.Path.{◌≡◌, ◌∙◌}
use mathlib.Core.List.{◌++◌}
use lib.ListN.{length, length-append}
use borrow.Author.Rules.{rules}
use Rattle.text.proofs.Laying.{sets_behind, sets_all}
use Rattle.abi_card.proofs.fill.Goals as goal

pub returns : goal.returns
returns c =
    let fourth = c in
    let third = fourth in
    let second = third in
    let first = second in
    let start = first in
    let o = start.args.out.now in
    let a = start.args.front.now in
    let b = start.args.name.now in
    let t = start.args.text.now in
    let d = start.args.comment.now in
    let la : 8 ≡ length a = search rules in
    let lb : length b ≡ 80 = search rules in
    let lt : length t ≡ 80 = search rules in
    let ld : length d ≡ 80 = search rules in
    let l₂ = length-append a b in
    let l₃ = length-append (a ++ b) t in
    let l₄ = length-append (a ++ b ++ t) d in
    let p₂ = sets_behind o a b first.put_at.ensures la second.put_at-2.ensures in
    let p₃ = sets_behind o (a ++ b) t p₂ (omega arith) third.put_at-3.ensures in
    let p₄ = sets_behind o (a ++ b ++ t) d p₃ (omega arith) fourth.put_at-4.ensures in
    p₄ ∙ sets_all (a ++ b ++ t ++ d) o (omega (arith, start.requires))
