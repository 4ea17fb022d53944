-- `listing::put_key` meets its contract: the words that are left, stored behind those that are, give all.
use Prim.Native.Nat.{ℕ, ◌+◌, ◌-◌, ◌*◌}
use native.Mathlib.Omega.{arith}
use mathlib.Core.Path.{◌≡◌, sym, ap, ◌∙◌}
use mathlib.Core.List.{List}
use lib.ListN.{take, drop, set, length-set}
use lib.Seq.{sets}
use Rattle.listing.specs.Keys.{word_of, first_words}
use Rattle.listing.proofs.Keying.{key_next, key-end}
use Rattle.listing.proofs.put_key.Goals as goal

pub loop-q-preserved : goal.loop-q-preserved
loop-q-preserved c =
    let a = c.args in
    let l = c.loop-q in
    let word : c.word_of.result ≡ word_of (take 9 (drop (l.q * 9) a.name.now)) =
    c.word_of.ensures ∙ ap word_of (c.first_of.ensures ∙ ap (take 9) c.rest_of.ensures) in
    let stored : ℕ → List ℕ =
    λ w. sets (set l.keys (a.at + l.q) w) (a.at + (l.q + 1)) (first_words (9 - (l.q + 1)) (drop ((l.q + 1) * 9) a.name.now)) in (
      length-set l.keys (a.at + l.q) c.word_of.result ∙ l.invariant.0,
      ap stored word ∙ key_next a.name.now l.keys a.at l.q c.loop-q-test.true ∙ l.invariant.1,
    )

pub returns : goal.returns
returns c =
    let a = c.args in
    let l = c.loop-q in
    sym (key-end a.name.now l.keys a.at l.q l.auto.q-end (omega (arith, c.loop-q-test.false))) ∙ l.invariant.1
