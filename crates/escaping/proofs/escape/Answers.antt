-- `escaping::escape` meets its contract: the bytes up to the one at hand are put, and putting the rest of the part gives the whole.
use Prim.Native.Nat.{ℕ, ◌+◌, ◌≤◌}
use native.Mathlib.Omega.{arith}
use mathlib.Core.Path.{◌≡◌, sym, ap, ap₂, ◌∙◌}
use mathlib.Core.List.{List}
use borrow.Author.Rules.{rules}
use lib.ListN.{length, drop, get_or, drop_of_length-le}
use lib.Seq.{sets}
use Rattle.escaping.specs.Escaping.{escaped, escaped_in}
use Rattle.escaping.proofs.Showing.{byte-few, put_next, count_next, at_the_end, stored_all}
use Rattle.escaping.proofs.escape.Goals as goal

pub overflow_add-put : goal.overflow_add-put
overflow_add-put c =
    let few : c.put_byte-put.result ≤ 4 =
    rw c.put_byte-put.ensures.value (byte-few (get_or c.first_of-part.result.now c.loop-b.b-index 0)) in
    record { fits = omega (arith, few, c.loop-b.invariant.few, c.loop-b.invariant.room, c.loop-b-test.true) }

pub loop-b-preserved : goal.loop-b-preserved
loop-b-preserved c =
    let l = c.loop-b in
    let part = c.first_of-part.result.now in
    let i = l.b-index in
    let n = c.put_byte-put.ensures.value in
    let few : c.put_byte-put.result ≤ 4 = rw n (byte-few (get_or part i 0)) in
    record {
      few = omega (arith, few, l.invariant.few);
      same = search rules;
      room = l.invariant.room;
      content = ap₂ (λ (d : List ℕ) (k : ℕ). sets d (l.put + k) (escaped (drop (i + 1) part))) c.put_byte-put.ensures.out_after n
          ∙ put_next part l.out i l.put c.loop-b-test.true
          ∙ l.invariant.content;
      count = omega (arith, n, count_next part i c.loop-b-test.true, l.invariant.count);
    }

pub returns : goal.returns
returns c =
    let l = c.loop-b in
    let a = c.args in
    let part = c.first_of-part.result.now in
    let none = drop_of_length-le part {i = l.b-index} c.loop-b-test.false in
    let put : l.put ≡ length (escaped part) =
    at_the_end (sym (ap (λ (r : List ℕ). l.put + length (escaped r)) none) ∙ l.invariant.count) in
    let content : l.out ≡ sets a.out.now 0 (escaped part) =
    stored_all l.out l.put ∙ sym (ap (λ (r : List ℕ). sets l.out l.put (escaped r)) none) ∙ l.invariant.content in
    (λ j. record { taken = length part; put = put j; content = content j })
    ∙ ap (λ (r : List ℕ). escaped_in r a.out.now) c.first_of-part.ensures
