-- `printing::print_names` meets its contract: every place is one of the list's, and the bytes of the lines are summed.
use Rattle.std.proofs.Common.{◌≡◌, refl, sym, ap, ap₂, ◌∙◌, ℕ, ◌+◌, ◌<◌, ◌≤◌, arith, rules}
use Rattle.std.proofs.Common.{List, [], map, take, length}
use lib.ListN.{length-map, length-replicate}
use Rattle.std.specs.Prelude.{Bool, Result, Ok}
use Rattle.output.specs.declared.Cut.{Cut}
use Rattle.output.specs.Shown.{printed_line, IsWhole}
use Rattle.output.proofs.Pieces.{counted, line-few}
use Rattle.printing.specs.Output.{name_lines, in_order}
use Rattle.printing.specs.Ready.{IsListed, Front}
use Rattle.listing.specs.Listing.{list_of}
use Rattle.std.proofs.lemmas.List.{get_or-map}
use Rattle.printing.proofs.Naming as naming
use Rattle.printing.proofs.print_names.Goals as goal

-- the lines of all names are as many as the count says, and few
module _ {h first last times : List ℕ} {count : ℕ} (l : IsListed h first last times) (e : count ≡ (list_of h).count) where
  as_many : length (name_lines h) ≡ count
  as_many = naming.as_many h l.end l.accepted ∙ sym e

  few : count ≤ 720
  few = omega (arith, e, naming.few-names h l.end l.accepted)

-- a line at the front of a buffer, all of which is written: how many bytes that are, and that they are few
record Wrote (t : Bool) (line : List ℕ) (n : ℕ) : Type 0 where
  bytes : n ≡ length (printed_line t line)
  small : n ≤ 210561

wrote : (t : Bool) (line out front : List ℕ) (m n : ℕ) {r : Result ℕ Cut} → Front m out line → length out ≡ 52640
    → front ≡ take m out → r ≡ Ok n → IsWhole r (printed_line t front) → Wrote t line n
wrote t line out front m n f long is e w =
    let bytes = counted (printed_line t front) e w ∙ ap (λ (s : List ℕ). length (printed_line t s)) (is ∙ f.content) in
    record { bytes = bytes; small = omega (arith, bytes, line-few t line, f.count, f.few, long) }

pub loop-k-init : goal.loop-k-init
unfolding in_order
loop-k-init g c =
    record {
      text-long = length-replicate {A = ℕ} 51200 0;
      line-long = length-replicate {A = ℕ} 52640 0;
      bytes = refl;
      small = omega arith;
    }

pub overflow_add-printed : goal.overflow_add-printed
overflow_add-printed g c =
    let a = c.args in
    let v = c.loop-k.invariant in
    let same : length c.name_part-n.new.line ≡ length c.loop-k.line = search rules in
    let w = wrote a.escaped _ c.name_part-n.new.line _ _ _ c.name_part-n.ensures (same ∙ v.line-long) c.first_of.ensures
    c.in_ok-written.was c.write_line.ensures in
    record {
      fits = omega (
        arith,
        w.small,
        v.small,
        few c.requires.0 c.requires.1,
        c.loop-k-test.true,
      );
    }

pub loop-k-preserved : goal.loop-k-preserved
loop-k-preserved g c =
    let a = c.args in
    let t = a.escaped in
    let v = c.loop-k.invariant in
    let k = c.loop-k.k in
    let names = name_lines a.header.now in
    let same : length c.name_part-n.new.line ≡ length c.loop-k.line = search rules in
    let w = wrote t _ c.name_part-n.new.line _ _ _ c.name_part-n.ensures (same ∙ v.line-long) c.first_of.ensures
    c.in_ok-written.was c.write_line.ensures in
    let under : k < length names =
    omega (arith, c.loop-k-test.true, as_many c.requires.0 c.requires.1) in
    let under_all : k < length (map (printed_line t) names) = omega (arith, under, length-map names (printed_line t)) in
    record {
      text-long = search rules;
      line-long = same ∙ v.line-long;
      bytes =
          ap₂ (λ (n m : ℕ). n + m) v.bytes (w.bytes ∙ sym (ap length (get_or-map (printed_line t) names k [] [] under)))
          ∙ sym (naming.in_order_next (map (printed_line t) names) k under_all);
      small = omega (arith, v.small, w.small);
    }

pub overflow_add-result : goal.overflow_add-result
overflow_add-result g c =
    let a = c.args in
    let v = c.loop-k.invariant in
    let same : length c.count_part-n.new.line ≡ length c.loop-k.line = search rules in
    let w = wrote a.escaped _ c.count_part-n.new.line _ _ _ c.count_part-n.ensures (same ∙ v.line-long) c.first_of-2.ensures
    c.in_ok-written-2.was c.write_line-2.ensures in
    record {
      fits = omega (
        arith,
        w.small,
        v.small,
        c.loop-k.auto.k-end,
        few c.requires.0 c.requires.1,
      );
    }
