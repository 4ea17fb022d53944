-- A line that fits its buffer stands at the front of it.
use Rattle.std.specs.Prelude.{Option, Some}
use Prim.Native.Nat.{ℕ, ◌≤◌}
use native.Mathlib.Nat.{zero-add}
use native.Mathlib.Omega.{arith}
use mathlib.Core.Path.{◌≡◌, ap, ap₂, sym, ◌∙◌}
use mathlib.Core.List.{List}
use lib.ListN.{length, take}
use lib.Seq.{sets, length-sets}
use Rattle.text.proofs.Laying.{take-sets}
use Rattle.lines.specs.Lines.{LineOutcome, line_outcome, laid}
use Rattle.lines.proofs.Segmenting.{laid-fits}
use Rattle.printing.specs.Ready.{Front, length_of}

-- a text at the front of a buffer
pub front : (s out : List ℕ) → length s ≤ length out → take (length s) (sets out 0 s) ≡ s
front s out h = sym (ap (λ (n : ℕ). take n (sets out 0 s)) (zero-add (length s))) ∙ take-sets s out 0 (omega arith)

pub written-line : (r : Option ℕ) (n : ℕ) (line out out₁ : List ℕ) → n ≡ length_of r → line_outcome r out₁ ≡ laid line out
    → length line ≤ length out
    → Front n out₁ line
written-line r n line out out₁ e said fits =
    let is : line_outcome r out₁ ≡ line_outcome (Some (length line)) (sets out 0 line) = said ∙ sym (laid-fits line out fits) in
    let count : n ≡ length line = e ∙ ap (λ (x : LineOutcome). length_of x.answer) is in
    let content : out₁ ≡ sets out 0 line = ap (λ (x : LineOutcome). x.content) is in
    let long : length out₁ ≡ length out = ap length content ∙ length-sets out 0 line in
    record { content = ap₂ take count content ∙ front line out fits; count = count; few = omega (arith, count, fits, long) }
