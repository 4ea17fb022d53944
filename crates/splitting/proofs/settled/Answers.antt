-- `splitting::settled` meets its contract, by what is left after trimming.
use Prim.Native.Nat.{ℕ, ◌≤◌}
use native.Mathlib.Omega.{arith}
use mathlib.Core.Path.{◌≡◌, ◌∙◌, ap, sym}
use mathlib.Core.List.{List}
use lib.ListN.{length}
use Rattle.text.specs.Bytes.{is_space}
use Rattle.text.specs.Trim.{trim_end}
use Rattle.text.specs.Text.{size, text_of}
use Rattle.splitting.specs.Strings.{or_space, settled_of}
use Rattle.text.proofs.Trimming.{end_shorter}
use Rattle.text.proofs.Texts.{whole-text}
use Rattle.splitting.proofs.Stringing.{empty, settled_some, kept}
use Rattle.splitting.proofs.settled.Goals as goal

-- after the cut, the answer is what is left, or a space
all_of : (s : List ℕ) {left : List ℕ} → (length s ≡ 0 → ⊥) → left ≡ trim_end is_space s → settled_of s ≡ or_space left
all_of s some e = settled_some s some ∙ ap or_space (sym e)

pub returns-then-s-eq0 : goal.returns-then-s-eq0
unfolding settled_of
returns-then-s-eq0 c =
    c.empty_text.ensures ∙ ap (λ (l : List ℕ). text_of (settled_of l)) (sym (empty c.args.s.now c.if-s-eq0.true))

pub returns-then-t-eq0 : goal.returns-then-t-eq0
returns-then-t-eq0 c =
    let none = empty c.trim_end-t.result.now c.if-t-eq0.true in
    c.text_of.ensures ∙ ap text_of (sym (all_of c.args.s.now c.if-s-eq0.false c.trim_end-t.ensures ∙ ap or_space none))

pub returns : goal.returns
returns c =
    let s = c.args.s.now in
    let left = c.trim_end-t.result.now in
    let short : length left ≤ size = rw c.trim_end-t.ensures (omega (arith, end_shorter is_space s, c.requires)) in
    c.text_of-2.ensures
    ∙ whole-text left short
    ∙ ap text_of (sym (all_of s c.if-s-eq0.false c.trim_end-t.ensures ∙ kept left c.if-t-eq0.false))
