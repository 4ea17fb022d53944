use Prim.Native.Nat.{ℕ}
use native.Mathlib.Omega.{arith}
use mathlib.Core.Path.{sym, ap, ◌∙◌}
use mathlib.Core.Bool.{Bool, cond}
use denote.Bor.{Bor}
use mathlib.Core.List.{List}
use lib.ListN.{take}
use Rattle.text.specs.Text.{size, text_of}
use Rattle.text.proofs.Texts.{whole-text}
use Rattle.lines.proofs.one_of.Goals as goal
use Rattle.lines.proofs.one_of.Goals.{then-t, else-t}

pub returns : goal.returns
returns c =
    let a = c.args in
    elim c.if-t.branch [
      | then-t w ↦
          c.text_of.ensures
          ∙ ap (λ (s : Bor (List ℕ)). text_of (take size s.now)) w.text_of-is
          ∙ whole-text a.first.now (omega arith)
          ∙ sym (ap (λ (t : Bool). text_of (cond t a.first.now a.second.now)) w.if-t.true)
      | else-t w ↦
          c.text_of.ensures
          ∙ ap (λ (s : Bor (List ℕ)). text_of (take size s.now)) w.text_of-is
          ∙ whole-text a.second.now (omega arith)
          ∙ sym (ap (λ (t : Bool). text_of (cond t a.first.now a.second.now)) w.if-t.false)
    ]
