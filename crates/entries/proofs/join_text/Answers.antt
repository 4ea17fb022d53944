-- `entries::join_text` meets its contract: the & goes, and what is left is cut or the text is put on.
use Rattle.std.proofs.Common.{◌≡◌, ◌+◌, ◌-◌, ◌≤◌, ℕ, List, length, take, sym, ap, ◌∙◌, arith}
use lib.ListN.{length-take}
use Rattle.text.specs.Bytes.{is_space}
use Rattle.text.specs.Trim.{trim_end}
use Rattle.text.proofs.Trimming.{end_shorter}
use Rattle.entries.proofs.Texts.{joined-cut, joined-put}
use Rattle.entries.proofs.join_text.Goals as goal

pub returns-then-adds_nothing : goal.returns-then-adds_nothing
returns-then-adds_nothing c =
    let a = c.args in
    let d = a.held.now in
    let cut : c.trim_end.result.now ≡ trim_end is_space (take (a.n - 1) d) = c.trim_end.ensures in
    let front = take (a.n - 1) d in
    let less : length (trim_end is_space front) ≤ a.n - 1 = omega (arith, end_shorter is_space front, length-take (a.n - 1) d) in
    let nothing = sym c.adds_nothing.ensures ∙ c.if-adds_nothing.true in (
      ap (λ (l : List ℕ). take (length l) d) cut ∙ joined-cut d a.s.now a.n c.requires.0 (omega (arith, c.requires.1)) nothing,
      rw cut (omega arith),
    )

pub returns : goal.returns
returns c =
    let a = c.args in
    let something = sym c.adds_nothing.ensures ∙ c.if-adds_nothing.false in (
      ap (take (a.n - 1 + length a.s.now)) c.put_at.ensures
          ∙ joined-put a.held.now a.s.now a.n c.requires.0 (omega (arith, c.requires.1))
          (omega (arith, c.requires.0, c.requires.1, c.requires.2)) something,
      omega (arith, c.requires.0, c.requires.2),
    )
