-- `entries::join_comment` meets its contract: a line feed stands between two comments.
use Rattle.std.proofs.Common.{◌≡◌, ◌+◌, ℕ, List, length, take, sym, ap, ◌∙◌, arith}
use Rattle.std.specs.Prelude.{Option, Some}
use lib.Seq.{sets}
use Rattle.joining.specs.Words.{join_comment}
use Rattle.entries.specs.Passes.{heard, span}
use Rattle.entries.proofs.Remarks.{put-behind, put_alone}
use Rattle.entries.proofs.join_comment.Goals as goal

-- the comment before it, as an arm knows it, is the whole
by : (held s : List ℕ) {x y : Option ℕ} → x ≡ y → join_comment (heard y held) (Some s) ≡ join_comment (heard x held) (Some s)
by held s e = sym (ap (λ (z : Option ℕ). join_comment (heard z held) (Some s)) e)

pub returns-in-Some : goal.returns-in-Some
returns-in-Some c =
    let a = c.args in
    let n = c.in-Some.n in
    let at : span a.before ≡ n = ap span c.in-Some.is in
    let s = a.s.now in (
      ap (λ (l : List ℕ). Some (take (n + 1 + length s) l))
          (c.put_at-in-Some.ensures ∙ ap (λ (l : List ℕ). sets l (n + 1) s) c.put_at.ensures)
          ∙ put-behind a.held.now s n (omega (arith, at, c.requires.0, c.requires.1))
          ∙ by a.held.now s c.in-Some.is,
      omega (arith, at, c.requires.1),
    )

pub returns-in-None : goal.returns-in-None
returns-in-None c =
    let a = c.args in
    let s = a.s.now in (
      ap (λ (l : List ℕ). Some (take (length s) l)) c.put_at-in-None.ensures
          ∙ put_alone a.held.now s (omega (arith, c.requires.0, c.requires.1))
          ∙ by a.held.now s c.in-None.is,
      omega (arith, c.requires.1),
    )
