use Prim.Native.Nat.{◌+◌, ◌<◌, ◌≤◌}
use native.Mathlib.Omega.{arith}
use mathlib.Core.Path.{◌≡◌, sym, ap, ◌∙◌}
use mathlib.Core.Bool.{true, false, ◌&&◌}
use lib.ListN.{length}
use lib.Seq.{sets}
use Rattle.laws.proofs.Truths.{and_false}
use Rattle.writing.specs.Pieces.{pieces_of, comment_lent}
use Rattle.writing.specs.Written.{name_front, string_cards}
use Rattle.writing.specs.Rules.{is_short, is_text, remark_limit}
use Rattle.writing.specs.Block.{flat}
use Rattle.writing.specs.Passes.{bodies_of}
use Rattle.writing.proofs.Counting.{pieces_some}
use Rattle.writing.proofs.Placing.{sets_then}
use Rattle.writing.proofs.Bodies.{front_length, string-flat, string-count, string-length}
use Rattle.writing.proofs.Plain.{short_tail}
use Rattle.writing.proofs.Outcomes.{put_refused, put-short, put_written}
use Rattle.writing.proofs.Label.write_string.Goals as goal
use Rattle.writing.proofs.Label.write_string.Goals.{then-not-is_short-via-then-not-is_short}
use Rattle.writing.proofs.Label.write_string.Goals.{then-not-is_short-via-else-not-is_short+then-not-is_text}

pub returns-then-not-is_short : goal.returns-then-not-is_short
returns-then-not-is_short c =
    let a = c.args in
    let s = a.text.now in
    let o = comment_lent a.self.comment in
    let bad : (is_text s && is_short remark_limit o) ≡ false =
    elim c.then-not-is_short.branch [
      | then-not-is_short-via-then-not-is_short w ↦
          and_false (is_text s) (is_short remark_limit o) (sym c.is_short.ensures ∙ w.if-not-is_short.true)
      | then-not-is_short-via-else-not-is_short+then-not-is_text w ↦ rw (sym w.is_text.ensures ∙ w.if-not-is_text.true)
    ] in
    put_refused _ bad c.refused.ensures

pub returns-then-block-n : goal.returns-then-block-n
returns-then-block-n c =
    let a = c.args in
    let name = a.self.name.now in
    let s = a.text.now in
    let o = comment_lent a.self.comment in
    let near : is_short remark_limit o ≡ true = sym c.is_short.ensures ∙ c.if-not-is_short.false in
    let good : is_text s ≡ true = sym c.is_text.ensures ∙ c.if-not-is_text.false in
    let cards = string_cards name (pieces_of s o) in
    let bytes = string-length name s o a.self.name_short (short_tail 65 o near) in
    let short : length a.block.now < length (flat cards) = omega (arith, bytes, c.count_pieces-n.ensures, c.if-block-n.true) in
    put-short cards (rw (good, near)) short c.refused-then-block-n.ensures

pub put_name-requires : goal.put_name-requires
put_name-requires c =
    let o = comment_lent c.args.self.comment in
    let near = sym c.is_short.ensures ∙ c.if-not-is_short.false in
    let some = pieces_some o (short_tail 65 o near) c.args.text.now in
    (c.args.self.name_short, omega (arith, some, c.count_pieces-n.ensures, c.if-block-n.false))

pub returns : goal.returns
returns c =
    let a = c.args in
    let name = a.self.name.now in
    let s = a.text.now in
    let d = a.block.now in
    let o = comment_lent a.self.comment in
    let near : is_short remark_limit o ≡ true = sym c.is_short.ensures ∙ c.if-not-is_short.false in
    let good : is_text s ≡ true = sym c.is_text.ensures ∙ c.if-not-is_text.false in
    let tail = short_tail 65 o near in
    let short = a.self.name_short in
    let ps = pieces_of s o in
    let n = c.count_pieces-n.ensures in
    let there : 10 ≡ 0 + length (name_front name) = omega (arith, front_length name short) in
    let stored = sets_then d 0 (name_front name) (bodies_of ps) c.put_name.ensures there c.put_pieces.ensures
    ∙ sym (ap (sets d 0) (string-flat name ps short (pieces_some o tail s))) in
    let fit : length (flat (string_cards name ps)) ≤ length d =
    omega (arith, string-length name s o short tail, n, c.if-block-n.false) in
    put_written _ _ (rw (good, near)) fit (n ∙ sym (string-count name ps)) stored
