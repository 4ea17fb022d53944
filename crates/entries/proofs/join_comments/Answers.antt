-- `entries::join_comments` meets its contract: what is left of the cards is joined to the words as they stand.
use Rattle.std.proofs.Common.{ℕ, ◌≤◌, length, refl, ap, ◌∙◌, arith, rules}
use Rattle.text.specs.Text.{size, bytes_of}
use Rattle.entries.specs.Passes.{ampersands}
use Rattle.entries.proofs.Joining.{at_end}
use Rattle.entries.proofs.Remarks.{keep, some_left, few-left, room, keep_on, kept}
use Rattle.entries.proofs.join_comments.Goals as goal

pub loop-j-init : goal.loop-j-init
loop-j-init c =
    let a = c.args in
    let e = a.string in
    let fits : length (bytes_of e.part.now.text) ≤ size =
    omega (arith, ap (length {A = ℕ}) c.as_slice.ensures.bytes, c.as_slice.ensures.fits) in (
      keep e.opened a.comments.now c.requires e.begins fits
          (c.count_ampersands.ensures ∙ ap (ampersands 0) c.as_slice.ensures.bytes)
          c.join_remark.ensures.0 c.join_remark.ensures.1 refl,
      c.join_remark.ensures.2,
    )

pub next_comment-held-requires : goal.next_comment-held-requires
next_comment-held-requires c =
    let K = c.loop-j.invariant.0 in
    let comments = c.args.comments.now in
    let on = c.in-On.is in
    let next = c.loop-j-test.true in (
      next,
      some_left c.args.string.opened comments c.requires K on next,
      few-left c.args.string.opened comments c.requires K on next,
      room c.args.string.opened comments c.requires K on next c.loop-j.invariant.1,
    )

pub loop-j-preserved : goal.loop-j-preserved
loop-j-preserved c =
    let K = c.loop-j.invariant.0 in
    (keep_on c.args.string.opened c.args.comments.now c.requires K c.in-On.is c.loop-j-test.true c.next_comment-held.ensures, search rules)

pub returns : goal.returns
returns c =
    let K = c.loop-j.invariant.0 in
    kept c.args.string.opened c.args.comments.now c.requires K c.loop-j.invariant.1 (at_end K.going c.loop-j-test.false)
