-- `entries::join_texts` meets its contract: what is left of the cards is joined to the text as it stands.
use Rattle.std.proofs.Common.{◌≡◌, ◌+◌, ◌≤◌, ℕ, List, length, sym, ap, subst, ◌∙◌, arith, rules}
use lib.Seq.{sets}
use Rattle.text.specs.Text.{size, bytes_of}
use Rattle.entries.specs.declared.Reach.TheVariants.{On}
use Rattle.entries.specs.Passes.{IsWide}
use Rattle.entries.proofs.Joining.{at_end}
use Rattle.entries.proofs.Texts.{text_held, TextGoing, begin_text, joined_texts, some-text, text_room_lem, on_text}
use Rattle.entries.proofs.join_texts.Goals as goal

-- the scratch is as wide as it was
wide : (h : List ℕ) (texts now : List ℕ) → IsWide h texts → length now ≡ length texts → IsWide h now
wide h texts now w e = omega (arith, w, e)

pub loop-j-init : goal.loop-j-init
loop-j-init c =
    let a = c.args in
    let e = a.string in
    let own = bytes_of e.part.now.text in
    let first = c.as_slice-first.ensures.bytes in
    let fits : length own ≤ size = omega (arith, ap (length {A = ℕ}) first, c.as_slice-first.ensures.fits) in (
      subst (λ (l : List ℕ). TextGoing e.header.now e.card (text_held (length c.as_slice-first.result.now) On) l (e.card + 1))
          (sym (c.put_at.ensures ∙ ap (sets a.texts.now 0) first))
          (begin_text own a.texts.now e.opened c.requires e.begins.text fits (ap (length {A = ℕ}) first)),
      search rules,
    )

pub next_text-held-requires : goal.next_text-held-requires
next_text-held-requires c =
    let w = wide c.args.string.header.now c.args.texts.now c.loop-j.texts c.requires c.loop-j.invariant.1 in
    let G = c.loop-j.invariant.0 in
    (c.loop-j-test.true, some-text w G c.in-On.is c.loop-j-test.true, text_room_lem w G c.in-On.is c.loop-j-test.true)

pub loop-j-preserved : goal.loop-j-preserved
loop-j-preserved c =
    let w = wide c.args.string.header.now c.args.texts.now c.loop-j.texts c.requires c.loop-j.invariant.1 in
    (on_text w c.loop-j.invariant.0 c.in-On.is c.loop-j-test.true c.next_text-held.ensures, search rules)

pub returns : goal.returns
returns c =
    let w = wide c.args.string.header.now c.args.texts.now c.loop-j.texts c.requires c.loop-j.invariant.1 in
    let G = c.loop-j.invariant.0 in
    joined_texts w G (at_end G.going c.loop-j-test.false)
