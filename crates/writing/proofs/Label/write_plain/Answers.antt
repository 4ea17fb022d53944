use Prim.Native.Nat.{ℕ, ◌+◌, ◌<◌}
use native.Mathlib.Omega.{arith}
use mathlib.Core.Path.{◌≡◌, refl, sym, ap, ◌∙◌}
use mathlib.Core.List.{List}
use lib.ListN.{length}
use lib.Seq.{sets}
use Rattle.text.specs.Text.{bytes_of}
use Rattle.writing.specs.Pieces.{comment_lent}
use Rattle.writing.specs.Written.{name_front, plain_text, plain_cards}
use Rattle.writing.specs.Block.{flat}
use Rattle.writing.specs.Passes.{body_of}
use Rattle.writing.proofs.Placing.{sets_then}
use Rattle.writing.proofs.Bodies.{front_length}
use Rattle.writing.proofs.Plain.{plain_flat, plain_bytes, room_told}
use Rattle.writing.proofs.Outcomes.{put_refused, put-short, put_written}
use Rattle.writing.proofs.Label.write_plain.Goals as goal

pub returns-then-not-has_room : goal.returns-then-not-has_room
returns-then-not-has_room c =
    let a = c.args in
    let t = bytes_of a.t in
    let o = comment_lent a.self.comment in
    let full = room_told t o c.as_slice-own.ensures.bytes c.has_room.ensures ∙ c.if-not-has_room.true in
    put_refused _ full c.refused.ensures

pub returns-then-block-lt-CARD : goal.returns-then-block-lt-CARD
returns-then-block-lt-CARD c =
    let a = c.args in
    let t = bytes_of a.t in
    let o = comment_lent a.self.comment in
    let cards = plain_cards a.self.name.now t o in
    let room = room_told t o c.as_slice-own.ensures.bytes c.has_room.ensures ∙ c.if-not-has_room.false in
    let short : length a.block.now < length (flat cards) = omega (arith, plain_bytes a.self.name.now t o a.self.name_short room) in
    put-short _ room short c.refused-then-block-lt-CARD.ensures

pub put_number-requires : goal.put_number-requires
put_number-requires c =
    let room = room_told (bytes_of c.args.t) (comment_lent c.args.self.comment) c.as_slice-own.ensures.bytes c.has_room.ensures in
    (rw c.as_slice-own.ensures.bytes (room ∙ c.if-not-has_room.false), omega arith)

pub returns : goal.returns
returns c =
    let a = c.args in
    let name = a.self.name.now in
    let d = a.block.now in
    let t = bytes_of a.t in
    let o = comment_lent a.self.comment in
    let short = a.self.name_short in
    let room = room_told t o c.as_slice-own.ensures.bytes c.has_room.ensures ∙ c.if-not-has_room.false in
    let body = c.put_number.ensures
    ∙ ap (λ (l : List ℕ). sets c.put_name.new.block 10 (body_of (plain_text l o))) c.as_slice-own.ensures.bytes in
    let there : 10 ≡ 0 + length (name_front name) = omega (arith, front_length name short) in
    let stored = sets_then d 0 (name_front name) (body_of (plain_text t o)) c.put_name.ensures there body
    ∙ sym (ap (sets d 0) (plain_flat name t o short)) in
    put_written _ _ room (omega (arith, plain_bytes name t o short room)) refl stored
