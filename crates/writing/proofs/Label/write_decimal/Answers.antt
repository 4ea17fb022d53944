use Prim.Native.Nat.{ℕ}
use mathlib.Core.Path.{sym, ap, ◌∙◌}
use mathlib.Core.Bool.{Bool, ◌&&◌}
use mathlib.Core.List.{List}
use lib.IntN.{ℤ}
use mir.Facts.{to_z-of_z}
use Rattle.laws.proofs.Truths.{and_both}
use Rattle.text.specs.Text.{size, text_of}
use lib.Dec.{leb}
use lib.ListN.{length, take}
use Rattle.text.proofs.Texts.{text-bytes}
use Rattle.writing.specs.Pieces.{text_room, comment_lent}
use Rattle.writing.specs.Written.{decimal_text, plain_cards}
use Rattle.writing.specs.Rules.{is_significant, is_power, fits_card}
use Rattle.writing.specs.Passes.{put_where}
use Rattle.writing.proofs.Plain.{decimal_bad, first_tell}
use Rattle.writing.proofs.Outcomes.{put_refused}
use Rattle.writing.proofs.Label.write_decimal.Goals as goal

pub returns-then-not-is_decimal : goal.returns-then-not-is_decimal
returns-then-not-is_decimal c =
    let a = c.args in
    let d = a.digits.now in
    let o = comment_lent a.self.comment in
    let told = c.is_decimal.ensures
    ∙ ap (λ (z : ℤ). leb (length d) text_room && (is_significant d && is_power d z)) (to_z-of_z c.ranges.power) in
    let bad = decimal_bad a.minus d a.power o (sym told ∙ c.if-not-is_decimal.true) in
    put_refused _ bad c.refused.ensures

pub returns : goal.returns
returns c =
    let a = c.args in
    let name = a.self.name.now in
    let d = a.digits.now in
    let o = comment_lent a.self.comment in
    let text = decimal_text a.minus d a.power in
    let power = to_z-of_z c.ranges.power in
    let told = c.is_decimal.ensures ∙ ap (λ (z : ℤ). leb (length d) text_room && (is_significant d && is_power d z)) power in
    let made = c.decimal_text.ensures ∙ ap (λ (z : ℤ). text_of (take size (decimal_text a.minus d z))) power in
    let both = (and_both (leb (length d) text_room) (is_significant d && is_power d a.power) (sym told ∙ c.if-not-is_decimal.false)).1 in
    c.write_plain.ensures
    ∙ ap (λ (l : List ℕ). put_where (fits_card l o) (plain_cards name l o) a.block.now) (text-bytes (take size text) made)
    ∙ first_tell name text o a.block.now
    ∙ sym (ap (λ (u : Bool). put_where (u && fits_card text o) (plain_cards name text o) a.block.now) both)
