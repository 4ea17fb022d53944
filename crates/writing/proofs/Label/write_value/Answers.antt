use mathlib.Core.Path.{refl, sym, ap, ◌∙◌}
use mathlib.Core.Bool.{Bool, ◌&&◌}
use mathlib.Core.List.{List}
use Prim.Native.Nat.{ℕ}
use lib.IntN.{ℤ}
use mir.Facts.{to_z-of_z}
use Rattle.std.proofs.Common.{rules}
use mir.Syntax.{w64}
use mir.Val.{SFits}
use Rattle.text.specs.Text.{text_of}
use Rattle.text.proofs.Texts.{text-bytes}
use Rattle.numbers.specs.declared.Size.{Size}
use Rattle.numbers.specs.declared.Value.{Value}
use Rattle.numbers.specs.declared.Value.TheVariants.{Float}
use Rattle.numerals.specs.Numerals.{signed_digits}
use Rattle.writing.specs.Pieces.{comment_lent}
use Rattle.writing.specs.Written.{truth_text, plain_cards, written_cards}
use Rattle.writing.specs.Rules.{fits_card, is_value}
use Rattle.writing.specs.Passes.{put_where}
use Rattle.writing.proofs.Plain.{is_long_lem}
use Rattle.writing.proofs.Outcomes.{kind_refused}
use Rattle.writing.proofs.Label.write_value.Goals as goal

pub returns-in-Integer : goal.returns-in-Integer
returns-in-Integer c =
    let a = c.args in
    let name = a.self.name.now in
    let o = comment_lent a.self.comment in
    let z = c.in-Integer.z in
    let t = signed_digits z in
    let fit : SFits w64 z = search rules in
    let digits = c.integer_text.ensures ∙ ap (λ (y : ℤ). text_of (signed_digits y)) (to_z-of_z fit) in
    c.write_plain.ensures
    ∙ ap (λ (l : List ℕ). put_where (fits_card l o) (plain_cards name l o) a.block.now) (text-bytes t digits)
    ∙ sym (ap (λ (u : Bool). put_where (u && fits_card t o) (plain_cards name t o) a.block.now) (is_long_lem z fit))
    ∙ ap (λ (v : Value). put_where (is_value v a.text.now o) (written_cards v name a.text.now o) a.block.now) (sym c.in-Integer.is)

pub returns-in-Logical : goal.returns-in-Logical
returns-in-Logical c =
    let a = c.args in
    let name = a.self.name.now in
    let o = comment_lent a.self.comment in
    c.write_plain-in-Logical.ensures
    ∙ ap (λ (l : List ℕ). put_where (fits_card l o) (plain_cards name l o) a.block.now)
    (text-bytes (truth_text c.in-Logical.t) c.truth_text.ensures)
    ∙ ap (λ (v : Value). put_where (is_value v a.text.now o) (written_cards v name a.text.now o) a.block.now) (sym c.in-Logical.is)

pub returns-in-Infinite : goal.returns-in-Infinite
returns-in-Infinite c =
    kind_refused _ _ _ (c.in-Float.is ∙ ap (λ (z : Size). Float c.in-Float.minus z) c.in-Infinite.is) refl c.refused.ensures

pub returns-in-Nan : goal.returns-in-Nan
returns-in-Nan c =
    kind_refused _ _ _ (c.in-Float.is ∙ ap (λ (z : Size). Float c.in-Float.minus z) c.in-Nan.is) refl c.refused-in-Nan.ensures

pub returns-in-Undefined : goal.returns-in-Undefined
returns-in-Undefined c = kind_refused _ _ _ c.in-Undefined.is refl c.refused-in-Undefined.ensures

pub returns-in-Invalid : goal.returns-in-Invalid
returns-in-Invalid c = kind_refused _ _ _ c.in-Invalid.is refl c.refused-in-Invalid.ensures
