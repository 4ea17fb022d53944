-- `splitting::halves_of` meets its contract: a text that is its own value text is cut, any other is scanned.
use Rattle.std.specs.Prelude.{Some, None, Ok}
use Prim.Native.Nat.{ℕ, ◌+◌, ◌≤◌}
use native.Mathlib.Numerals.{add-one}
use native.Mathlib.Omega.{arith}
use mathlib.Core.Path.{◌≡◌, ap, subst, ◌∙◌}
use mathlib.Core.List.{List, map}
use lib.ListN.{length, take, drop, length-take}
use lib.Seq.{take_all}
use Rattle.text.specs.Bytes.{is_space, shown}
use Rattle.text.specs.Trim.{trim, trim_end}
use Rattle.text.specs.Text.{size, text_of}
use Rattle.text.proofs.Trimming.{take_rest, shorter}
use Rattle.splitting.specs.declared.Slash.TheVariants.{At, Nowhere}
use Rattle.splitting.specs.declared.Stretch.{Stretch}
use Rattle.splitting.specs.declared.Stretch.TheVariants.{UpTo, All}
use Rattle.splitting.specs.Scanned.{Stretches}
use Rattle.splitting.proofs.Splitting.{parts_plain}
use Rattle.splitting.proofs.halves_of.Goals as goal

-- what is known of the stretch that an arm knows
known : (s : List ℕ) {x y : Stretch} → Stretches x s → x ≡ y → Stretches y s
known s h e = subst (λ (z : Stretch). Stretches z s) e h

-- a part without its spaces, as a text
cut : (s t : List ℕ) → length s ≤ size → t ≡ trim is_space s → text_of (take size t) ≡ text_of (trim is_space s)
cut s t few e =
    ap (λ (l : List ℕ). text_of (take size l)) e
    ∙ ap text_of (take_all size (trim is_space s) (omega (arith, shorter is_space s)))

pub returns-in-UpTo : goal.returns-in-UpTo
returns-in-UpTo c =
    let s = c.args.s.now in
    let i = c.in-UpTo.i in
    let h : Stretches (UpTo i) s = known s c.stretch_of.ensures c.in-UpTo.is in
    let few : length (take i s) ≤ size = omega (arith, length-take i s, c.requires.0) in
    let value = c.text_of.ensures ∙ cut (take i s) _ few c.trimmed.ensures in
    let behind = take_rest s (i + 1) ∙ ap (λ (k : ℕ). drop k s) (add-one i) in
    let comment = c.comment_of.ensures ∙ ap (λ (l : List ℕ). text_of (trim_end is_space (map shown l))) behind in
    (λ j. Ok (record { value = value j; comment = Some (comment j) }))
    ∙ parts_plain c.args.first s (take i s) (At i) h.1

pub returns-in-All : goal.returns-in-All
returns-in-All c =
    let s = c.args.s.now in
    let h : Stretches All s = known s c.stretch_of.ensures c.in-All.is in
    let value = c.text_of-in-All.ensures ∙ cut s _ c.requires.0 c.trimmed-in-All.ensures in
    (λ j. Ok (record { value = value j; comment = None })) ∙ parts_plain c.args.first s s Nowhere h
