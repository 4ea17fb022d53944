-- Laws of FS fields and of blocks. Assumes nothing.
use mathlib.Core.Path.{◌≡◌, refl, sym, ap, ap₂, subst, ◌∙◌}
use mathlib.Core.Bool.{Bool, true, false, cond}
use mathlib.Core.List.{List}
use Prim.Native.Nat.{ℕ, ◌+◌, ◌-◌, ◌≤◌, ◌<◌}
use native.Mathlib.Omega.{arith}
use borrow.Author.Tests.{eq-eqb, ne_eqb, le-leb, lt-leb, leb-true}
use lib.Dec.{eqb, leb}
use lib.IntN.{ℤ}
use Rattle.refusal.specs.declared.Refusal.{Refusal}
use Rattle.refusal.specs.declared.Refusal.TheVariants as R
use Rattle.rice.specs.Widths.{bits_of, fs_bits, fs_top}
use Rattle.rice.specs.Reads.{found, short, field_read, moved}
use Rattle.rice.specs.Held.{CodeFits}
use Rattle.rice.specs.Blocks.{broken, StepOutcome, step_refused, code_of, coded, with_field, block_of}
use Rattle.rice.specs.declared.width.Width.{Width}
use Rattle.rice.specs.declared.Cursor.{Cursor}
use Rattle.rice.specs.declared.width.Code.{Code}
use Rattle.rice.specs.declared.width.Code.TheVariants.{Same, Raw, Split}
use Rattle.rice.proofs.Wrapping.{sizes}
use Rattle.std.specs.Prelude.{Option, Some, None, Result}
use Rattle.rice.specs.declared.Broken.{Broken}
use Rattle.std.specs.Prelude.{Err}

-- ---- what a field says, by its number

module _ (w : Width) (f : ℕ) where
  pub code_same : f ≡ 0 → code_of w f ≡ Some Same
  unfolding code_of
  code_same h = rw (eq-eqb f 0 h)

  module _ (h : f ≡ 0 → ⊥) where
    pub code_split : f ≤ fs_top w → code_of w f ≡ Some (Split (f - 1))
    unfolding code_of
    code_split k = rw (ne_eqb f 0 h, le-leb f (fs_top w) k)

    pub code_raw : fs_top w < f → f ≡ fs_top w + 1 → code_of w f ≡ Some (Raw (bits_of w))
    unfolding code_of
    code_raw k e = rw (ne_eqb f 0 h, lt-leb f (fs_top w) k, eq-eqb f (fs_top w + 1) e)

known-fits : (a b c : Bool) (w : Width) (f : ℕ) (code : Code) → (b ≡ true → f ≤ fs_top w)
    → cond a (Some Same) (cond b (Some (Split (f - 1))) (cond c (Some (Raw (bits_of w))) None)) ≡ Some code
    → CodeFits code
known-fits true b c w f code h e = let is : Same ≡ code = cc in subst CodeFits is tt
known-fits false true c w f code h e =
    let is : Split (f - 1) ≡ code = cc in
    subst CodeFits is (omega (arith, h refl, (sizes w).top))
known-fits false false true w f code h e =
    let is : Raw (bits_of w) ≡ code = cc in
    subst CodeFits is (sizes w).width
known-fits false false false w f code h e = let z : ◌≡◌ {A = ℕ} 0 1 = cc in absurd (omega arith)

-- a known code is one of the width's
pub code_fits : (w : Width) (f : ℕ) (code : Code) → code_of w f ≡ Some code → CodeFits code
unfolding code_of
code_fits w f code e = known-fits (eqb f 0) (leb f (fs_top w)) (eqb f (fs_top w + 1)) w f code (leb-true f (fs_top w)) e

-- ---- a block, by its field

module _ (w : Width) (s : List ℕ) (c : Cursor) (part : List ℤ) where
  pub block-short : field_read s c.bit (fs_bits w) ≡ short
      → block_of w s c part ≡ step_refused R.TileEnds part
  unfolding block_of
  block-short e = ap (with_field w s c part) e

  module _ (d : Cursor) (f : ℕ) (e : field_read s c.bit (fs_bits w) ≡ found f d.bit) (m : d ≡ moved c d.bit) where
    pub block-above : code_of w f ≡ None → block_of w s c part ≡ step_refused R.FsAboveTop part
    unfolding block_of
    block-above a = ap (with_field w s c part) e ∙ ap (coded w s (moved c d.bit) part) a

    pub block-known : (code : Code) → code_of w f ≡ Some code → block_of w s c part ≡ coded w s d part (Some code)
    unfolding block_of
    block-known code k = ap (with_field w s c part) e ∙ ap₂ (λ x y. coded w s x part y) (sym m) k

-- an outcome's two parts, where b is its answer
pub outcome : {o : StepOutcome} {a b : Result (Option Cursor) Broken} {p : List ℤ} → b ≡ a → o ≡ record { answer = a; content = p }
    → (b ≡ o.answer) × (p ≡ o.content)
outcome h e = (h ∙ sym (ap (λ (o : StepOutcome). o.answer) e), sym (ap (λ (o : StepOutcome). o.content) e))

-- the two parts, where it is a refusal
pub outcome-refused : {o : StepOutcome} {b : Broken} {why : Refusal} {n : ℕ} {p : List ℤ} → b ≡ broken why n
    → o ≡ record { answer = Err (broken why n); content = p } → (Err b ≡ o.answer) × (p ≡ o.content)
outcome-refused h e = outcome (ap (λ (b : Broken). Err b) h) e
