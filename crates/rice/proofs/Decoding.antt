-- Laws of whole decoding: each step goes on, and decoding by its tests. Assumes nothing.
use mathlib.Core.Path.{◌≡◌, refl, sym, ap, ◌∙◌}
use mathlib.Core.Bool.{Bool, true, false, cond}
use mathlib.Core.List.{List}
use Prim.Native.Nat.{ℕ, ◌+◌, ◌-◌, ◌≤◌, ◌<◌, min}
use native.Mathlib.Omega.{arith}
use borrow.Author.Tests.{eqb-true, eqb-false, eq-eqb, ne_eqb}
use lib.Arith.{lt_of_le-ne}
use lib.Dec.{eqb}
use lib.IntN.{ℤ}
use lib.ListN.{length, take, drop, length-take, length-drop}
use Rattle.rice.specs.Widths.{in_width}
use Rattle.refusal.specs.declared.Refusal.{Refusal}
use Rattle.refusal.specs.declared.Refusal.TheVariants as R
use Rattle.rice.specs.Blocks.{broken, StepOutcome, block_of}
use Rattle.rice.specs.Steps.{plan_of, open_of, stands, part_lent, step_in, step_of}
use Rattle.rice.specs.Steps.{DecodeOutcome, decode_refused, decode_from, decode_in, decode_of}
use Rattle.rice.specs.declared.width.Width.{Width}
use Rattle.rice.specs.declared.Cursor.{Cursor}
use Rattle.rice.proofs.Landing.{Bounded, block_bounded}
use Rattle.rice.proofs.Stepping.{plan_within, kept}
use Rattle.std.specs.Prelude.{Option, Some, None, Result, Ok, Err}
use Rattle.rice.specs.declared.Broken.{Broken}
use Rattle.refusal.specs.declared.Fault.{Fault}

-- ---- a step is done at the end, goes on, or is refused after at most as many pixels as are lent

abbrev pub Fine : ℕ → ℕ → ℕ → Result (Option Cursor) Broken → Type 0
Fine nx d l (Ok None) = d ≡ nx
Fine nx d l (Ok (Some c)) = (d < c.done) × (c.done ≤ nx)
Fine nx d l (Err b) = b.written ≤ l

fine_of : (w : Width) (s : List ℕ) (c : Cursor) (nx l n : ℕ) (a : Result (Option Cursor) Broken) → 0 < n → c.done + n ≤ nx → n ≤ l
    → Bounded w s c n a → Fine nx c.done l a
fine_of w s c nx l n (Ok None) h k m b = absurd b
fine_of w s c nx l n (Ok (Some d)) h k m b = (omega (arith, b.0), omega (arith, b.0))
fine_of w s c nx l n (Err g) h k m b = omega arith

by_test : (P : StepOutcome → Type 0) (t : Bool) {x y : StepOutcome} → (t ≡ true → P x) → (t ≡ false → P y) → P (cond t x y)
by_test P true h k = h refl
by_test P false h k = k refl

module _ (s : List ℕ) (nx nblock bits : ℕ) (c : Cursor) (px : List ℤ) where
  abbrev pub FineOf : StepOutcome → Type 0
  FineOf o = Fine nx c.done (length px) o.answer

  lent_fine : (w : Width) → 1 ≤ nblock → length px ≡ nx → c.done < nx → in_width w c.last ≡ true
      → FineOf (part_lent w s c px c.done (min (c.done + nblock) nx))
  lent_fine w b l h i =
      let part = take (min (c.done + nblock) nx - c.done) (drop c.done px) in
      let n : length part ≡ min (c.done + nblock) nx - c.done = simp (length-take, length-drop) (omega arith) in
      fine_of w s c nx (length px) (length part) (block_of w s c part).answer (omega arith) (omega arith) (omega arith)
      (block_bounded w s c part i)

  in_fine : (p : Option Width) → plan_of (length s) nx nblock bits ≡ p → FineOf (step_in s nx nblock c px p)
  in_fine (Some w) e =
      by_test FineOf (eqb (length px) nx)
      (λ count. by_test FineOf (stands w s nx nblock c)
      (λ stand. by_test FineOf (eqb c.done nx) (λ done. eqb-true _ _ done)
      (λ left. lent_fine w (plan_within _ _ _ bits e).block (eqb-true _ _ count)
      (lt_of_le-ne (kept w s nx nblock c stand).done (eqb-false _ _ left)) (kept w s nx nblock c stand).last))
      (λ _. omega arith))
      (λ _. omega arith)
  in_fine None e = omega arith

  pub step_fine : FineOf (step_of s nx nblock bits c px)
  unfolding step_of
  step_fine = in_fine (plan_of (length s) nx nblock bits) refl

-- ---- whole decoding, by its tests

module _ (s : List ℕ) (nx nblock bits : ℕ) (px : List ℤ) where
  pub decode_limits : plan_of (length s) nx nblock bits ≡ None
      → decode_of s nx nblock bits px ≡ decode_refused R.Limits px
  unfolding decode_of
  decode_limits e = ap (decode_in s nx nblock bits px) e

  module _ (w : Width) (plan : plan_of (length s) nx nblock bits ≡ Some w) where
    pub decode_count : (length px ≡ nx → ⊥)
        → decode_of s nx nblock bits px ≡ decode_refused R.PixelCount px
    unfolding decode_of
    decode_count h = ap (decode_in s nx nblock bits px) plan ∙ rw (ne_eqb (length px) nx h)

    pub decode_open : length px ≡ nx → (o : Result Cursor Fault) → open_of s nx nblock bits ≡ o
        → decode_of s nx nblock bits px ≡ decode_from s nx nblock bits px o
    unfolding decode_of
    decode_open h o e = ap (decode_in s nx nblock bits px) plan
        ∙ rw (eq-eqb (length px) nx h) (ap (decode_from s nx nblock bits px) e)

-- the two parts of what whole decoding comes to, where a is its answer
pub finished : {a : Result ℕ Broken} {f g : DecodeOutcome} → a ≡ g.answer → f ≡ g → (a ≡ f.answer) × (g.content ≡ f.content)
finished h e = (h ∙ sym (ap (λ (f : DecodeOutcome). f.answer) e), sym (ap (λ (f : DecodeOutcome). f.content) e))

-- the same of a refusal before any pixel
pub finished-refused : {b : Broken} {f : DecodeOutcome} {why : Refusal} {px : List ℤ} → b ≡ broken why 0 → f ≡ decode_refused why px
    → (Err b ≡ f.answer) × (px ≡ f.content)
finished-refused h e = finished (ap (λ (b : Broken). Err b) h) e
