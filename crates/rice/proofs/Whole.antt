-- Whole decoding is steps from opening. It answers whole only after a step that answers done, at d = nx, and the bits used are
-- that cursor's place; and nx + 1 steps are enough: more of them change nothing. Assumes nothing.
use mathlib.Core.Path.{◌≡◌, refl, subst}
use mathlib.Core.Bool.{Bool, true, false, cond}
use mathlib.Core.List.{List}
use Prim.Native.Nat.{ℕ, zero, suc, ◌+◌, ◌≤◌, ◌<◌}
use native.Mathlib.Nat.{suc-add}
use native.Mathlib.Omega.{arith}
use lib.Dec.{eqb}
use lib.IntN.{ℤ}
use lib.ListN.{length}
use Rattle.rice.specs.Steps.{plan_of, step_of, DecodeOutcome, after_step, steps_of, open_of, decode_from, decode_in, decode_of}
use Rattle.rice.specs.declared.Cursor.{Cursor}
use Rattle.rice.proofs.Decoding.{Fine, step_fine}
use Rattle.std.specs.Prelude.{Option, Some, None, Result, Ok, Err}
use Rattle.rice.specs.declared.Broken.{Broken}
use Rattle.refusal.specs.declared.Fault.{Fault}
use Rattle.rice.specs.declared.width.Width.{Width}

-- a refusal
abbrev Stopped : Result ℕ Broken → Type 0
Stopped (Ok b) = ⊥
Stopped (Err b) = Unit {0}

-- a cursor with all nx pixels done, at the place b
abbrev pub AtEnd : ℕ → ℕ → Type 0
AtEnd nx b = (c : Cursor) × (c.done ≡ nx) × (c.bit ≡ b)

module _ (s : List ℕ) (nx nblock bits : ℕ) where
  after_at_end : (rest : Cursor → List ℤ → DecodeOutcome) (c : Cursor) (px : List ℤ) (a : Result (Option Cursor) Broken) (n : ℕ) {b : ℕ}
      → Fine nx c.done n a
      → ((d : Cursor) → (rest d px).answer ≡ Ok b → AtEnd nx b) → (after_step rest c px a).answer ≡ Ok b → AtEnd nx b
  after_at_end rest c px (Ok None) l f g e = (c, f, cc)
  after_at_end rest c px (Ok (Some d)) l f g e = g d e
  after_at_end rest c px (Err b) l f g e = absurd (subst Stopped e tt)

  pub whole_at-end : (k : ℕ) (c : Cursor) (px : List ℤ) {b : ℕ} → (steps_of s nx nblock bits k c px).answer ≡ Ok b
      → AtEnd nx b
  unfolding steps_of
  whole_at-end zero c px e = absurd (subst Stopped e tt)
  whole_at-end (suc k) c px e =
      let o = step_of s nx nblock bits c px in
      after_at_end (steps_of s nx nblock bits k) c o.content o.answer (length px) (step_fine s nx nblock bits c px)
      (λ d. whole_at-end k d o.content) e

  -- more steps than reach the end change nothing
  after_same : (rest more : Cursor → List ℤ → DecodeOutcome) (c : Cursor) (px : List ℤ) (a : Result (Option Cursor) Broken) (n : ℕ)
      → Fine nx c.done n a
      → ((d : Cursor) → c.done < d.done → d.done ≤ nx → more d px ≡ rest d px)
      → after_step more c px a ≡ after_step rest c px a
  after_same rest more c px (Ok None) l f g = refl
  after_same rest more c px (Ok (Some d)) l f g = g d f.0 f.1
  after_same rest more c px (Err b) l f g = refl

  pub enough : (k j : ℕ) (c : Cursor) (px : List ℤ) → nx < k + c.done → c.done ≤ nx
      → steps_of s nx nblock bits (k + j) c px ≡ steps_of s nx nblock bits k c px
  unfolding steps_of
  enough zero j c px h l = absurd (omega arith)
  enough (suc k) j c px h l =
      let o = step_of s nx nblock bits c px in
      rw (suc-add k j)
      (after_same (steps_of s nx nblock bits k) (steps_of s nx nblock bits (k + j)) c o.content o.answer (length px)
      (step_fine s nx nblock bits c px)
      (λ d m n. enough k j d o.content (omega arith) n))

-- the same of whole decoding
module _ (s : List ℕ) (nx nblock bits : ℕ) (px : List ℤ) where
  from_at_end : (o : Result Cursor Fault) {b : ℕ} → (decode_from s nx nblock bits px o).answer ≡ Ok b → AtEnd nx b
  from_at_end (Ok c) e = whole_at-end s nx nblock bits (suc nx) c px e
  from_at_end (Err why) e = absurd (subst Stopped e tt)

  counted_at_end : (t : Bool) (f g : DecodeOutcome) {b : ℕ} → (f.answer ≡ Ok b → AtEnd nx b) → Stopped g.answer
      → (cond t f g).answer ≡ Ok b → AtEnd nx b
  counted_at_end true f g h r e = h e
  counted_at_end false f g h r e = absurd (subst Stopped e r)

  in_at_end : (p : Option Width) {b : ℕ} → (decode_in s nx nblock bits px p).answer ≡ Ok b → AtEnd nx b
  in_at_end (Some w) e = counted_at_end (eqb (length px) nx) _ _ (from_at_end (open_of s nx nblock bits)) tt e
  in_at_end None e = absurd (subst Stopped e tt)

  pub decode_at_end : {b : ℕ} → (decode_of s nx nblock bits px).answer ≡ Ok b → AtEnd nx b
  unfolding decode_of
  decode_at_end e = in_at_end (plan_of (length s) nx nblock bits) e
