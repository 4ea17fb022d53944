-- Laws of blocks that are decoded one after another: the cursor keeps its rules, each block is a step, and steps add up.
-- Assumes nothing.
use mathlib.Core.Path.{◌≡◌, refl, sym, ap, ap₂, subst, ◌∙◌}
use mathlib.Core.Bool.{Bool, true, false, cond, ◌||◌, true≢false}
use mathlib.Core.List.{List}
use Prim.Native.Nat.{ℕ, suc, ◌+◌, ◌-◌, ◌*◌, ◌%◌, ◌^◌, ◌≤◌, ◌<◌, min}
use native.Mathlib.Nat.{zero-add, add-mod_right, mod-eq_of_lt}
use native.Mathlib.Numerals.{one-add}
use native.Mathlib.Omega.{arith}
use borrow.Author.Tests.{eq-eqb, ne_eqb, le-leb, eqb-true, eqb-false}
use borrow.Rule.Slice.PartMut.{mid_of, put_mid, mid_len, same_len_mid}
use lib.Dec.{eqb}
use lib.IntN.{ℤ}
use lib.ListN.{length}
use Rattle.refusal.specs.declared.Fault.{Fault}
use Rattle.rice.specs.Tile.{bits_in}
use Rattle.rice.specs.Widths.{bits_of, start_bytes, pixel_of, in_width}
use Rattle.rice.specs.Reads.{Read, found, short, field_read}
use Rattle.rice.specs.Blocks.{StepOutcome, block_of}
use Rattle.rice.specs.Steps.{width_of, plan_of, in_limits, stands, part_lent, step_of, start_at, open_in, open_of}
use Rattle.rice.specs.Steps.{DecodeOutcome, after_step, steps_of, decode_of}
use Rattle.rice.specs.Easy.{Standing, Reaches}
use Rattle.rice.specs.declared.width.Width.{Width}
use Rattle.rice.specs.declared.width.Width.TheVariants.{Eight, Sixteen, ThirtyTwo}
use Rattle.rice.specs.declared.Cursor.{Cursor}
use Rattle.rice.proofs.Fields.{field_lt}
use Rattle.rice.proofs.Reading.{field_of}
use Rattle.rice.proofs.Wrapping.{sizes}
use Rattle.rice.proofs.Landing.{Bounded, block_bounded, block-length, pixel_in}
use Rattle.rice.proofs.Decoding.{decode_open}
use Rattle.rice.proofs.Stepping.{plan_within, kept, step_done, step_block, part_back}
use Rattle.std.specs.Prelude.{Option, Some, None, Result, Ok, Err}
use Rattle.rice.specs.declared.Broken.{Broken}

-- ---- the bits that a plan was made for are its width's

bits_by : (a b c : Bool) (bits : ℕ) (w : Width) → (a ≡ true → bits ≡ 8) → (b ≡ true → bits ≡ 16)
    → (c ≡ true → bits ≡ 32)
    → cond a (Some Eight) (cond b (Some Sixteen) (cond c (Some ThirtyTwo) None)) ≡ Some w → bits ≡ bits_of w
bits_by true b c bits w f g h e = let is : Eight ≡ w = cc in f refl ∙ ap bits_of is
bits_by false true c bits w f g h e = let is : Sixteen ≡ w = cc in g refl ∙ ap bits_of is
bits_by false false true bits w f g h e = let is : ThirtyTwo ≡ w = cc in h refl ∙ ap bits_of is
bits_by false false false bits w f g h e = let z : ◌≡◌ {A = ℕ} 0 1 = cc in absurd (omega arith)

bits_in_lem : (t : Bool) (bits : ℕ) (w : Width) → cond t (width_of bits) None ≡ Some w → bits ≡ bits_of w
unfolding width_of
bits_in_lem true bits w e =
    bits_by (eqb bits 8) (eqb bits 16) (eqb bits 32) bits w (eqb-true bits 8) (eqb-true bits 16) (eqb-true bits 32) e
bits_in_lem false bits w e = let z : ◌≡◌ {A = ℕ} 0 1 = cc in absurd (omega arith)

plan_width : (len nx nblock bits : ℕ) (w : Width) → plan_of len nx nblock bits ≡ Some w → bits ≡ bits_of w
unfolding plan_of
plan_width len nx nblock bits w e = bits_in_lem (in_limits len nx nblock) bits w e

pub decode_steps : (w : Width) (s : List ℕ) (nx nblock bits : ℕ) (c : Cursor) (px : List ℤ)
    → plan_of (length s) nx nblock bits ≡ Some w → length px ≡ nx → open_of s nx nblock bits ≡ Ok c
    → decode_of s nx nblock bits px ≡ steps_of s nx nblock (bits_of w) (suc nx) c px
decode_steps w s nx nblock bits c px plan count e =
    decode_open s nx nblock bits px w plan count (Ok c) e
    ∙ ap (λ (n : ℕ). steps_of s nx nblock n (suc nx) c px) (plan_width (length s) nx nblock bits w plan)

-- ---- a cursor that keeps its rules

-- pixels are done to the end, or whole blocks of them
abbrev Even : ℕ → ℕ → ℕ → Type 0
Even nx nblock d = (eqb d nx || eqb (d % nblock) 0) ≡ true

module _ (w : Width) (s : List ℕ) (nx nblock : ℕ) (c : Cursor) where
  stands_so : start_bytes w * 8 ≤ c.bit → c.bit ≤ bits_in s → c.done ≤ nx → Even nx nblock c.done
      → in_width w c.last ≡ true → stands w s nx nblock c ≡ true
  unfolding stands
  stands_so low high done even last =
      rw (
        le-leb (start_bytes w * 8) c.bit low,
        le-leb c.bit (bits_in s) high,
        le-leb c.done nx done,
        even,
        last,
      )

even_end : (nx nblock d : ℕ) → d ≡ nx → Even nx nblock d
even_end nx nblock d h = rw (eq-eqb d nx h)

or-second : (a b : Bool) → a ≡ false → (a || b) ≡ true → b ≡ true
or-second true b h e = absurd (true≢false h)
or-second false b h e = e

or_true : (a b : Bool) → b ≡ true → (a || b) ≡ true
or_true true b h = refl
or_true false b h = h

even_next : (nx nblock d : ℕ) → d < nx → Even nx nblock d → Even nx nblock (d + nblock)
even_next nx nblock d h e =
    let whole : d % nblock ≡ 0 = eqb-true _ _ (or-second (eqb d nx) (eqb (d % nblock) 0) (ne_eqb d nx (λ x. absurd (omega arith))) e) in
    or_true (eqb (d + nblock) nx) (eqb ((d + nblock) % nblock) 0) (eq-eqb _ 0 (add-mod_right d nblock ∙ whole))

even_min : (nx nblock d e : ℕ) → e ≡ min (d + nblock) nx → d < nx → Even nx nblock d → Even nx nblock e
even_min nx nblock d e is h t = go (eqb e nx) refl
  where
    go : (b : Bool) → eqb e nx ≡ b → Even nx nblock e
    go true k = even_end nx nblock e (eqb-true e nx k)
    go false k =
        let other : e ≡ nx → ⊥ = eqb-false e nx k in
        let sum : d + nblock ≡ e = omega arith in
        subst (Even nx nblock) sum (even_next nx nblock d h t)

-- a cursor that keeps its rules stands
pub stand : {w : Width} {s : List ℕ} {nx nblock : ℕ} {c : Cursor} {px : List ℤ} → plan_of (length s) nx nblock (bits_of w) ≡ Some w
    → length px ≡ nx → stands w s nx nblock c ≡ true → Standing w s nx nblock c px
stand {w} {s} {nx} {nblock} {c} {px} planned sized rules =
    let r = kept w s nx nblock c rules in
    let p = plan_within (length s) nx nblock (bits_of w) planned in
    record {
      planned = planned;
      sized = sized;
      rules = rules;
      low = r.low;
      high = r.high;
      done = r.done;
      last = r.last;
      few = p.few;
      block = p.block;
      blocks = p.blocks;
      tile = p.tile;
    }

-- ---- the cursor of a tile that is opened keeps its rules

abbrev Opens : Width → List ℕ → ℕ → ℕ → Result Cursor Fault → Type 0
Opens w s nx nblock (Ok c) = stands w s nx nblock c ≡ true
Opens w s nx nblock (Err f) = Unit {0}

start-stands : (w : Width) (s : List ℕ) (nx nblock : ℕ) → 1 ≤ nblock → (r : Read) → field_read s 0 (start_bytes w * 8) ≡ r
    → Opens w s nx nblock (start_at w r)
start-stands w s nx nblock b (found v q) e =
    let f = field_of s 0 (start_bytes w * 8) v q e in
    let small : v < 2 ^ bits_of w = rw (f.value, ← (sizes w).start) (field_lt s 0 (start_bytes w * 8)) in
    stands_so w s nx nblock (record { bit = q; done = 0; last = pixel_of w v }) (omega (arith, f.place)) f.within (omega arith)
    (or_true (eqb 0 nx) (eqb (0 % nblock) 0) (eq-eqb _ 0 (mod-eq_of_lt b))) (pixel_in w v small)
start-stands w s nx nblock b short e = tt

open_stands : (w : Width) (s : List ℕ) (nx nblock bits : ℕ) (c : Cursor) → plan_of (length s) nx nblock bits ≡ Some w
    → open_of s nx nblock bits ≡ Ok c → stands w s nx nblock c ≡ true
unfolding open_of
open_stands w s nx nblock bits c plan e =
    subst (Opens w s nx nblock) (sym (ap (open_in s) plan) ∙ e)
    (start-stands w s nx nblock (plan_within (length s) nx nblock bits plan).block (field_read s 0 (start_bytes w * 8)) refl)

pub opened : (w : Width) (s : List ℕ) (nx nblock bits : ℕ) (c : Cursor) (px : List ℤ)
    → plan_of (length s) nx nblock bits ≡ Some w → length px ≡ nx → open_of s nx nblock bits ≡ Ok c
    → Standing w s nx nblock c px
opened w s nx nblock bits c px plan count e =
    stand (ap (plan_of (length s) nx nblock) (sym (plan_width (length s) nx nblock bits w plan)) ∙ plan) count
    (open_stands w s nx nblock bits c plan e)

-- ---- steps add up

module _ {w : Width} {s : List ℕ} {nx nblock : ℕ} where
  pub reach-start : {c : Cursor} {px : List ℤ} → Standing w s nx nblock c px → Reaches w s nx nblock c px c px
  reach-start {c} {px} S = record {
    steps = 0;
    same = λ k. ap (λ (n : ℕ). steps_of s nx nblock (bits_of w) n c px) (zero-add (suc k));
    further = omega arith;
    standing = S;
  }

  pub reach_on : {c d e : Cursor} {px new last : List ℤ} → Reaches w s nx nblock c px d new → Reaches w s nx nblock d new e last
      → Reaches w s nx nblock c px e last
  reach_on {c} {d} {e} {px} {new} {last} a b = record {
    steps = a.steps + b.steps;
    same = λ k.
        ap (λ (n : ℕ). steps_of s nx nblock (bits_of w) n c px) (omega arith)
        ∙ a.same (b.steps + k)
        ∙ ap (λ (n : ℕ). steps_of s nx nblock (bits_of w) n d new) (omega arith)
        ∙ b.same k;
    further = omega (arith, a.further, b.further);
    standing = b.standing;
  }

-- ---- a block is a step

module _ {w : Width} {s : List ℕ} {nx nblock : ℕ} {c : Cursor} {px : List ℤ} (S : Standing w s nx nblock c px)
    (left : c.done < nx) (d e : ℕ) (at : d ≡ c.done) (is : e ≡ min (c.done + nblock) nx) where
  -- what is lent to the block, and what comes to of it
  abbrev block : StepOutcome
  block = block_of w s c (mid_of d (e - d) px)

  pub step_is : step_of s nx nblock (bits_of w) c px ≡ part_lent w s c px d e
  step_is =
      step_block s nx nblock (bits_of w) c px w S.planned S.sized S.rules (λ x. absurd (omega arith)) e is
      ∙ ap (λ (n : ℕ). part_lent w s c px n e) (sym at)

  long : length (mid_of d (e - d) px) ≡ e - d
  long = mid_len d e px (omega (arith, S.sized))

  pub bounded : (a : Result (Option Cursor) Broken) → a ≡ block.answer → Bounded w s c (e - d) a
  bounded a answer =
      subst (λ (n : ℕ). Bounded w s c n a) long
      (subst (Bounded w s c (length (mid_of d (e - d) px))) (sym answer) (block_bounded w s c (mid_of d (e - d) px) S.last))

  module _ (ys : List ℤ) (content : ys ≡ block.content) where
    pub put-sized : length (put_mid d (e - d) px ys) ≡ length px
    put-sized = same_len_mid d (e - d) px ys (ap length content ∙ block-length w s c (mid_of d (e - d) px))

    one_step : (k : ℕ) (a : Result (Option Cursor) Broken) → a ≡ block.answer
        → steps_of s nx nblock (bits_of w) (suc k) c px
        ≡ after_step (steps_of s nx nblock (bits_of w) k) c (put_mid d (e - d) px ys) a
    unfolding steps_of
    one_step k a answer =
        ap (λ (o : StepOutcome). after_step (steps_of s nx nblock (bits_of w) k) c o.content o.answer) step_is
        ∙ sym (ap₂ (λ (x : List ℤ) (y : Result (Option Cursor) Broken). after_step (steps_of s nx nblock (bits_of w) k) c x y)
        (part_back d e px ys block.content (omega arith) content) answer)

    next_stands : (b : Cursor) → Ok (Some b) ≡ block.answer → Standing w s nx nblock b (put_mid d (e - d) px ys)
    next_stands b answer =
        let B = bounded (Ok (Some b)) answer in
        stand S.planned (put-sized ∙ S.sized)
        (stands_so w s nx nblock b (omega (arith, S.low, B.1)) B.2 (omega (arith, B.0))
        (even_min nx nblock c.done b.done (B.0 ∙ omega arith) left (kept w s nx nblock c S.rules).even) B.3)

    pub reach-block : (b : Cursor) → Ok (Some b) ≡ block.answer → Reaches w s nx nblock c px b (put_mid d (e - d) px ys)
    reach-block b answer = record {
      steps = 1;
      same = λ k. ap (λ (n : ℕ). steps_of s nx nblock (bits_of w) n c px) (one-add (suc k)) ∙ one_step (suc k) (Ok (Some b)) answer;
      further = omega (arith, (bounded (Ok (Some b)) answer).0, S.block);
      standing = next_stands b answer;
    }

-- ---- all steps, from where they have come to

module _ {w : Width} {s : List ℕ} {nx nblock : ℕ} {c₀ c : Cursor} {px₀ px : List ℤ}
    (R : Reaches w s nx nblock c₀ px₀ c px) where
  all_steps : steps_of s nx nblock (bits_of w) (suc nx) c₀ px₀ ≡ steps_of s nx nblock (bits_of w) (suc (nx - R.steps)) c px
  all_steps =
      ap (λ (n : ℕ). steps_of s nx nblock (bits_of w) n c₀ px₀) (omega (arith, R.further, R.standing.done))
      ∙ R.same (nx - R.steps)

  -- an answer and the pixels that all steps come to
  abbrev Answered : Result ℕ Broken → List ℤ → Type 0
  Answered a new = (a ≡ (steps_of s nx nblock (bits_of w) (suc nx) c₀ px₀).answer)
      × (new ≡ (steps_of s nx nblock (bits_of w) (suc nx) c₀ px₀).content)

  told : (o : DecodeOutcome) → steps_of s nx nblock (bits_of w) (suc (nx - R.steps)) c px ≡ o → Answered o.answer o.content
  told o e =
      let all = sym (all_steps ∙ e) in
      (ap (λ (f : DecodeOutcome). f.answer) all, ap (λ (f : DecodeOutcome). f.content) all)

  pub told-whole : nx ≤ c.done → Answered (Ok c.bit) px
  unfolding steps_of
  told-whole h =
      let S = R.standing in
      told (record { answer = Ok c.bit; content = px })
      (ap (λ (o : StepOutcome). after_step (steps_of s nx nblock (bits_of w) (nx - R.steps)) c o.content o.answer)
      (step_done s nx nblock (bits_of w) c px w S.planned S.sized S.rules (omega (arith, S.done))))

  pub told-refused : (d e : ℕ) → c.done < nx → d ≡ c.done → e ≡ min (c.done + nblock) nx
      → (ys : List ℤ) (b : Broken)
      → Err b ≡ (block_of w s c (mid_of d (e - d) px)).answer → ys ≡ (block_of w s c (mid_of d (e - d) px)).content
      → Answered (Err (record { fault = b.fault; written = d + b.written })) (put_mid d (e - d) px ys)
  told-refused d e left at is ys b answer content =
      let new = put_mid d (e - d) px ys in
      told (record { answer = Err (record { fault = b.fault; written = d + b.written }); content = new })
      (one_step R.standing left d e at is ys content (nx - R.steps) (Err b) answer
      ∙ ap (λ (k : ℕ). record { answer = Err (record { fault = b.fault; written = k + b.written }); content = new }) (sym at))
