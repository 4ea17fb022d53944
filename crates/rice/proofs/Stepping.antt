-- Laws of limits, of cursors and of steps. Assumes nothing.
use mathlib.Core.Path.{◌≡◌, refl, sym, ap, ap₂, ◌∙◌}
use mathlib.Core.Bool.{Bool, true, false, cond, ◌||◌}
use mathlib.Core.List.{List, ◌++◌}
use Prim.Native.Nat.{ℕ, ◌+◌, ◌-◌, ◌*◌, ◌%◌, ◌≤◌, ◌<◌, min}
use native.Mathlib.Omega.{arith}
use borrow.Author.Tests.{eq-eqb, ne_eqb, leb-true}
use lib.Dec.{eqb}
use lib.IntN.{ℤ}
use lib.ListN.{length, take, drop}
use native.Mathlib.Nat.{zero-add}
use borrow.Rule.Slice.PartMut.{put_mid, Post-is}
use Rattle.laws.proofs.Truths.{and_both}
use Rattle.rice.specs.Tile.{bits_in, field_at}
use Rattle.rice.specs.Widths.{start_bytes, pixel_of, in_width}
use Rattle.refusal.specs.Numbers.{fault_of}
use Rattle.refusal.specs.declared.Refusal.TheVariants as R
use Rattle.rice.specs.Reads.{field_read, most_bytes}
use Rattle.rice.specs.Blocks.{step_refused}
use Rattle.rice.specs.Steps.{most_pixels, most_block, in_limits, width_of, plan_of}
use Rattle.rice.specs.Steps.{stands, part_lent, step_in, step_of, start_at, open_in, open_of}
use Rattle.rice.specs.declared.width.Width.{Width}
use Rattle.rice.specs.declared.Cursor.{Cursor}
use Rattle.rice.proofs.Reading.{field_found, field-short}
use Rattle.std.specs.Prelude.{Option, Some, None, Ok, Err}

-- ---- limits

pub record Within (len nx nblock : ℕ) : Type 0 where
  pub some : 1 ≤ nx
  pub few : nx ≤ most_pixels
  pub block : 1 ≤ nblock
  pub blocks : nblock ≤ most_block
  pub tile : len ≤ most_bytes

within : (len nx nblock : ℕ) → in_limits len nx nblock ≡ true → Within len nx nblock
unfolding in_limits
within len nx nblock e =
    let a = and_both _ _ e in
    let b = and_both _ _ a.1 in
    let c = and_both _ _ b.1 in
    let d = and_both _ _ c.1 in
    record {
      some = leb-true _ _ a.0;
      few = leb-true _ _ b.0;
      block = leb-true _ _ c.0;
      blocks =
          leb-true _ _ d.0;
      tile = leb-true _ _ d.1;
    }

planned : (t : Bool) (p : Option Width) {w : Width} → cond t p None ≡ Some w → t ≡ true
planned true p e = refl
planned false p e = let z : ◌≡◌ {A = ℕ} 0 1 = cc in absurd (omega arith)

pub plan_within : (len nx nblock bits : ℕ) {w : Width} → plan_of len nx nblock bits ≡ Some w → Within len nx nblock
unfolding plan_of
plan_within len nx nblock bits e = within len nx nblock (planned (in_limits len nx nblock) (width_of bits) e)

-- ---- cursors

-- the rules of a cursor, kept
pub record Kept (w : Width) (s : List ℕ) (nx nblock : ℕ) (c : Cursor) : Type 0 where
  pub low : start_bytes w * 8 ≤ c.bit
  pub high : c.bit ≤ bits_in s
  pub done : c.done ≤ nx
  pub even : (eqb c.done nx || eqb (c.done % nblock) 0) ≡ true
  pub last : in_width w c.last ≡ true

module _ (w : Width) (s : List ℕ) (nx nblock : ℕ) (c : Cursor) where
  pub kept : stands w s nx nblock c ≡ true → Kept w s nx nblock c
  unfolding stands
  kept e =
      let a = and_both _ _ e in
      let b = and_both _ _ a.1 in
      let d = and_both _ _ b.1 in
      let l = and_both (eqb c.done nx || eqb (c.done % nblock) 0) (in_width w c.last) d.1 in
      record {
        low = leb-true _ _ a.0;
        high = leb-true _ _ b.0;
        done = leb-true _ _ d.0;
        even = l.0;
        last = l.1;
      }

-- ---- steps

module _ (s : List ℕ) (nx nblock bits : ℕ) (c : Cursor) (px : List ℤ) where
  pub step_limits : plan_of (length s) nx nblock bits ≡ None → step_of s nx nblock bits c px ≡ step_refused R.Limits px
  unfolding step_of
  step_limits e = ap (step_in s nx nblock c px) e

  module _ (w : Width) (plan : plan_of (length s) nx nblock bits ≡ Some w) where
    pub step_count : (length px ≡ nx → ⊥) → step_of s nx nblock bits c px ≡ step_refused R.PixelCount px
    unfolding step_of
    step_count h = ap (step_in s nx nblock c px) plan ∙ rw (ne_eqb (length px) nx h)

    module _ (count : length px ≡ nx) where
      pub step_cursor : stands w s nx nblock c ≡ false → step_of s nx nblock bits c px ≡ step_refused R.BadCursor px
      unfolding step_of
      step_cursor h = ap (step_in s nx nblock c px) plan ∙ rw (eq-eqb (length px) nx count, h)

      module _ (stand : stands w s nx nblock c ≡ true) where
        pub step_done : c.done ≡ nx → step_of s nx nblock bits c px ≡ record { answer = Ok None; content = px }
        unfolding step_of
        step_done h = ap (step_in s nx nblock c px) plan ∙ rw (eq-eqb (length px) nx count, stand, eq-eqb c.done nx h)

        pub step_block : (c.done ≡ nx → ⊥) → (e : ℕ) → e ≡ min (c.done + nblock) nx
            → step_of s nx nblock bits c px ≡ part_lent w s c px c.done e
        unfolding step_of
        step_block h e is =
            ap (step_in s nx nblock c px) plan
            ∙ rw (eq-eqb (length px) nx count, stand, ne_eqb c.done nx h) (ap (part_lent w s c px c.done) (sym is))

-- a part that comes back with ys
pub part_back : (d e : ℕ) (px ys zs : List ℤ) → d ≤ e → ys ≡ zs → put_mid d (e - d) px ys ≡ take d px ++ (zs ++ drop e px)
part_back d e px ys zs h q = ap₂ (λ (u v : List ℤ). take d px ++ (u ++ v)) q (Post-is d e px h)

-- ---- opening

module _ (s : List ℕ) (nx nblock bits : ℕ) where
  pub open_limits : plan_of (length s) nx nblock bits ≡ None → Err (fault_of R.Limits) ≡ open_of s nx nblock bits
  unfolding open_of
  open_limits e = sym (ap (open_in s) e)

  module _ (w : Width) (plan : plan_of (length s) nx nblock bits ≡ Some w) where
    pub open_short : bits_in s < start_bytes w * 8 → Err (fault_of R.TileEnds) ≡ open_of s nx nblock bits
    unfolding open_of
    open_short h = sym (ap (open_in s) plan ∙ ap (start_at w) (field-short s 0 (start_bytes w * 8) (omega arith)))

    pub open_at : (n : ℕ) (z : ℤ) → n ≡ start_bytes w * 8 → n ≤ bits_in s → z ≡ pixel_of w (field_at s 0 n)
        → Ok (record { bit = n; done = 0; last = z }) ≡ open_of s nx nblock bits
    unfolding open_of
    open_at n z e h ze =
        ap₂ (λ (b : ℕ) (y : ℤ). Ok (record { bit = b; done = 0; last = y })) (sym (zero-add n)) ze
        ∙ sym (ap (open_in s) plan ∙ ap (λ (k : ℕ). start_at w (field_read s 0 k)) (sym e)
        ∙ ap (start_at w) (field_found s 0 n (omega arith)))
