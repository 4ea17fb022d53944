-- Laws of loops over blocks: a block whose FS field is read and whose pixels are stored, and the block in which the tile ends.
-- Assumes nothing.
use mathlib.Core.Path.{◌≡◌, refl, sym, ap, ap₂, subst, ◌∙◌}
use mathlib.Core.List.{List, [], ◌∷◌, ◌++◌}
use Prim.Native.Nat.{ℕ, suc, ◌+◌, ◌-◌, ◌/◌, ◌%◌, ◌^◌, ◌≤◌, ◌<◌, min}
use native.Mathlib.Nat.{zero-add, sub-zero}
use native.Mathlib.Omega.{arith}
use borrow.Rule.Slice.PartMut.{mid_of, post_of, put_mid, mid_len, same_len_mid, take_put, drop_put}
use lib.IntN.{ℤ}
use lib.ListN.{length, take, drop, set}
use lib.Seq.{sets, set-set, set_comm, length-take-le, take_at, drop_at}
use Rattle.rice.specs.Widths.{bits_of, fs_bits}
use Rattle.rice.specs.Reads.{found, field_read, moved}
use Rattle.rice.specs.Held.{held_bits}
use Rattle.rice.specs.Blocks.{StepOutcome, Run, run_of, cut, ran_to, filled_of, code_of, block_of}
use Rattle.rice.specs.Filling.{raised, counted, spot_at, Outlook, outlook, whole_at}
use Rattle.rice.specs.Steps.{part_lent, after_step, steps_of}
use Rattle.rice.specs.Easy.{Standing, Reaches}
use Rattle.rice.specs.declared.width.Width.{Width}
use Rattle.rice.specs.declared.width.Code.{Code}
use Rattle.rice.specs.declared.Cursor.{Cursor}
use Rattle.rice.proofs.HeldBits.{held_first}
use Rattle.rice.proofs.Wrapping.{sizes}
use Rattle.rice.proofs.Reading.{field_found}
use Rattle.rice.proofs.FsCodes.{block-known}
use Rattle.rice.proofs.Reaching.{stand, reach_on, reach-block, step_is}
use Rattle.std.specs.Prelude.{Some, Ok}

-- ---- the FS field at the top of a window

pub window_field : (w : Width) (s : List ℕ) (p v n : ℕ) → n ≡ fs_bits w → p / 8 + 8 ≤ length s
    → v ≡ held_bits s p (64 - p % 8)
    → field_read s p (fs_bits w) ≡ found (v / 2 ^ (64 - n)) (p + n)
window_field w s p v n size h e =
    ap (field_read s p) (sym size)
    ∙ field_found s p n (omega (arith, (sizes w).field))
    ∙ ap (λ (u : ℕ). found u (p + n))
    (sym (ap (λ (x : ℕ). x / 2 ^ (64 - n)) e ∙ held_first s p n (64 - p % 8) (omega (arith, (sizes w).field)) (omega arith)))

-- ---- what is stored twice is stored

module _ {A : Type 0} where
  set-sets : (xs l : List A) (i j : ℕ) (a : A) → i < j → set (sets l j xs) i a ≡ sets (set l i a) j xs
  set-sets [] l i j a h = refl
  set-sets (x ∷ xs) l i j a h =
      set-sets xs (set l j x) i (suc j) a (omega arith)
      ∙ ap (λ (y : List A). sets y (suc j) xs) (set_comm l j i x a (λ e. absurd (omega arith)))

  sets_again : (xs l : List A) (i : ℕ) → sets (sets l i xs) i xs ≡ sets l i xs
  sets_again [] l i = refl
  sets_again (x ∷ xs) l i =
      ap (λ (y : List A). sets y (suc i) xs) (set-sets xs (set l i x) i (suc i) x (omega arith))
      ∙ ap (λ (y : List A). sets (sets y (suc i) xs) (suc i) xs) (set-set l i x x)
      ∙ sets_again xs (set l i x) (suc i)

-- ---- a block, by its outlook

-- a block that is filled again comes to the same
outlook_again : (w : Width) (code : Code) (s : List ℕ) (old : List ℤ) (q level : ℕ) (o : Outlook)
    → outlook w code s old (spot_at q level) ≡ o → length o.content ≡ length old
    → outlook w code s o.content (spot_at q level) ≡ o
outlook_again w code s old q level o e l =
    let R : ℕ → Run = λ (n : ℕ). run_of w code s (n - 0) q (raised w level) in
    let new = o.content in
    let xs = (R (length old)).pixels in
    ap (λ (n : ℕ). record { end = (R n).end; content = sets new 0 (R n).pixels; written = 0 + length (R n).pixels }) l
    ∙ ap (λ (y : List ℤ). record { end = (R (length old)).end; content = y; written = 0 + length xs })
    (ap (λ (y : List ℤ). sets y 0 xs) (sym (ap (λ (x : Outlook). x.content) e)) ∙ sets_again xs old 0)
    ∙ e

-- what a cursor answers where a block comes to an outlook
abbrev answered : Cursor → List ℤ → Outlook → StepOutcome
answered c part o = record { answer = ran_to c (length part) o.end o.written; content = o.content }

module _ (w : Width) (s : List ℕ) (c : Cursor) (f q level : ℕ) (code : Code) (field : field_read s c.bit (fs_bits w) ≡ found f q)
    (says : code_of w f ≡ Some code) (last : raised w level ≡ c.last) where
  pub block_came : (part : List ℤ) (o : Outlook) → outlook w code s part (spot_at q level) ≡ o
      → block_of w s c part ≡ answered (moved c q) part o
  block_came part o e =
      let run : run_of w code s (length part) q c.last ≡ run_of w code s (length part - 0) q (raised w level) =
      sym (ap₂ (λ (n : ℕ) (z : ℤ). run_of w code s n q z) (sub-zero (length part)) last)
      in
      block-known w s c part (moved c q) f field refl code says
      ∙ ap (λ (r : Run). record { answer = filled_of (moved c q) (length part) r; content = sets part 0 r.pixels }) run
      ∙ ap (λ (k : ℕ). record {
        answer = ran_to (moved c q) (length part) (outlook w code s part (spot_at q level)).end k;
        content = (outlook w code s part (spot_at q level)).content;
      }) (sym (zero-add _))
      ∙ ap (answered (moved c q) part) e

  -- a block in which the tile ends may be filled again
  pub block_again : (old new : List ℤ) (n : ℕ) → length new ≡ length old
      → outlook w code s old (spot_at q level) ≡ record { end = cut; content = new; written = n }
      → block_of w s c new ≡ block_of w s c old
  block_again old new n l e =
      block_came new (record { end = cut; content = new; written = n })
      (outlook_again w code s old q level (record { end = cut; content = new; written = n }) e l)
      ∙ sym (block_came old (record { end = cut; content = new; written = n }) e)

-- ---- a part that is written, and whose block is made again, changes nothing

put_mid_lem : (d e : ℕ) (px ys : List ℤ) → d ≤ length px → length ys ≡ e - d
    → mid_of d (e - d) (put_mid d (e - d) px ys) ≡ ys
put_mid_lem d e px ys h l =
    ap (take (e - d)) (drop_at (take d px) (ys ++ post_of d (e - d) px) d (length-take-le d px h))
    ∙ take_at ys (post_of d (e - d) px) (e - d) l

module _ {w : Width} {s : List ℕ} {nx nblock : ℕ} {c : Cursor} {px : List ℤ} (S : Standing w s nx nblock c px)
    (left : c.done < nx) (e : ℕ) (is : e ≡ min (c.done + nblock) nx) where
  lent_same : (ys : List ℤ) → length ys ≡ e - c.done → block_of w s c ys ≡ block_of w s c (mid_of c.done (e - c.done) px)
      → part_lent w s c (put_mid c.done (e - c.done) px ys) c.done e ≡ part_lent w s c px c.done e
  lent_same ys l same =
      let d = c.done in
      let new = put_mid d (e - d) px ys in
      let within : d ≤ length px = omega (arith, S.sized) in
      let o : block_of w s c (mid_of d (e - d) new) ≡ block_of w s c (mid_of d (e - d) px) =
      ap (block_of w s c) (put_mid_lem d e px ys within l) ∙ same
      in
      ap (λ (x : StepOutcome). record { answer = x.answer; content = take d new ++ (x.content ++ drop e new) }) o
      ∙ ap₂ (λ (x y : List ℤ). record {
        answer = (block_of w s c (mid_of d (e - d) px)).answer;
        content = x ++ ((block_of w s c (mid_of d (e - d) px)).content ++ y);
      })
      (take_put d (e - d) px ys within) (drop_put d e px ys (omega arith) (omega (arith, S.sized)) l)

  pub reach-same : (ys : List ℤ) → length ys ≡ e - c.done → block_of w s c ys ≡ block_of w s c (mid_of c.done (e - c.done) px)
      → Reaches w s nx nblock c px c (put_mid c.done (e - c.done) px ys)
  unfolding steps_of
  reach-same ys l same =
      let d = c.done in
      let new = put_mid d (e - d) px ys in
      let T : Standing w s nx nblock c new =
      stand S.planned (same_len_mid d (e - d) px ys (l ∙ sym (mid_len d e px (omega (arith, S.sized)))) ∙ S.sized) S.rules
      in
      record {
        steps = 0;
        same = λ k.
            ap (λ (n : ℕ). steps_of s nx nblock (bits_of w) n c px) (zero-add (suc k))
            ∙ ap (λ (o : StepOutcome). after_step (steps_of s nx nblock (bits_of w) k) c o.content o.answer)
            (step_is S left d e refl is ∙ sym (step_is T left d e refl is ∙ lent_same ys l same));
        further = omega arith;
        standing = T;
      }

-- ---- a loop over blocks: what is reached, with the last pixel counted from the lowest one

pub record Onto (w : Width) (s : List ℕ) (nx nblock : ℕ) (c₀ : Cursor) (px₀ px : List ℤ) (bit done level : ℕ) : Type 0 where
  pub small : level < 2 ^ bits_of w
  pub reach : Reaches w s nx nblock c₀ px₀ (counted w bit done level) px

-- the loop's end: the last pixels are those of the two cursors
pub onto-end : {w : Width} {s : List ℕ} {nx nblock : ℕ} (c : Cursor) {px₀ : List ℤ} (level₀ : ℕ) → raised w level₀ ≡ c.last
    → {px : List ℤ} {bit done level : ℕ} → Onto w s nx nblock (counted w c.bit c.done level₀) px₀ px bit done level
    → (d : Cursor) → d ≡ counted w bit done level → Reaches w s nx nblock c px₀ d px
onto-end {w} {s} {nx} {nblock} c {px₀} level₀ first {px} O d e =
    subst (λ (y : ℤ). Reaches w s nx nblock (record { bit = c.bit; done = c.done; last = y }) px₀ d px) first
    (subst (λ (x : Cursor). Reaches w s nx nblock (counted w c.bit c.done level₀) px₀ x px) (sym e) O.reach)

module _ {w : Width} {s : List ℕ} {nx nblock : ℕ} {c₀ : Cursor} {px₀ px : List ℤ} {bit done level : ℕ}
    (O : Onto w s nx nblock c₀ px₀ px bit done level) (e : ℕ) (is : e ≡ done + nblock) (more : nblock ≤ nx - done)
    (f q : ℕ) (code : Code) (field : field_read s bit (fs_bits w) ≡ found f q) (says : code_of w f ≡ Some code) where
  left : done < nx
  left = omega (arith, O.reach.standing.block, O.reach.standing.done)

  ends : e ≡ min (done + nblock) nx
  ends = omega (arith, O.reach.standing.done)

  lent : length (mid_of done (e - done) px) ≡ e - done
  lent = mid_len done e px (omega (arith, O.reach.standing.done, O.reach.standing.sized))

  pub onto-block : (p next : ℕ) (new : List ℤ) → next < 2 ^ bits_of w
      → outlook w code s (mid_of done (e - done) px) (spot_at q level) ≡ whole_at p (raised w next) new
      → Onto w s nx nblock c₀ px₀ (put_mid done (e - done) px new) p e next
  onto-block p next new h o =
      let b = block_came w s (counted w bit done level) f q level code field says refl (mid_of done (e - done) px)
      (whole_at p (raised w next) new) o in
      let to : e ≡ done + length (mid_of done (e - done) px) = omega (arith, lent) in
      record {
        small = h;
        reach = reach_on O.reach
            (reach-block O.reach.standing left done e refl ends new (sym (ap (λ (x : StepOutcome). x.content) b))
            (counted w p e next)
            (ap (λ (n : ℕ). Ok (Some (record { bit = p; done = n; last = raised w next }))) to
            ∙ sym (ap (λ (x : StepOutcome). x.answer) b)));
      }

  pub onto-cut : (n : ℕ) (new : List ℤ) → length new ≡ length (mid_of done (e - done) px)
      → outlook w code s (mid_of done (e - done) px) (spot_at q level) ≡ record { end = cut; content = new; written = n }
      → Onto w s nx nblock c₀ px₀ (put_mid done (e - done) px new) bit done level
  onto-cut n new l o = record {
    small = O.small;
    reach = reach_on O.reach
        (reach-same O.reach.standing left e ends new (l ∙ lent)
        (block_again w s (counted w bit done level) f q level code field says refl (mid_of done (e - done) px) new n l o));
  }
