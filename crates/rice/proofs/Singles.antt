-- Laws of blocks of one pixel: its number is found, and its pixel is stored. Assumes nothing.
use mathlib.Core.Path.{◌≡◌, refl, sym, ap, subst, ◌∙◌}
use mathlib.Core.List.{List, [], ◌∷◌}
use Prim.Native.Nat.{ℕ, ◌+◌, ◌-◌, ◌^◌, ◌<◌}
use native.Mathlib.Nat.{add-zero, sub-zero}
use native.Mathlib.Omega.{arith}
use borrow.Rule.Slice.PartMut.{mid_of, mid_len, set_mid_at}
use lib.IntN.{ℤ}
use lib.ListN.{length, set, length-set}
use lib.Seq.{sets}
use Rattle.rice.specs.Widths.{bits_of, following}
use Rattle.rice.specs.Reads.{found, diff_read}
use Rattle.rice.specs.Blocks.{complete, Run, onward, run_of}
use Rattle.rice.specs.Words.{Single}
use Rattle.rice.specs.Filling.{raised, spot_at, outlook, whole_at}
use Rattle.rice.specs.declared.width.Width.{Width}
use Rattle.rice.specs.declared.width.Code.{Code}
use Rattle.rice.specs.declared.Cursor.{Cursor}
use Rattle.rice.proofs.FsCodes.{code_fits}
use Rattle.rice.proofs.Filling.{diff_small}
use Rattle.rice.proofs.Blockwise.{Onto, onto-block}

pub single_small : {w : Width} {s : List ℕ} {p u q : ℕ} → Single w s p u q → u < 2 ^ 32
single_small {w} {s} S = diff_small S.code s S.start (code_fits w S.field S.code S.known) S.read

-- what a block comes to that has one pixel
module _ (w : Width) (code : Code) (s : List ℕ) (part : List ℤ) (p u q level next : ℕ) (one : length part ≡ 1)
    (read : diff_read code s p ≡ found u q) (e : raised w next ≡ following w (raised w level) u) where
  one_run : run_of w code s (length part - 0) p (raised w level)
      ≡ record { pixels = raised w next ∷ []; end = complete q (raised w next) }
  unfolding run_of
  one_run =
      ap (λ (n : ℕ). run_of w code s n p (raised w level)) (sub-zero (length part) ∙ one)
      ∙ ap (onward w (raised w level) (run_of w code s 0)) read
      ∙ ap (λ (y : ℤ). record { pixels = y ∷ []; end = complete q y }) (sym e)

  one-outlook : outlook w code s part (spot_at p level) ≡ whole_at q (raised w next) (set part 0 (raised w next))
  one-outlook =
      ap (λ (r : Run). record { end = r.end; content = sets part 0 r.pixels; written = 0 + length r.pixels }) one_run
      ∙ ap (λ (n : ℕ). record { end = complete q (raised w next); content = set part 0 (raised w next); written = n })
      (sym (length-set part 0 (raised w next) ∙ one))

-- one block more
pub onto-one : {w : Width} {s : List ℕ} {nx : ℕ} {c₀ : Cursor} {px₀ px : List ℤ} {bit done level : ℕ}
    → Onto w s nx 1 c₀ px₀ px bit done level → done < nx → (u q next : ℕ) (new : List ℤ) → Single w s bit u q
    → next < 2 ^ bits_of w → raised w next ≡ following w (raised w level) u → new ≡ set px done (raised w next)
    → Onto w s nx 1 c₀ px₀ new q (done + 1) next
onto-one {w} {s} {nx} {c₀} {px₀} {px} {bit} {done} {level} O left u q next new S small e is =
    let x = raised w next in
    let k = done + 1 - done in
    let part = mid_of done k px in
    let one : length part ≡ 1 = mid_len done (done + 1) px (omega (arith, O.reach.standing.sized)) ∙ omega arith in
    let put = set_mid_at done k 0 px x (omega arith) ∙ ap (λ (i : ℕ). set px i x) (add-zero done) ∙ sym is in
    subst (λ (y : List ℤ). Onto w s nx 1 c₀ px₀ y q (done + 1) next) put
    (onto-block O (done + 1) refl (omega arith) S.field S.start S.code S.head S.known q next (set part 0 x) small
    (one-outlook w S.code s part S.start u q level next one S.read e))
