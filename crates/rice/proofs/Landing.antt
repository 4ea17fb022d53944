-- Where reads, runs and blocks end: further on, within the tile, with a last pixel of the width and as many pixels as were asked for.
-- Assumes nothing.
use mathlib.Core.Path.{◌≡◌, refl, ap, ◌∙◌}
use mathlib.Core.Bool.{Bool, true, false, cond}
use mathlib.Core.List.{List}
use Prim.Native.Nat.{ℕ, zero, suc, ◌+◌, ◌-◌, ◌^◌, ◌≤◌, ◌<◌}
use native.Mathlib.Omega.{arith}
use borrow.Author.Tests.{lt-ltb, ltb-true, ltb-false, leb-true}
use lib.Dec.{leb, ltb}
use lib.IntN.{ℤ, ◌+ℤ◌}
use lib.ListN.{length}
use lib.Pow.{pow_pos}
use lib.Seq.{length-sets}
use Rattle.rice.specs.Tile.{bits_in, field_at, zeros_at}
use Rattle.rice.specs.Widths.{bits_of, fs_bits, positives, pixel_of, in_width, wrap, difference, following}
use Rattle.rice.specs.Reads.{Read, found, short, field_read, run_read, above, then_field, diff_read, moved}
use Rattle.rice.specs.Blocks.{End, complete, cut, Run, onward, run_of, run_from, ran_to, code_of, coded, with_field, block_of}
use Rattle.rice.specs.declared.width.Width.{Width}
use Rattle.rice.specs.declared.width.Code.{Code}
use Rattle.rice.specs.declared.width.Code.TheVariants.{Same, Raw, Split}
use Rattle.rice.specs.declared.Cursor.{Cursor}
use Rattle.rice.proofs.Moduli.{modulo_lt}
use Rattle.rice.proofs.Wrapping.{sizes, pixel_low, pixel_high}
use Rattle.std.specs.Prelude.{Option, Some, None, Result, Ok, Err}
use Rattle.rice.specs.declared.Broken.{Broken}

-- ---- a pixel made of a number of the width's bits, and one that follows, are the width's

module _ (w : Width) (v : ℕ) (h : v < 2 ^ bits_of w) where
  pixel_by_lem : (t : Bool) → ltb v (positives w) ≡ t → in_width w (pixel_of w v) ≡ true
  unfolding in_width
  pixel_by_lem true e = ap (in_width w) (pixel_low w v (ltb-true v (positives w) e)) ∙ e
  pixel_by_lem false e =
      ap (in_width w) (pixel_high w v (ltb-false v (positives w) e) h)
      ∙ lt-ltb (2 ^ bits_of w - suc v) (2 ^ bits_of w - positives w) (omega (arith, (sizes w).some, ltb-false v (positives w) e))

  pub pixel_in : in_width w (pixel_of w v) ≡ true
  pixel_in = pixel_by_lem (ltb v (positives w)) refl

following_in : (w : Width) (last : ℤ) (u : ℕ) → in_width w (following w last u) ≡ true
unfolding wrap
following_in w last u = pixel_in w _ (modulo_lt (last +ℤ difference u) (2 ^ bits_of w) (pow_pos (bits_of w)))

-- ---- a read ends further on, within the tile

abbrev Further : List ℕ → ℕ → Read → Type 0
Further s p (found u q) = (p ≤ q) × (q ≤ bits_in s)
Further s p short = Unit {0}

by_test : (s : List ℕ) (p u q : ℕ) (t : Bool) → (t ≡ true → (p ≤ q) × (q ≤ bits_in s))
    → Further s p (cond t (found u q) short)
by_test s p u q true h = h refl
by_test s p u q false h = tt

field-further : (s : List ℕ) (p n : ℕ) → Further s p (field_read s p n)
unfolding field_read
field-further s p n = by_test s p (field_at s p n) (p + n) (leb (p + n) (bits_in s)) (λ e. (omega arith, leb-true _ _ e))

run_further : (s : List ℕ) (p : ℕ) → Further s p (run_read s p)
unfolding run_read
run_further s p =
    let n = zeros_at s p (bits_in s - p) in
    by_test s p n (p + n + 1) (ltb n (bits_in s - p)) (λ e. (omega arith, omega (arith, ltb-true n (bits_in s - p) e)))

above-further : (s : List ℕ) (p q n fs : ℕ) (r : Read) → p ≤ q → Further s q r → Further s p (above n fs r)
above-further s p q n fs (found u t) h f = (omega (arith, f.0), f.1)
above-further s p q n fs short h f = tt

then_further : (s : List ℕ) (p fs : ℕ) (r : Read) → Further s p r → Further s p (then_field s fs r)
then_further s p fs (found n q) f = above-further s p q n fs (field_read s q fs) f.0 (field-further s q fs)
then_further s p fs short f = tt

diff_further : (code : Code) (s : List ℕ) (p : ℕ) → p ≤ bits_in s → Further s p (diff_read code s p)
unfolding diff_read
diff_further Same s p h = (omega arith, h)
diff_further (Raw n) s p h = field-further s p n
diff_further (Split fs) s p h = then_further s p fs (run_read s p) (run_further s p)

-- ---- a run ends so, too, and has no more pixels than were asked for

abbrev Lands : Width → List ℕ → ℕ → End → Type 0
Lands w s p (complete q z) = (p ≤ q) × (q ≤ bits_in s) × (in_width w z ≡ true)
Lands w s p cut = Unit {0}

abbrev Ends : Width → List ℕ → ℕ → ℕ → Run → Type 0
Ends w s p k r = (length r.pixels ≤ k) × Lands w s p r.end

lands_before : (w : Width) (s : List ℕ) (p q : ℕ) (e : End) → p ≤ q → Lands w s q e → Lands w s p e
lands_before w s p q (complete t z) h l = (omega (arith, l.0), l.1, l.2)
lands_before w s p q cut h l = tt

onward_ends : (w : Width) (s : List ℕ) (p : ℕ) (last : ℤ) (k : ℕ) (rest : ℕ → ℤ → Run) (r : Read) → Further s p r
    → ((q : ℕ) (z : ℤ) → q ≤ bits_in s → in_width w z ≡ true → Ends w s q k (rest q z))
    → Ends w s p (suc k) (onward w last rest r)
onward_ends w s p last k rest (found u q) f h =
    let z = following w last u in
    let e = h q z f.1 (following_in w last u) in
    (omega (arith, e.0), lands_before w s p q (rest q z).end f.0 e.1)
onward_ends w s p last k rest short f h = (omega arith, tt)

run_ends : (w : Width) (code : Code) (s : List ℕ) (k p : ℕ) (last : ℤ) → p ≤ bits_in s → in_width w last ≡ true
    → Ends w s p k (run_of w code s k p last)
unfolding run_of
run_ends w code s zero p last h i = (omega arith, (omega arith, h, i))
run_ends w code s (suc k) p last h i =
    onward_ends w s p last k (run_of w code s k) (diff_read code s p) (diff_further code s p h) (run_ends w code s k)

-- ---- a block of n pixels goes on by n from a cursor, or is refused after at most n

abbrev pub Bounded : Width → List ℕ → Cursor → ℕ → Result (Option Cursor) Broken → Type 0
Bounded w s c n (Ok None) = ⊥
Bounded w s c n (Ok (Some d)) = (d.done ≡ c.done + n) × (c.bit ≤ d.bit) × (d.bit ≤ bits_in s) × (in_width w d.last ≡ true)
Bounded w s c n (Err b) = b.written ≤ n

answer_bounded : (w : Width) (s : List ℕ) (c : Cursor) (p n : ℕ) (e : End) (k : ℕ) → c.bit ≤ p → k ≤ n → Lands w s p e
    → Bounded w s c n (ran_to (moved c p) n e k)
answer_bounded w s c p n (complete q last) k l h e = (refl, omega (arith, e.0), e.1, e.2)
answer_bounded w s c p n cut k l h e = h

module _ (w : Width) (s : List ℕ) (c : Cursor) (part : List ℤ) where
  coded_bounded : (p : ℕ) (x : Option Code) → c.bit ≤ p → p ≤ bits_in s → in_width w c.last ≡ true
      → Bounded w s c (length part) (coded w s (moved c p) part x).answer
  coded_bounded p (Some code) l h i =
      let r = run_ends w code s (length part) p c.last h i in
      answer_bounded w s c p (length part) (run_from w code s (moved c p) (length part)).end _ l r.0 r.1
  coded_bounded p None l h i = omega arith

  field_bounded : (r : Read) → Further s c.bit r → in_width w c.last ≡ true
      → Bounded w s c (length part) (with_field w s c part r).answer
  field_bounded (found f q) h i = coded_bounded q (code_of w f) h.0 h.1 i
  field_bounded short h i = omega arith

  pub block_bounded : in_width w c.last ≡ true → Bounded w s c (length part) (block_of w s c part).answer
  unfolding block_of
  block_bounded i = field_bounded (field_read s c.bit (fs_bits w)) (field-further s c.bit (fs_bits w)) i

  -- the part keeps its length
  coded-length : (d : Cursor) (x : Option Code) → length (coded w s d part x).content ≡ length part
  coded-length d (Some code) = length-sets part 0 (run_from w code s d (length part)).pixels
  coded-length d None = refl

  field-length : (r : Read) → length (with_field w s c part r).content ≡ length part
  field-length (found f q) = coded-length (moved c q) (code_of w f)
  field-length short = refl

  pub block-length : length (block_of w s c part).content ≡ length part
  unfolding block_of
  block-length = field-length (field_read s c.bit (fs_bits w))
