-- Laws of blocks whose differences are all 0: a field of zeros says so, and block after block the pixels are all the last one.
-- Assumes nothing.
use mathlib.Core.Path.{◌≡◌, refl, sym, ap, ap₂, subst, ◌∙◌}
use mathlib.Core.Bool.{true}
use mathlib.Core.List.{List, ◌++◌, append-nil, append_assoc}
use Prim.Native.Nat.{ℕ, zero, suc, ◌+◌, ◌-◌, ◌*◌, ◌/◌, ◌^◌, ◌≤◌, ◌<◌, min}
use native.Mathlib.Nat.{zero-mul, suc-mul, mul-le-mul_right, div-mul-le_self}
use native.Mathlib.Omega.{arith}
use borrow.Rule.Slice.PartMut.{mid_of, post_of, put_mid, mid_len, put_same}
use lib.IntN.{ℤ}
use lib.ListN.{length, take, drop, length-append, replicate, length-replicate, replicate-append-replicate}
use lib.Seq.{length-take-le, drop-length, drop-drop, take_at, drop_at, sets, sets-eq}
use Rattle.rice.specs.Tile.{bits_in, field_at, zeros_at}
use Rattle.rice.specs.Widths.{fs_bits, in_width}
use Rattle.rice.specs.Reads.{diff_read, moved}
use Rattle.rice.specs.Blocks.{complete, Run, also, run_of, filled_of, StepOutcome, coded, block_of}
use Rattle.rice.specs.Easy.{Standing, Reaches}
use Rattle.rice.specs.declared.width.Width.{Width}
use Rattle.rice.specs.declared.width.Code.TheVariants.{Same}
use Rattle.rice.specs.declared.Cursor.{Cursor}
use Rattle.rice.proofs.ZeroRuns.{zeros_all, zeros_on, zeros_long}
use Rattle.rice.proofs.Wrapping.{following-none}
use Rattle.rice.proofs.FsCodes.{code_same, block-known}
use Rattle.rice.proofs.Reading.{field_found}
use Rattle.rice.proofs.Reaching.{reach-start, reach_on, reach-block}
use Rattle.std.specs.Prelude.{Some, Ok}

-- no more than a quotient
times-within : (m a n : ℕ) → m ≤ a / n → m * n ≤ a
times-within m a n h = omega (arith, mul-le-mul_right n h, div-mul-le_self a n)

-- ---- a run of zeros

zeros_most : (s : List ℕ) (p n : ℕ) → zeros_at s p n ≤ n
zeros_most s p n = omega (arith, (zeros_long s p n).1)

-- b bits of it, after a of them
field-zero : (s : List ℕ) (p a b n : ℕ) → a + b ≤ zeros_at s p n → field_at s (p + a) b ≡ 0
field-zero s p a b n h =
    let first : zeros_at s p a ≡ a = zeros_all s p a n (omega arith) in
    let l = zeros_long s (p + a) b in
    let none : l.0 ≡ 0 = omega (arith, zeros_on s p a b first, zeros_all s p (a + b) n h, l.1) in
    let small : field_at s (p + a) b < 2 ^ 0 = subst (λ (m : ℕ). field_at s (p + a) b < 2 ^ m) none l.2 in
    omega arith

-- ---- the pixels of a block

module _ (w : Width) (s : List ℕ) (z : ℤ) (h : in_width w z ≡ true) where
  run_same : (k p : ℕ) → run_of w Same s k p z ≡ record { pixels = replicate k z; end = complete p z }
  unfolding run_of diff_read
  run_same zero p = refl
  run_same (suc k) p =
      ap (λ (x : ℤ). also x (run_of w Same s k p x)) (following-none w z h) ∙ ap (also z) (run_same k p)

over_all : (part : List ℤ) (z : ℤ) → sets part 0 (replicate (length part) z) ≡ replicate (length part) z
over_all part z =
    let n = length part in
    let long : length (replicate n z) ≡ n = length-replicate n z in
    let end : 0 + length (replicate n z) ≡ n = omega arith in
    sets-eq (replicate n z) part 0 (omega arith)
    ∙ ap (λ (k : ℕ). replicate n z ++ drop k part) end
    ∙ ap (λ (l : List ℤ). replicate n z ++ l) (drop-length part)
    ∙ append-nil (replicate n z)

pub level_coded : (w : Width) (s : List ℕ) (c : Cursor) (part : List ℤ) → in_width w c.last ≡ true
    → coded w s c part (Some Same)
    ≡ record {
      answer = Ok (Some (record { bit = c.bit; done = c.done + length part; last = c.last }));
      content = replicate (length part) c.last;
    }
level_coded w s c part h =
    ap (λ (r : Run). record { answer = filled_of c (length part) r; content = sets part 0 r.pixels })
    (run_same w s c.last h (length part) c.bit)
    ∙ ap (λ (l : List ℤ). record {
      answer = Ok (Some (record { bit = c.bit; done = c.done + length part; last = c.last }));
      content = l;
    }) (over_all part c.last)

-- ---- parts that are put behind each other

put_on : (d a b : ℕ) (px ys zs : List ℤ) → d ≤ length px → length ys ≡ a
    → put_mid (d + a) b (put_mid d a px ys) zs ≡ put_mid d (a + b) px (ys ++ zs)
put_on d a b px ys zs h l =
    let whole : put_mid d a px ys ≡ (take d px ++ ys) ++ post_of d a px = sym (append_assoc (take d px) ys (post_of d a px)) in
    let sum : length (take d px) + length ys ≡ d + a = omega (arith, length-take-le d px h) in
    let long : length (take d px ++ ys) ≡ d + a = length-append (take d px) ys ∙ sum in
    let front : take (d + a) (put_mid d a px ys) ≡ take d px ++ ys
    = ap (take (d + a)) whole ∙ take_at (take d px ++ ys) (post_of d a px) (d + a) long in
    let back : drop (d + a) (put_mid d a px ys) ≡ post_of d a px
    = ap (drop (d + a)) whole ∙ drop_at (take d px ++ ys) (post_of d a px) (d + a) long in
    ap₂ (λ (u v : List ℤ). u ++ (zs ++ drop b v)) front back
    ∙ append_assoc (take d px) ys (zs ++ drop b (post_of d a px))
    ∙ ap (λ (l : List ℤ). take d px ++ l) (sym (append_assoc ys zs (drop b (post_of d a px))))
    ∙ ap (λ (l : List ℤ). take d px ++ ((ys ++ zs) ++ l)) (drop-drop b a (drop d px))

-- ---- blocks are reached

-- a cursor and pixels by other words
reach_as : {w : Width} {s : List ℕ} {nx nblock : ℕ} {c d e : Cursor} {px new last : List ℤ} → Reaches w s nx nblock c px d new
    → d ≡ e → new ≡ last → Reaches w s nx nblock c px e last
reach_as {w} {s} {nx} {nblock} {c} {d} {e} {px} {new} {last} r p q =
    subst (λ (x : Cursor). Reaches w s nx nblock c px x last) p (subst (Reaches w s nx nblock c px d) q r)

cursor_as : {p q d e : ℕ} {y z : ℤ} → p ≡ q → d ≡ e → y ≡ z
    → ◌≡◌ {A = Cursor} (record { bit = p; done = d; last = y }) (record { bit = q; done = e; last = z })
cursor_as f g h = λ j. record { bit = f j; done = g j; last = h j }

-- the pixels with k of them made the last one
abbrev flat : Cursor → List ℤ → ℕ → List ℤ
flat c px k = put_mid c.done k px (replicate k c.last)

-- one block
level_one : {w : Width} {s : List ℕ} {nx nblock : ℕ} {c : Cursor} {px : List ℤ} → Standing w s nx nblock c px
    → c.done + nblock ≤ nx → c.bit + fs_bits w ≤ bits_in s → field_at s c.bit (fs_bits w) ≡ 0
    → Reaches w s nx nblock c px (record { bit = c.bit + fs_bits w; done = c.done + nblock; last = c.last }) (flat c px nblock)
level_one {w} {s} {nx} {nblock} {c} {px} S room inside none =
    let d = c.done in
    let e = c.done + nblock in
    let part = mid_of d (e - d) px in
    let next : Cursor = record { bit = c.bit + fs_bits w; done = d + length part; last = c.last } in
    let is : block_of w s c part ≡ record { answer = Ok (Some next); content = replicate (length part) c.last }
    = block-known w s c part (moved c (c.bit + fs_bits w)) _ (field_found s c.bit (fs_bits w) inside) refl Same
    (code_same w _ none)
    ∙ level_coded w s (moved c (c.bit + fs_bits w)) part S.last in
    let one = reach-block S (omega (arith, S.block)) d e refl (omega arith) (replicate (length part) c.last)
    (sym (ap (λ (o : StepOutcome). o.content) is)) next (sym (ap (λ (o : StepOutcome). o.answer) is)) in
    let long : length part ≡ e - d = mid_len d e px (omega (arith, S.sized)) in
    let size : e - d ≡ nblock = omega arith in
    reach_as one (cursor_as refl (omega arith) refl)
    (ap (λ (k : ℕ). put_mid d (e - d) px (replicate k c.last)) long ∙ ap (flat c px) size)

module _ {w : Width} {s : List ℕ} {nx nblock : ℕ} {c : Cursor} {px : List ℤ} (S : Standing w s nx nblock c px) where
  -- m blocks, whose fields are among n bits
  levels_on : (n : ℕ) → c.bit + n ≤ bits_in s → (m : ℕ) → m * fs_bits w ≤ zeros_at s c.bit n → c.done + m * nblock ≤ nx
      → Reaches w s nx nblock c px (record { bit = c.bit + m * fs_bits w; done = c.done + m * nblock; last = c.last })
      (flat c px (m * nblock))
  levels_on n tile zero h k =
      reach_as (reach-start S) (cursor_as (omega arith) (omega arith) refl)
      (sym (put_same c.done 0 px) ∙ ap (flat c px) (sym (zero-mul nblock)))
  levels_on n tile (suc m) h k =
      let bits = suc-mul m (fs_bits w) in
      let pixels = suc-mul m nblock in
      let R = levels_on n tile m (omega arith) (omega arith) in
      let one = level_one R.standing (omega arith) (omega (arith, zeros_most s c.bit n))
      (field-zero s c.bit (m * fs_bits w) (fs_bits w) n (omega arith)) in
      reach_as (reach_on R one) (cursor_as (omega arith) (omega arith) refl)
      (put_on c.done (m * nblock) nblock px (replicate (m * nblock) c.last) (replicate nblock c.last)
      (omega (arith, S.done, S.sized)) (length-replicate (m * nblock) c.last)
      ∙ ap (put_mid c.done (m * nblock + nblock) px) (replicate-append-replicate (m * nblock) nblock c.last)
      ∙ ap (flat c px) (sym pixels))

  -- as many as there are fields of zeros among n bits, and whole blocks among the pixels that are left
  module _ (size n zeros many : ℕ) (field : size ≡ fs_bits w) (tile : n ≤ bits_in s - c.bit)
      (run : zeros ≡ zeros_at s c.bit n) (is : many ≡ min (zeros / size) ((nx - c.done) / nblock)) where
    fields_fit : many * size ≤ zeros_at s c.bit n
    fields_fit = omega (arith, times-within many zeros size (omega arith))

    pub pixels_fit : c.done + many * nblock ≤ nx
    pixels_fit = omega (arith, times-within many (nx - c.done) nblock (omega arith), S.done)

    pub reach_levels : (z : ℤ) (new : List ℤ) → z ≡ c.last
        → new ≡ replicate (length (mid_of c.done (c.done + many * nblock - c.done) px)) z
        → Reaches w s nx nblock c px (record { bit = c.bit + many * size; done = c.done + many * nblock; last = z })
        (put_mid c.done (c.done + many * nblock - c.done) px new)
    reach_levels z new last content =
        let d = c.done in
        let e = c.done + many * nblock in
        let all : many * fs_bits w ≡ many * size = ap (λ (k : ℕ). many * k) (sym field) in
        let long : length (mid_of d (e - d) px) ≡ e - d = mid_len d e px (omega (arith, S.sized, pixels_fit)) in
        let whole : e - d ≡ many * nblock = omega arith in
        let filled : new ≡ replicate (e - d) c.last = content ∙ ap₂ (λ (k : ℕ) (y : ℤ). replicate k y) long last in
        reach_as (levels_on n (omega (arith, S.high)) many (omega (arith, fields_fit)) pixels_fit)
        (cursor_as (omega arith) refl (sym last))
        (ap (flat c px) (sym whole) ∙ ap (put_mid d (e - d) px) (sym filled))
