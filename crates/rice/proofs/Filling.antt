-- Laws of runs of differences, and of what a block comes to while their pixels are stored. Assumes nothing.
use mathlib.Core.Path.{◌≡◌, refl, sym, ap, ap₂, ◌∙◌}
use mathlib.Core.List.{List, []}
use Prim.Native.Nat.{ℕ, suc, ◌+◌, ◌-◌, ◌*◌, ◌%◌, ◌^◌, ◌≤◌, ◌<◌}
use native.Mathlib.Nat.{add-zero, mod-lt, lt_of_lt_of_le}
use native.Mathlib.Numerals.{add-one}
use native.Mathlib.Omega.{arith}
use lib.IntN.{ℤ}
use lib.ListN.{length, set, length-set}
use lib.Seq.{sets}
use lib.Pow.{pow_pos, pow_mono}
use Rattle.rice.proofs.Fields.{field_lt}
use Rattle.rice.specs.Tile.{bits_in}
use Rattle.rice.specs.Widths.{bits_of, following}
use Rattle.rice.specs.Reads.{Read, found, short, field_read, run_read, above, then_field, diff_read}
use Rattle.rice.specs.Held.{Holds, CodeFits}
use Rattle.rice.specs.Blocks.{complete, cut, Run, also, onward, run_of}
use Rattle.rice.specs.Words.{Pairs}
use Rattle.rice.specs.Filling.{raised, Inside, Outlook, outlook, Onward, whole_at, CameTo}
use Rattle.rice.specs.declared.pixels.Spot.{Spot}
use Rattle.rice.specs.declared.width.Width.{Width}
use Rattle.rice.specs.declared.width.Code.{Code}
use Rattle.rice.specs.declared.width.Code.TheVariants.{Same, Raw, Split}
use Rattle.rice.proofs.Reading.{field_of}
use Rattle.std.specs.Prelude.{Ok, Err}
use Rattle.rice.specs.declared.ahead.Ahead.{Ahead}

-- ---- a number that is found is below 2 ^ 32

above_small : (n fs : ℕ) (r : Read) {u q : ℕ} → above n fs r ≡ found u q → u < 2 ^ 32
above_small n fs (found v t) {u} e = let value : (n * 2 ^ fs + v) % 2 ^ 32 ≡ u = cc in rw (← value) (mod-lt _ (pow_pos 32))
above_small n fs short e = let z : ◌≡◌ {A = ℕ} 0 1 = cc in absurd (omega arith)

then_small : (s : List ℕ) (fs : ℕ) (r : Read) {u q : ℕ} → then_field s fs r ≡ found u q → u < 2 ^ 32
then_small s fs (found n p) e = above_small n fs (field_read s p fs) e
then_small s fs short e = let z : ◌≡◌ {A = ℕ} 0 1 = cc in absurd (omega arith)

pub diff_small : (code : Code) (s : List ℕ) (p : ℕ) {u q : ℕ} → CodeFits code → diff_read code s p ≡ found u q → u < 2 ^ 32
unfolding diff_read
diff_small Same s p {u} c e = let value : 0 ≡ u = cc in omega arith
diff_small (Raw n) s p {u} {q} c e = rw (field_of s p n u q e).value (lt_of_lt_of_le (field_lt s p n) (pow_mono c))
diff_small (Split fs) s p c e = then_small s fs (run_read s p) e

-- ---- and the place after it is within the tile

above_within : (s : List ℕ) (n fs p : ℕ) {u q : ℕ} (r : Read) → field_read s p fs ≡ r → above n fs r ≡ found u q
    → q ≤ bits_in s
above_within s n fs p {u} {q} (found v t) f e = let place : t ≡ q = cc in rw (← place) (field_of s p fs v t f).within
above_within s n fs p short f e = let z : ◌≡◌ {A = ℕ} 0 1 = cc in absurd (omega arith)

then_within : (s : List ℕ) (fs : ℕ) (r : Read) {u q : ℕ} → then_field s fs r ≡ found u q → q ≤ bits_in s
then_within s fs (found n p) e = above_within s n fs p (field_read s p fs) refl e
then_within s fs short e = let z : ◌≡◌ {A = ℕ} 0 1 = cc in absurd (omega arith)

pub split_within : (s : List ℕ) (fs p : ℕ) {u q : ℕ} → diff_read (Split fs) s p ≡ found u q → q ≤ bits_in s
unfolding diff_read
split_within s fs p e = then_within s fs (run_read s p) e

-- ---- a run of n pixels, i of them done

module _ (w : Width) (code : Code) (s : List ℕ) (n i p : ℕ) (last : ℤ) where
  pub run_on : {u q : ℕ} → i < n → diff_read code s p ≡ found u q
      → run_of w code s (n - i) p last ≡ also (following w last u) (run_of w code s (n - (i + 1)) q (following w last u))
  unfolding run_of
  run_on h e =
      let more : n - i ≡ suc (n - (i + 1)) = omega arith in
      ap (λ k. run_of w code s k p last) more ∙ ap (onward w last (run_of w code s (n - (i + 1)))) e

  pub run_cut : i < n → diff_read code s p ≡ short → run_of w code s (n - i) p last ≡ record { pixels = []; end = cut }
  unfolding run_of
  run_cut h e =
      let more : n - i ≡ suc (n - (i + 1)) = omega arith in
      ap (λ k. run_of w code s k p last) more ∙ ap (onward w last (run_of w code s (n - (i + 1)))) e

  pub run_done : n ≤ i → run_of w code s (n - i) p last ≡ record { pixels = []; end = complete p last }
  unfolding run_of
  run_done h =
      let none : n - i ≡ 0 = omega arith in
      ap (λ k. run_of w code s k p last) none

-- ---- what a block comes to, from a spot on

module _ (w : Width) (code : Code) (s : List ℕ) (part : List ℤ) (a : Spot) where
  -- of a run that is stored from the spot on
  abbrev stored : Run → Outlook
  stored r = record { end = r.end; content = sets part a.next r.pixels; written = a.next + length r.pixels }

  -- one pixel more does not change it
  outlook_on : {u q : ℕ} (l : ℕ) → a.next < length part → diff_read code s a.bit ≡ found u q
      → raised w l ≡ following w (raised w a.level) u
      → outlook w code s (set part a.next (raised w l)) (record { bit = q; level = l; next = a.next + 1 })
      ≡ outlook w code s part a
  outlook_on {u} {q} l h e f =
      let i = a.next in
      let z = raised w l in
      let rest = run_of w code s (length part - (i + 1)) q in
      let r = rest z in
      let one : ℕ → Outlook = λ n.
      let y = run_of w code s (n - (i + 1)) q z in
      record { end = y.end; content = sets (set part i z) (i + 1) y.pixels; written = i + 1 + length y.pixels } in
      let more : i + 1 + length r.pixels ≡ i + suc (length r.pixels) = omega arith in
      ap one (length-set part i z)
      ∙ (λ j. record { end = r.end; content = sets (set part i z) (add-one i j) r.pixels; written = more j })
      ∙ ap (λ (x : ℤ). stored (also x (rest x))) f
      ∙ sym (ap stored (run_on w code s (length part) i a.bit (raised w a.level) h e))

  outlook-cut : a.next < length part → diff_read code s a.bit ≡ short
      → outlook w code s part a ≡ record { end = cut; content = part; written = a.next }
  outlook-cut h e =
      ap stored (run_cut w code s (length part) a.next a.bit (raised w a.level) h e)
      ∙ ap (λ (n : ℕ). record { end = cut; content = part; written = n }) (add-zero a.next)

  outlook-whole : a.next ≡ length part → outlook w code s part a ≡ whole_at a.bit (raised w a.level) part
  outlook-whole e =
      ap stored (run_done w code s (length part) a.next a.bit (raised w a.level) (omega arith))
      ∙ ap (λ (n : ℕ). record { end = complete a.bit (raised w a.level); content = part; written = n })
      (add-zero a.next ∙ e)

  pub onward-start : Inside w s part a → Onward w code s part part a a
  onward-start h = record { same = refl; sized = refl; inside = h }

  -- one pixel more is stored
  pub onward-one : {u q : ℕ} (l k : ℕ) (new : List ℤ) → a.next < length part → diff_read code s a.bit ≡ found u q
      → q ≤ bits_in s
      → (l < 2 ^ bits_of w) × (raised w l ≡ following w (raised w a.level) u) → new ≡ set part a.next (raised w l)
      → k ≡ a.next + 1 → Onward w code s part new a (record { bit = q; level = l; next = k })
  onward-one {u} {q} l k new h e g f n m =
      let sized : length new ≡ length part = ap length n ∙ length-set part a.next (raised w l) in
      record {
        same = ap₂ (λ (x : List ℤ) (y : ℕ). outlook w code s x (record { bit = q; level = l; next = y })) n m
            ∙ outlook_on l h e f.1;
        sized = sized;
        inside = (g, f.0, omega arith);
      }

pub onward_then : {w : Width} {code : Code} {s : List ℕ} {old mid new : List ℤ} {a b c : Spot}
    → Onward w code s old mid a b → Onward w code s mid new b c → Onward w code s old new a c
onward_then f g = record { same = g.same ∙ f.same; sized = g.sized ∙ f.sized; inside = g.inside }

-- the spot with what is ahead
abbrev pub spot_ahead : Ahead → ℕ → ℕ → Spot
spot_ahead a level i = record { bit = a.bit; level = level; next = i }

-- a block that is filled one by one leads on, and what is ahead is the tile's
pub record Filled (w : Width) (code : Code) (s : List ℕ) (old new : List ℤ) (from : Spot) (a : Ahead) (level i : ℕ) : Type 0 where
  pub on : Onward w code s old new from (spot_ahead a level i)
  pub holds : Holds s a

-- where it ends: at a read that is short, or with the part
module _ {w : Width} {code : Code} {s : List ℕ} {old new : List ℤ} {a b : Spot} (f : Onward w code s old new a b) where
  pub came_short : b.next < length new → diff_read code s b.bit ≡ short → CameTo w code s old new a (Err b.next)
  came_short h e = (sym f.same ∙ outlook-cut w code s new b h e, f.sized)

  pub came_to : length new ≤ b.next → CameTo w code s old new a (Ok b)
  came_to h =
      let all : b.next ≡ length new = omega (arith, f.inside.2) in
      (sym f.same ∙ outlook-whole w code s new b all, f.inside.1, f.sized)

pub pairs_small : (s : List ℕ) (p fs : ℕ) {a b c d q : ℕ} → fs ≤ 24 → Pairs s p fs a b c d q
    → (a < 2 ^ 32) × (b < 2 ^ 32) × (c < 2 ^ 32) × (d < 2 ^ 32)
pairs_small s p fs l r = (
  diff_small (Split fs) s p l r.one.first,
  diff_small (Split fs) s r.one.middle l r.one.second,
  diff_small (Split fs) s r.half l r.two.first,
  diff_small (Split fs) s r.two.middle l r.two.second,
)

-- a store of the pixel l, which follows level by u, at i
abbrev pub Stores : Width → List ℤ → List ℤ → ℕ → ℕ → ℕ → ℕ → Type 0
Stores w old new i level u l =
    ((l < 2 ^ bits_of w) × (raised w l ≡ following w (raised w level) u)) × (new ≡ set old i (raised w l))

-- four pixels more are stored
pub onward_four : {w : Width} {s : List ℕ} {fs : ℕ} (a : Spot) {u v x y q k l m n : ℕ} {p₀ p₁ p₂ p₃ p₄ : List ℤ}
    → a.next + 4 ≤ length p₀ → Pairs s a.bit fs u v x y q
    → Stores w p₀ p₁ a.next a.level u k → Stores w p₁ p₂ (a.next + 1) k v l
    → Stores w p₂ p₃ (a.next + 2) l x m → Stores w p₃ p₄ (a.next + 3) m y n
    → Onward w (Split fs) s p₀ p₄ a (record { bit = q; level = n; next = a.next + 4 })
onward_four {w} {s} {fs} a {k = k} {l} {m} {n} {p₀} {p₁} {p₂} {p₃} {p₄} h r f g i j =
    let i₀ = a.next in
    let b : Spot = record { bit = r.one.middle; level = k; next = i₀ + 1 } in
    let c : Spot = record { bit = r.half; level = l; next = i₀ + 2 } in
    let d : Spot = record { bit = r.two.middle; level = m; next = i₀ + 3 } in
    let one = onward-one w (Split fs) s p₀ a k (i₀ + 1) p₁ (omega arith) r.one.first
    (split_within s fs a.bit r.one.first) f.0 f.1 refl in
    let two = onward-one w (Split fs) s p₁ b l (i₀ + 2) p₂ (omega (arith, one.sized)) r.one.second
    (split_within s fs b.bit r.one.second) g.0 g.1 (omega arith) in
    let three = onward-one w (Split fs) s p₂ c m (i₀ + 3) p₃ (omega (arith, one.sized, two.sized)) r.two.first
    (split_within s fs c.bit r.two.first) i.0 i.1 (omega arith) in
    let four = onward-one w (Split fs) s p₃ d n (i₀ + 4) p₄ (omega (arith, one.sized, two.sized, three.sized))
    r.two.second (split_within s fs d.bit r.two.second) j.0 j.1 (omega arith) in
    onward_then (onward_then one two) (onward_then three four)
