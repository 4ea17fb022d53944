-- `rice::width::Scale::raw_at`: the number is cut out of the 64 bits from its byte on. Assumes nothing.
use mathlib.Core.Path.{◌≡◌, ap, ap₂, ◌∙◌}
use mathlib.Core.List.{List}
use Prim.Native.Nat.{ℕ, ◌+◌, ◌-◌, ◌*◌, ◌/◌, ◌%◌, ◌^◌, ◌≤◌}
use native.Mathlib.Omega.{arith}
use Rattle.rice.specs.Tile.{field_at}
use Rattle.rice.specs.Widths.{bits_of}
use Rattle.rice.proofs.Fields.{field-first, field_end}
use Rattle.rice.proofs.Wrapping.{sizes, and_width}
use Rattle.rice.proofs.width.Scale.raw_at.Goals as goal

-- n bits after the first a of 64
inside : (s : List ℕ) (p a n : ℕ) → a + n ≤ 64 → field_at s p 64 / 2 ^ (64 - n - a) % 2 ^ n ≡ field_at s (p + a) n
inside s p a n h =
    let rest : 64 - n - a ≡ 64 - (a + n) = omega arith in
    ap (λ (k : ℕ). field_at s p 64 / 2 ^ k % 2 ^ n) rest ∙ ap (λ (x : ℕ). x % 2 ^ n) (field-first s p (a + n) 64 h)
    ∙ field_end s p a n

pub returns : goal.returns
returns c =
    let a = c.args in
    let w = a.self.width in
    let fits : a.lead + bits_of w ≤ 64 = omega (arith, (sizes w).width, c.requires.1) in
    and_width w (c.whole_word.result / 2 ^ (64 - c.bits.result - a.lead)) _ a.self.masked
    ∙ ap₂ (λ (x n : ℕ). x / 2 ^ (64 - n - a.lead) % 2 ^ bits_of w) c.whole_word.ensures c.bits.ensures
    ∙ inside a.tile.now (a.k * 8) a.lead (bits_of w) fits
