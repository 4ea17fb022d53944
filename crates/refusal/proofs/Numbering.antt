-- Numbers and refusals are one to one.
use Rattle.std.specs.Prelude.{Option, None, Some}
use Prim.Native.Nat.{ℕ}
use native.Mathlib.Omega.{arith}
use mathlib.Core.Path.{◌≡◌, refl, sym, ap, ◌∙◌}
use mathlib.Core.List.{List, [], ◌∷◌}
use lib.ListN.{get_or}
use Rattle.refusal.specs.declared.Refusal.{Refusal}
use Rattle.refusal.specs.declared.Refusal.TheVariants.{HighByte, OddByte, StringNotClosed, StringNotOpened, Complex, NoEquals}
use Rattle.refusal.specs.declared.Refusal.TheVariants.{NoName, ExtensionNotQuoted, HeaderLength, NoEnd, NameNotFound}
use Rattle.refusal.specs.declared.Refusal.TheVariants.{BufferShort, Limits, PixelCount, TileEnds, FsAboveTop, BadCursor}
use Rattle.refusal.specs.declared.Refusal.TheVariants.{UnwritableName, UnwritableValue, BlockShort}
use Rattle.refusal.specs.Numbers.{number_of}

-- the cases by their numbers: no case has the number 0 or 11
abbrev table : List (Option Refusal)
table =
    None ∷ Some HighByte ∷ Some OddByte ∷ Some StringNotClosed ∷ Some StringNotOpened ∷ Some Complex ∷ Some NoEquals ∷ Some NoName
    ∷ Some ExtensionNotQuoted ∷ Some HeaderLength ∷ Some NoEnd ∷ None ∷ Some NameNotFound ∷ Some BufferShort ∷ Some Limits
    ∷ Some PixelCount ∷ Some TileEnds ∷ Some FsAboveTop ∷ Some BadCursor ∷ Some UnwritableName
    ∷ Some UnwritableValue ∷ Some BlockShort ∷ []

-- a refusal is the one with its number
told : (r : Refusal) → get_or table (number_of r) None ≡ Some r
told HighByte = refl
told OddByte = refl
told StringNotClosed = refl
told StringNotOpened = refl
told Complex = refl
told NoEquals = refl
told NoName = refl
told ExtensionNotQuoted = refl
told HeaderLength = refl
told NoEnd = refl
told NameNotFound = refl
told BufferShort = refl
told Limits = refl
told PixelCount = refl
told TileEnds = refl
told FsAboveTop = refl
told BadCursor = refl
told UnwritableName = refl
told UnwritableValue = refl
told BlockShort = refl

-- the case of an option, or another
abbrev or : Refusal → Option Refusal → Refusal
or s None = s
or s (Some r) = r

-- so a number tells the refusal
pub number_tells : (r s : Refusal) → number_of r ≡ number_of s → r ≡ s
number_tells r s e = ap (or s) (sym (told r) ∙ ap (λ (n : ℕ). get_or table n None) e ∙ told s)

-- the number 11 is a gap
pub no_eleven : (r : Refusal) → number_of r ≡ 11 → ⊥
no_eleven r e =
    let none-there : ◌≡◌ {A = Option Refusal} None (Some r) = sym (ap (λ (n : ℕ). get_or table n None) e) ∙ told r in
    let z : ◌≡◌ {A = ℕ} 0 1 = cc in
    omega arith
