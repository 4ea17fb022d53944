-- The unit that a comment names, by two readings (SPECIFICATION 8; the standard, 4.3.2).
use Rattle.std.specs.Prelude.{ℕ, ◌+◌, ◌-◌, ◌≡◌, cond, List, [], ◌∷◌, eqb, take, drop, None, Option, Some}
use Prim.Native.Char.{code}
use Rattle.text.specs.Place.{place_of}

-- from byte 1 up to the first ] behind it
abbrev pub closed_at : Option ℕ → Option (ℕ × ℕ)
closed_at (Some i) = Some (1, i + 1)
closed_at None = None

-- the first byte is [ and a ] follows
unfoldable pub unit_of : List ℕ → Option (ℕ × ℕ)
unit_of [] = None
unit_of (b ∷ s) = cond (eqb b (code "[")) (closed_at (place_of (code "]") s)) None

-- ---- the reading past a space, which the standard recommends between the slash and the [

-- the same place, counted from a byte before
abbrev pub behind_one : Option (ℕ × ℕ) → Option (ℕ × ℕ)
behind_one (Some (from, to)) = Some (from + 1, to + 1)
behind_one None = None

-- one space in front, or none, is passed over; then the reading above holds, with the places of the whole comment
unfoldable pub unit_past_space : List ℕ → Option (ℕ × ℕ)
unit_past_space [] = None
unit_past_space (b ∷ s) = cond (eqb b (code " ")) (behind_one (unit_of s)) (unit_of (b ∷ s))

-- ---- how the two stand to each other

-- the bytes of a comment at a place
abbrev pub unit_bytes : Option (ℕ × ℕ) → List ℕ → Option (List ℕ)
unit_bytes (Some (from, to)) c = Some (take (to - from) (drop from c))
unit_bytes None c = None

-- where the first reading finds a unit, the second finds it at the same place
abbrev pub SameUnit : Type 0
SameUnit = (c : List ℕ) (from to : ℕ) → unit_of c ≡ Some (from, to) → unit_past_space c ≡ Some (from, to)

-- the first reading finds the unit in the comment, or in the comment without its first byte, a space
pub data IsUnit (c u : List ℕ) : Type 0 where
  at_once : unit_bytes (unit_of c) c ≡ Some u → IsUnit c u
  past_space : (s : List ℕ) → c ≡ code " " ∷ s → unit_bytes (unit_of s) s ≡ Some u → IsUnit c u

-- the second reading finds exactly those
abbrev pub ExactlyThose : Type 0
ExactlyThose =
    (c u : List ℕ)
    → (unit_bytes (unit_past_space c) c ≡ Some u → IsUnit c u) × (IsUnit c u → unit_bytes (unit_past_space c) c ≡ Some u)
