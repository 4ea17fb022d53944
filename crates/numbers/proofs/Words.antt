-- Words in any letter case, as the library compares them.
use Rattle.std.specs.Char.{to_ascii_lowercase}
use Rattle.std.specs.Prelude.{◌↔◌, IsTrue}
use Prim.Native.Nat.{ℕ}
use native.Mathlib.Omega.{arith}
use mathlib.Core.Path.{◌≡◌, refl, sym, ap, ap₂, ◌∙◌}
use mathlib.Core.Bool.{Bool, true, false}
use mathlib.Core.List.{List, [], ◌∷◌, map}
use Rattle.std.proofs.lemmas.Bool.Decides.{nat_tests}
use Rattle.text.specs.Same.{same}
use Rattle.text.proofs.Comparing.{same_self, same_eq}
use Rattle.numbers.specs.Decimals.{lowered, is_word}

small_letter : (b : ℕ) → to_ascii_lowercase b ≡ lowered b
unfolding lowered
small_letter b = grind (arith, nat_tests)

small_letters : (s : List ℕ) → map to_ascii_lowercase s ≡ map lowered s
small_letters [] = refl
small_letters (b ∷ s) = ap₂ ◌∷◌ (small_letter b) (small_letters s)

-- true just where two lists are equal
told : (r : Bool) (s t : List ℕ) → IsTrue r ↔ (s ≡ t) → r ≡ same s t
told true s t h = sym (ap (same s) (sym (h.0 refl)) ∙ same_self s)
told false s t h = by (same s t) refl
  where
    by : (u : Bool) → same s t ≡ u → false ≡ same s t
    by true e = h.1 (same_eq s t e) ∙ sym e
    by false e = sym e

-- a word of small letters
pub word_told : (word s : List ℕ) (r : Bool) → map to_ascii_lowercase word ≡ word
    → IsTrue r ↔ (map to_ascii_lowercase s ≡ map to_ascii_lowercase word) → r ≡ is_word word s
unfolding is_word
word_told word s r small h =
    let letters : IsTrue r ↔ (map lowered s ≡ word) = rw (small_letters s, small) at h in
    told r (map lowered s) word letters
