-- Bytes of 128 or more, a byte at a time.
use Rattle.std.specs.Prelude.{None, Option, Some}
use Rattle.std.specs.List.{position, position_from}
use Rattle.std.proofs.lemmas.Iterator.Adapters.{position_from-zero}
use Prim.Native.Nat.{ℕ, suc, ◌<◌}
use Prim.Native.Char.{code}
use native.Mathlib.Numerals.{add-one}
use native.Mathlib.Omega.{arith}
use mathlib.Core.Path.{◌≡◌, refl, ap, ◌∙◌}
use mathlib.Core.Bool.{Bool, true, false, cond}
use mathlib.Core.List.{List, [], ◌∷◌}
use borrow.Author.Tests.{lt-leb, leb-true}
use lib.Dec.{leb}
use Rattle.laws.proofs.Truths.{and_both}
use Rattle.text.specs.Bytes.{is_printable, are_printable}
use Rattle.card.specs.Keywords.{first_high, has_high}
use Rattle.card.specs.Columns.{high_from}

-- the library's place is this one
place_from : (s : List ℕ) (i : ℕ) → position_from (λ b. leb first_high b) i s ≡ high_from s i
unfolding high_from
place_from [] i = λ _. None
place_from (b ∷ s) i = rw (add-one, place_from s (suc i))

pub high_place : (s : List ℕ) → position (λ b. leb first_high b) s ≡ high_from s 0
high_place s = position_from-zero (λ b. leb first_high b) s ∙ place_from s 0

-- no printable byte is one
pub printable_low : (s : List ℕ) (i : ℕ) → are_printable s ≡ true → None ≡ high_from s i
unfolding are_printable is_printable high_from
printable_low [] i e = refl
printable_low (b ∷ s) i e =
    let all = and_both (is_printable b) (are_printable s) e in
    let below : b < first_high = omega (arith, leb-true b (code "~") (and_both (leb (code " ") b) (leb b (code "~")) all.0).1) in
    rw (lt-leb first_high b below) (printable_low s (suc i) all.1)

-- there is a column where there is such a byte
abbrev is_there : Option ℕ → Bool
is_there (Some i) = true
is_there None = false

pub high_told : (s : List ℕ) (i : ℕ) → has_high s ≡ is_there (high_from s i)
unfolding has_high high_from
high_told [] i = refl
high_told (b ∷ s) i = go (leb first_high b) (high_told s (suc i))
  where
    go : (t : Bool) → has_high s ≡ is_there (high_from s (suc i))
        → cond t true (has_high s) ≡ is_there (cond t (Some i) (high_from s (suc i)))
    go true h = refl
    go false h = h

pub high_found : (s : List ℕ) (i : ℕ) → high_from s 0 ≡ Some i → has_high s ≡ true
high_found s i e = high_told s 0 ∙ ap is_there e

pub high_missing : (s : List ℕ) → high_from s 0 ≡ None → has_high s ≡ false
high_missing s e = high_told s 0 ∙ ap is_there e
