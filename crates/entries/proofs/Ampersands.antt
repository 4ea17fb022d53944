-- Whether a joined text is open, by the ampersands at its end.
use Prim.Native.Char.{code}
use Prim.Native.Nat.{ℕ, suc, ◌+◌, ◌-◌, ◌<◌, ◌≤◌}
use native.Mathlib.Numerals.{add-one, unary_clauses}
use native.Mathlib.Omega.{arith}
use mathlib.Core.Path.{◌≡◌, refl, sym, ap, ◌∙◌}
use mathlib.Core.Bool.{Bool, true, false, cond, true≢false}
use mathlib.Core.List.{List, [], ◌∷◌, ◌++◌}
use borrow.Author.Tests.{eqb-true, ne_eqb, lt-ltb}
use lib.Dec.{eqb, ltb}
use lib.ListN.{length, take, drop, get_or, length-append, drop_of_length-le}
use lib.Seq.{take-suc, take-length}
use Rattle.text.specs.Bytes.{is_space}
use Rattle.text.specs.Trim.{trim_end, cons_trimmed}
use Rattle.text.specs.Ends.{stem, ends_with}
use Rattle.text.proofs.Trimming.{at_next}
use Rattle.joining.specs.Words.{ends_open, adds_nothing, join_text}
use Rattle.entries.specs.Passes.{passing, ampersands, opens_by}

-- ---- a byte, and a text, counted on from k
-- an ampersand counts, a space is passed over, and any other byte leaves none
module _ (k b : ℕ) where
  pub passing-more : b ≡ code "&" → k + 1 ≡ passing k b
  passing-more e = add-one k ∙ sym (ap (passing k) e)

  pub passing-none : (b ≡ code "&" → ⊥) → (b ≡ code " " → ⊥) → 0 ≡ passing k b
  unfolding is_space
  passing-none e d = rw (ne_eqb b (code "&") e, ne_eqb b (code " ") d)

  pub passing_space : b ≡ code " " → k ≡ passing k b
  unfolding is_space
  passing_space e = sym (ap (passing k) e)

  space_passes : is_space b ≡ true → k ≡ passing k b
  unfolding is_space
  space_passes e = passing_space (eqb-true b (code " ") e)

  pub passing-few : passing k b ≤ k + 1
  passing-few = go (eqb b (code "&")) (is_space b)
    where
      go : (t u : Bool) → cond t (suc k) (cond u k 0) ≤ k + 1
      go true u = omega arith
      go false true = omega arith
      go false false = omega arith

-- of two texts the second is counted on from the first
ampersands-append : (k : ℕ) (s t : List ℕ) → ampersands k (s ++ t) ≡ ampersands (ampersands k s) t
unfolding ampersands
ampersands-append k [] t = refl
ampersands-append k (b ∷ s) t = ampersands-append (passing k b) s t

-- no more than its bytes are
pub ampersands-few : (k : ℕ) (s : List ℕ) → ampersands k s ≤ k + length s
unfolding ampersands
ampersands-few k [] = omega arith
ampersands-few k (b ∷ s) = omega (arith, ampersands-few (passing k b) s, passing-few k b)

-- the byte at i is counted, and the rest is left
pub ampersands_step : (k : ℕ) (s : List ℕ) (i : ℕ) → i < length s
    → ampersands (passing k (get_or s i 0)) (drop (i + 1) s) ≡ ampersands k (drop i s)
unfolding ampersands
ampersands_step k s i h = sym (ap (ampersands k) (at_next s i h))

pub ampersands_done : (k : ℕ) (s : List ℕ) (i : ℕ) → length s ≤ i → k ≡ ampersands k (drop i s)
unfolding ampersands
ampersands_done k s i h = sym (ap (ampersands k) (drop_of_length-le s h))

-- a text ends as it does without its first byte
open_next : (x b : ℕ) (s : List ℕ) → ends_open (x ∷ b ∷ s) ≡ ends_open (b ∷ s)
unfolding ends_open ends_with
open_next x b s = simp unary_clauses

one_open : (k b : ℕ) → is_space b ≡ false → ends_open (b ∷ []) ≡ ltb 0 (passing k b)
unfolding ends_open ends_with
one_open k b e = rw e (go (eqb b (code "&")))
  where
    go : (t : Bool) → t ≡ ltb 0 (cond t (suc k) 0)
    go true = sym (lt-ltb 0 (suc k) (omega arith))
    go false = refl

-- a text without the spaces at its end has as many; where something is left of it, it is open where there are any
data Trimmed (s : List ℕ) : List ℕ → Type 0 where
  blank : ((k : ℕ) → ampersands k s ≡ k) → Trimmed s []
  ends : {b : ℕ} {r : List ℕ} → ((k : ℕ) → (ampersands k s ≡ ampersands k (b ∷ r)) × (ends_open (b ∷ r) ≡ ltb 0 (ampersands k s)))
      → Trimmed s (b ∷ r)

trimmed : (s : List ℕ) → Trimmed s (trim_end is_space s)
unfolding trim_end cons_trimmed ampersands
trimmed [] = blank (λ (k : ℕ). refl)
trimmed (b ∷ s) = go (is_space b) refl (trim_end is_space s) (trimmed s)
  where
    go : (t : Bool) → is_space b ≡ t → (r : List ℕ) → Trimmed s r → Trimmed (b ∷ s) (cons_trimmed t b r)
    go true e [] (blank f) = blank (λ (k : ℕ). f (passing k b) ∙ sym (space_passes k b e))
    go true e (c ∷ r) (ends f) = ends (λ (k : ℕ). ((f (passing k b)).0, open_next b c r ∙ (f (passing k b)).1))
    go false e [] (blank f) = ends (λ (k : ℕ). (f (passing k b), one_open k b e ∙ sym (ap (ltb 0) (f (passing k b)))))
    go false e (c ∷ r) (ends f) = ends (λ (k : ℕ). ((f (passing k b)).0, open_next b c r ∙ (f (passing k b)).1))

trimmed_counts : (s : List ℕ) → ampersands 0 (trim_end is_space s) ≡ ampersands 0 s
unfolding ampersands
trimmed_counts s = go (trim_end is_space s) (trimmed s)
  where
    go : (r : List ℕ) → Trimmed s r → ampersands 0 r ≡ ampersands 0 s
    go [] (blank f) = sym (f 0)
    go (b ∷ r) (ends f) = sym (f 0).0

trimmed_open : (s : List ℕ) → ends_open (trim_end is_space s) ≡ ltb 0 (ampersands 0 s)
unfolding ends_open ends_with
trimmed_open s = go (trim_end is_space s) (trimmed s)
  where
    go : (r : List ℕ) → Trimmed s r → ends_open r ≡ ltb 0 (ampersands 0 s)
    go [] (blank f) = sym (ap (ltb 0) (f 0))
    go (b ∷ r) (ends f) = (f 0).1

-- ---- an open text, and the text of a CONTINUE card joined to it
-- a text that adds nothing leaves the count
nothing_passes : (k : ℕ) (t : List ℕ) → adds_nothing t ≡ true → ampersands k t ≡ k
unfolding ampersands adds_nothing
nothing_passes k [] e = refl
nothing_passes k (b ∷ []) e = sym (space_passes k b e)
nothing_passes k (b ∷ c ∷ t) e = absurd (true≢false (sym e))

-- a text that adds something is the end of what it is put on
end-behind : (a t : List ℕ) → adds_nothing t ≡ false → ends_open (a ++ t) ≡ ends_open t
unfolding adds_nothing
end-behind a [] e = absurd (true≢false e)
end-behind a (b ∷ t) e = go a
  where
    next : (x : ℕ) (l : List ℕ) → 0 < length l → ends_open (x ∷ l) ≡ ends_open l
    next x [] h = absurd (omega arith)
    next x (c ∷ l) h = open_next x c l

    go : (a : List ℕ) → ends_open (a ++ b ∷ t) ≡ ends_open (b ∷ t)
    go [] = refl
    go (x ∷ a) = next x (a ++ b ∷ t) (omega (arith, length-append a (b ∷ t))) ∙ go a

-- an open text is its stem with an &
open_ends : (s : List ℕ) → ends_open s ≡ true → s ≡ stem s ++ code "&" ∷ []
unfolding ends_open ends_with stem
open_ends [] e = absurd (true≢false (sym e))
open_ends (b ∷ s) e =
    let n = length (b ∷ s) - 1 in
    let all : length (b ∷ s) ≡ suc n = omega arith in
    sym (take-length (b ∷ s))
    ∙ ap (λ (k : ℕ). take k (b ∷ s)) all
    ∙ take-suc (b ∷ s) n 0 (omega arith)
    ∙ ap (λ (c : ℕ). take n (b ∷ s) ++ c ∷ []) (eqb-true (get_or (b ∷ s) n 0) (code "&") e)

-- it has one more than without its &
open_counts : (s : List ℕ) → ends_open s ≡ true → ampersands 0 s ≡ suc (ampersands 0 (stem s))
unfolding ampersands
open_counts s e = ap (ampersands 0) (open_ends s e) ∙ ampersands-append 0 (stem s) (code "&" ∷ [])

pub open_counted : (s : List ℕ) → ends_open s ≡ true → 0 < ampersands 0 s
open_counted s e = omega (arith, open_counts s e)

module _ (s t : List ℕ) (opened : ends_open s ≡ true) where
  stem_counts : ampersands 0 s - 1 ≡ ampersands 0 (stem s)
  stem_counts = omega (arith, open_counts s opened)

  pub joined_counts : ampersands 0 (join_text s t) ≡ ampersands (ampersands 0 s - 1) t
  unfolding join_text
  joined_counts = rw stem_counts (go (adds_nothing t) refl)
    where
      go : (b : Bool) → adds_nothing t ≡ b
          → ampersands 0 (cond b (trim_end is_space (stem s)) (stem s ++ t)) ≡ ampersands (ampersands 0 (stem s)) t
      go true e = trimmed_counts (stem s) ∙ sym (nothing_passes (ampersands 0 (stem s)) t e)
      go false e = ampersands-append 0 (stem s) t

  pub joined_open : ends_open (join_text s t) ≡ opens_by (ampersands (ampersands 0 s - 1) t) t
  unfolding join_text
  joined_open = rw stem_counts (go (adds_nothing t) refl)
    where
      go : (b : Bool) → adds_nothing t ≡ b
          → ends_open (cond b (trim_end is_space (stem s)) (stem s ++ t))
          ≡ cond b (ltb 0 (ampersands (ampersands 0 (stem s)) t)) (ends_open t)
      go true e = trimmed_open (stem s) ∙ sym (ap (ltb 0) (nothing_passes (ampersands 0 (stem s)) t e))
      go false e = end-behind (stem s) t e
