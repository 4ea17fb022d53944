-- Trimming, a byte at a time, at either end.
use Prim.Native.Char.{code}
use Prim.Native.Nat.{ℕ, zero, suc, ◌+◌, ◌-◌, ◌<◌, ◌≤◌}
use native.Mathlib.Nat.{not-suc-le-zero}
use native.Mathlib.Numerals.{add-one}
use native.Mathlib.Omega.{arith}
use mathlib.Core.Path.{◌≡◌, refl, sym, ap, ap₂, ◌∙◌}
use mathlib.Core.Bool.{Bool, true, false, cond, true≢false}
use mathlib.Core.List.{List, [], ◌∷◌, ◌++◌, map}
use lib.ListN.{length-append, length-drop, length, take, drop, get_or}
use lib.Seq.{drop-cons, take-suc, take-length, take_at}
use Rattle.text.specs.Trim.{leading, trim_start, trim_end, trim, cons_trimmed}
use Rattle.text.specs.Bytes.{is_space, is_blank, is_printable, shown, delete}
use lib.Dec.{eqb}
use borrow.Author.Tests.{eqb-true}

-- what stands from i on, by its first byte
pub at_next : (s : List ℕ) (i : ℕ) → i < length s → drop i s ≡ get_or s i 0 ∷ drop (i + 1) s
at_next s i h = rw (add-one, drop-cons s i 0 h)

-- a part that runs to the end is all that stands from its start on
pub take_rest : (s : List ℕ) (i : ℕ) → take (length s - i) (drop i s) ≡ drop i s
take_rest s i = rw (← length-drop i s, take-length)

module _ (p : ℕ → Bool) where
  -- a byte at the front that passes the test goes
  start-more : (b : ℕ) (s : List ℕ) → p b ≡ true → trim_start p (b ∷ s) ≡ trim_start p s
  unfolding trim_start
  start-more b s e = rw e

  start_done : (b : ℕ) (s : List ℕ) → p b ≡ false → trim_start p (b ∷ s) ≡ b ∷ s
  unfolding trim_start
  start_done b s e = rw e

  -- so where the first byte passes, the others are trimmed
  pub start_step : (s : List ℕ) → 0 < length s → p (get_or s 0 0) ≡ true
      → trim_start p (take (length s - 1) (drop 1 s)) ≡ trim_start p s
  start_step s h e = sym (ap (trim_start p) (at_next s 0 h) ∙ start-more _ _ e ∙ ap (trim_start p) (sym (take_rest s 1)))

  -- or it stays, and all behind it
  pub start_stop : (s : List ℕ) → 0 < length s → p (get_or s 0 0) ≡ false → s ≡ trim_start p s
  start_stop s h e = at_next s 0 h ∙ sym (ap (trim_start p) (at_next s 0 h) ∙ start_done _ _ e)

  pub start_none : (s : List ℕ) → length s < 1 → s ≡ trim_start p s
  unfolding trim_start
  start_none [] h = refl
  start_none (b ∷ s) h = absurd (omega arith)

  -- a byte at the end that passes the test goes
  end_more : (s : List ℕ) (b : ℕ) → p b ≡ true → trim_end p (s ++ b ∷ []) ≡ trim_end p s
  unfolding trim_end cons_trimmed
  end_more [] b e = rw e
  end_more (a ∷ s) b e = rw (end_more s b e)

  cons_trimmed-more : (t : Bool) (a : ℕ) (s : List ℕ) (b : ℕ) → cons_trimmed t a (s ++ b ∷ []) ≡ a ∷ (s ++ b ∷ [])
  unfolding cons_trimmed
  cons_trimmed-more true a [] b = refl
  cons_trimmed-more true a (x ∷ s) b = refl
  cons_trimmed-more false a s b = refl

  end_done : (s : List ℕ) (b : ℕ) → p b ≡ false → trim_end p (s ++ b ∷ []) ≡ s ++ b ∷ []
  unfolding trim_end cons_trimmed
  end_done [] b e = rw e
  end_done (a ∷ s) b e = rw (end_done s b e, cons_trimmed-more) refl

  -- the first n bytes, by the last of them
  at_last : (s : List ℕ) (n : ℕ) → 0 < n → n ≤ length s → take n s ≡ take (n - 1) s ++ get_or s (n - 1) 0 ∷ []
  at_last s n pos h = ap (λ (k : ℕ). take k s) (up n pos) ∙ take-suc s (n - 1) 0 (omega arith)
    where
      up : (n : ℕ) → 0 < n → n ≡ suc (n - 1)
      up n pos = omega arith

  pub end_step : (s : List ℕ) (n : ℕ) → 0 < n → n ≤ length s → p (get_or s (n - 1) 0) ≡ true
      → trim_end p (take (n - 1) s) ≡ trim_end p (take n s)
  end_step s n pos h e = sym (ap (trim_end p) (at_last s n pos h) ∙ end_more (take (n - 1) s) _ e)

  pub end_stop : (s : List ℕ) (n : ℕ) → 0 < n → n ≤ length s → p (get_or s (n - 1) 0) ≡ false
      → take n s ≡ trim_end p (take n s)
  end_stop s n pos h e = at_last s n pos h ∙ sym (ap (trim_end p) (at_last s n pos h) ∙ end_done (take (n - 1) s) _ e)

  pub end_none : (s : List ℕ) (n : ℕ) → n ≤ 0 → take n s ≡ trim_end p (take n s)
  unfolding trim_end
  end_none s zero h = refl
  end_none s (suc n) h = absurd (not-suc-le-zero h)

  -- trimming makes no text longer
  pub start_shorter : (s : List ℕ) → length (trim_start p s) ≤ length s
  unfolding trim_start
  start_shorter [] = omega arith
  start_shorter (b ∷ s) = pick (p b) (start_shorter s)
    where
      pick : (t : Bool) → length (trim_start p s) ≤ length s → length (cond t (trim_start p s) (b ∷ s)) ≤ suc (length s)
      pick true h = omega arith
      pick false h = omega arith

  pub end_shorter : (s : List ℕ) → length (trim_end p s) ≤ length s
  unfolding trim_end cons_trimmed
  end_shorter [] = omega arith
  end_shorter (b ∷ s) = pick (p b) (trim_end p s) (end_shorter s)
    where
      pick : (t : Bool) (r : List ℕ) → length r ≤ length s → length (cons_trimmed t b r) ≤ suc (length s)
      pick true [] h = omega arith
      pick true (c ∷ r) h = omega arith
      pick false r h = omega arith

  pub shorter : (s : List ℕ) → length (trim p s) ≤ length s
  unfolding trim
  shorter s = omega (arith, end_shorter (trim_start p s), start_shorter s)

  -- what is cut at the front, and what is left
  pub leading-and-rest : (s : List ℕ) → leading p s ++ trim_start p s ≡ s
  unfolding leading trim_start
  leading-and-rest [] = refl
  leading-and-rest (b ∷ s) = pick (p b) (leading-and-rest s)
    where
      pick : (t : Bool) → leading p s ++ trim_start p s ≡ s
          → cond t (b ∷ leading p s) [] ++ cond t (trim_start p s) (b ∷ s) ≡ b ∷ s
      pick true h = ap (λ (r : List ℕ). b ∷ r) h
      pick false h = refl

  pub leading_length : (s : List ℕ) → length (leading p s) + length (trim_start p s) ≡ length s
  leading_length s = sym (length-append (leading p s) (trim_start p s)) ∙ ap length (leading-and-rest s)

  pub leading_taken : (s : List ℕ) → take (length s - length (trim_start p s)) s ≡ leading p s
  leading_taken s =
      let n : length s - length (trim_start p s) ≡ length (leading p s) = omega (arith, leading_length s) in
      ap₂ take n (sym (leading-and-rest s)) ∙ take_at (leading p s) (trim_start p s) _ refl

-- what passes q passes p: where p cuts, cutting by q before it changes nothing
pub end_twice : (p q : ℕ → Bool) → ((b : ℕ) → q b ≡ true → p b ≡ true) → (s : List ℕ) → trim_end p (trim_end q s) ≡ trim_end p s
unfolding trim_end cons_trimmed
end_twice p q also [] = refl
end_twice p q also (b ∷ s) = go (q b) refl (trim_end q s) (end_twice p q also s)
  where
    go : (t : Bool) → q b ≡ t → (r : List ℕ) → trim_end p r ≡ trim_end p s
        → trim_end p (cons_trimmed t b r) ≡ cons_trimmed (p b) b (trim_end p s)
    go true e [] h = rw (also b e, ← h)
    go true e (c ∷ r) h = ap (cons_trimmed (p b) b) h
    go false e r h = ap (cons_trimmed (p b) b) h

-- a space is a blank
pub space_blank : (b : ℕ) → is_space b ≡ true → is_blank b ≡ true
unfolding is_space is_blank
space_blank b e = rw e

-- where the test p of f's results is the test q, it is the same whether f or the trimming comes first
pub end_mapped : (p q : ℕ → Bool) (f : ℕ → ℕ) → ((b : ℕ) → p (f b) ≡ q b) → (s : List ℕ)
    → trim_end p (map f s) ≡ map f (trim_end q s)
unfolding trim_end cons_trimmed
end_mapped p q f same [] = refl
end_mapped p q f same (b ∷ s) = rw (end_mapped p q f same s, same b) (pick (q b) (trim_end q s))
  where
    pick : (t : Bool) (r : List ℕ) → cons_trimmed t (f b) (map f r) ≡ map f (cons_trimmed t b r)
    pick true [] = refl
    pick true (c ∷ r) = refl
    pick false r = refl

-- a replaced byte is no space, and was none
pub space_shown : (b : ℕ) → is_space (shown b) ≡ is_space b
unfolding shown is_space is_printable
space_shown b = go (is_printable b) refl (eqb b (code " ")) refl
  where
    go : (t : Bool) → is_printable b ≡ t → (u : Bool) → eqb b (code " ") ≡ u
        → eqb (cond (is_printable b) b delete) (code " ") ≡ eqb b (code " ")
    go true e u d = rw e
    go false e true d = absurd (true≢false (rw (eqb-true b _ d) at e))
    go false e false d = rw (e, d)
