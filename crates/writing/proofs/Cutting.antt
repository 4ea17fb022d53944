-- Characters within quotes, and as many of them as fit in a room.
use Prim.Native.Char.{code}
use Prim.Native.Nat.{ℕ, zero, suc, ◌+◌, ◌-◌, ◌<◌, ◌≤◌}
use native.Mathlib.Omega.{arith}
use mathlib.Core.Path.{◌≡◌, refl, sym, ap, ap₂, ◌∙◌}
use mathlib.Core.Bool.{Bool, true, false, cond, true≢false}
use mathlib.Core.List.{List, [], ◌∷◌, ◌++◌}
use borrow.Author.Tests.{le-leb, lt-leb, leb-true, lt-ltb, le-ltb, ltb-true, ltb-false, eq-eqb, ne_eqb}
use lib.Dec.{eqb, leb, ltb}
use Rattle.std.specs.List.{list_any}
use lib.ListN.{length, take, drop, get_or, drop_of_length-le, length-append, length-drop}
use lib.Seq.{sets, take-nil}
use Rattle.laws.proofs.Truths.{or_false}
use Rattle.text.proofs.Trimming.{at_next}
use Rattle.text.proofs.Laying.{sets-append}
use Rattle.writing.specs.Pieces.{doubled, bytes_for, fitting, leftover}
use Rattle.writing.specs.Passes.{in_quotes}

-- ---- one character

pub quote_twice : (b : ℕ) → b ≡ code "'" → in_quotes b ≡ b ∷ code "'" ∷ []
unfolding in_quotes
quote_twice b e = rw (eq-eqb b _ e) (ap (λ (x : ℕ). x ∷ code "'" ∷ []) (sym e))

pub other-once : (b : ℕ) → (b ≡ code "'" → ⊥) → in_quotes b ≡ b ∷ []
unfolding in_quotes
other-once b e = rw (ne_eqb b _ e)

pub quote_bytes : (b : ℕ) → b ≡ code "'" → bytes_for b ≡ 2
unfolding bytes_for
quote_bytes b e = rw (eq-eqb b _ e)

pub other-bytes : (b : ℕ) → (b ≡ code "'" → ⊥) → bytes_for b ≡ 1
unfolding bytes_for
other-bytes b e = rw (ne_eqb b _ e)

pub bytes-some : (b : ℕ) → (1 ≤ bytes_for b) × (bytes_for b ≤ 2)
unfolding bytes_for
bytes-some b = go (eqb b (code "'"))
  where
    go : (u : Bool) → (1 ≤ cond u 2 1) × (cond u 2 1 ≤ 2)
    go true = (omega arith, omega arith)
    go false = (omega arith, omega arith)

pub bytes-quoted : (b : ℕ) → length (in_quotes b) ≡ bytes_for b
unfolding bytes_for in_quotes
bytes-quoted b = go (eqb b (code "'"))
  where
    go : (u : Bool) → length (cond u (code "'" ∷ code "'" ∷ []) (b ∷ [])) ≡ cond u 2 1
    go true = refl
    go false = refl

-- a text within quotes, by its first character
pub doubled_next : (b : ℕ) (s : List ℕ) → doubled (b ∷ s) ≡ in_quotes b ++ doubled s
unfolding doubled in_quotes
doubled_next b s = go (eqb b (code "'"))
  where
    go : (u : Bool)
        → cond u (code "'" ∷ code "'" ∷ doubled s) (b ∷ doubled s) ≡ cond u (code "'" ∷ code "'" ∷ []) (b ∷ []) ++ doubled s
    go true = refl
    go false = refl

pub doubled-bytes : (b : ℕ) (s : List ℕ) → length (doubled (b ∷ s)) ≡ bytes_for b + length (doubled s)
doubled-bytes b s =
    ap length (doubled_next b s)
    ∙ length-append (in_quotes b) (doubled s)
    ∙ ap (λ (k : ℕ). k + length (doubled s)) (bytes-quoted b)

-- ---- as many as fit, from a place on

module _ (s : List ℕ) (n i : ℕ) where
  pub fit_step : i < length s → bytes_for (get_or s i 0) ≤ n
      → fitting n (drop i s) ≡ get_or s i 0 ∷ fitting (n - bytes_for (get_or s i 0)) (drop (i + 1) s)
  unfolding fitting
  fit_step h k = rw (at_next s i h, le-leb (bytes_for (get_or s i 0)) n k)

  pub fit_stop : i < length s → n < bytes_for (get_or s i 0) → fitting n (drop i s) ≡ []
  unfolding fitting
  fit_stop h k = rw (at_next s i h, lt-leb (bytes_for (get_or s i 0)) n k)

  pub fit_end : length s ≤ i → fitting n (drop i s) ≡ []
  unfolding fitting
  fit_end h = rw (drop_of_length-le s h)

-- the characters before i take their bytes, and those that fit behind them are to come
pub record Fitted (s : List ℕ) (room left i : ℕ) : Type 0 where
  pub within : i ≤ length s
  pub taken : i + length (fitting left (drop i s)) ≡ length (fitting room s)

module _ {s : List ℕ} {room left i : ℕ} (f : Fitted s room left i) where
  pub fitted_on : i < length s → bytes_for (get_or s i 0) ≤ left → Fitted s room (left - bytes_for (get_or s i 0)) (i + 1)
  fitted_on h k = record { within = omega arith; taken = omega (arith, ap length (fit_step s left i h k), f.taken) }

  pub fitted_stop : i < length s → left < bytes_for (get_or s i 0) → i ≡ length (fitting room s)
  fitted_stop h k = omega (arith, ap length (fit_stop s left i h k), f.taken)

  pub fitted_end : length s ≤ i → i ≡ length (fitting room s)
  fitted_end h = omega (arith, ap length (fit_end s left i h), f.taken)

-- the characters before i are put, and those from i on are to come
pub record Filling (s block₀ : List ℕ) (at : ℕ) (block : List ℕ) (end i : ℕ) : Type 0 where
  pub within : i ≤ length s
  pub long : length block ≡ length block₀
  pub put : end + length (doubled (drop i s)) ≡ at + length (doubled s)
  pub stored : sets block end (doubled (drop i s)) ≡ sets block₀ at (doubled s)

pub fills : (s block : List ℕ) (at : ℕ) → Filling s block at block at 0
fills s block at = record { within = omega arith; long = refl; put = refl; stored = refl }

module _ {s block₀ : List ℕ} {at : ℕ} {block : List ℕ} {end i : ℕ} (f : Filling s block₀ at block end i) where
  pub fills_room : i < length s → at + length (doubled s) ≤ length block₀ → end + bytes_for (get_or s i 0) ≤ length block
  fills_room h room =
      let bytes = ap (λ (l : List ℕ). length (doubled l)) (at_next s i h) ∙ doubled-bytes (get_or s i 0) (drop (i + 1) s) in
      omega (arith, bytes, f.put, f.long)

  pub fills_on : {next : List ℕ} {k : ℕ} → i < length s → k ≡ end + bytes_for (get_or s i 0)
      → length next ≡ length block → next ≡ sets block end (in_quotes (get_or s i 0)) → Filling s block₀ at next k (i + 1)
  fills_on {next} {k} h e same put =
      let b = get_or s i 0 in
      let rest = drop (i + 1) s in
      let bytes = ap (λ (l : List ℕ). length (doubled l)) (at_next s i h) ∙ doubled-bytes b rest in
      let there : k ≡ end + length (in_quotes b) = e ∙ sym (ap (λ (n : ℕ). end + n) (bytes-quoted b)) in
      record {
        within = omega arith;
        long = same ∙ f.long;
        put = omega (arith, bytes, f.put);
        stored = ap₂ (λ (d : List ℕ) (n : ℕ). sets d n (doubled rest)) put there
            ∙ sym (sets-append (in_quotes b) (doubled rest) block end)
            ∙ sym (ap (sets block end) (ap doubled (at_next s i h) ∙ doubled_next b rest))
            ∙ f.stored;
      }

  -- nothing is to come
  module _ (all : length s ≤ i) where
    none : drop i s ≡ []
    none = drop_of_length-le s all

    pub filled-place : end ≡ at + length (doubled s)
    unfolding doubled
    filled-place = omega (arith, ap (λ (l : List ℕ). length (doubled l)) none, f.put)

    pub filled-bytes : block ≡ sets block₀ at (doubled s)
    unfolding doubled
    filled-bytes = sym (ap (λ (l : List ℕ). sets block end (doubled l)) none) ∙ f.stored

-- ---- what fits, and what is left

-- a text that has room fits whole
pub fits_whole : (n : ℕ) (s : List ℕ) → length (doubled s) ≤ n → fitting n s ≡ s
unfolding fitting
fits_whole n [] h = refl
fits_whole n (b ∷ s) h =
    let all : bytes_for b + length (doubled s) ≤ n = omega (arith, doubled-bytes b s) in
    rw (le-leb (bytes_for b) n (omega arith)) (ap (λ (l : List ℕ). b ∷ l) (fits_whole (n - bytes_for b) s (omega arith)))

-- and of one that has none a character is left
pub cut_short : (n : ℕ) (s : List ℕ) → n < length (doubled s) → length (fitting n s) < length s
unfolding fitting doubled
cut_short n [] h = absurd (omega arith)
cut_short n (b ∷ s) h = go (leb (bytes_for b) n) refl (cut_short (n - bytes_for b) s)
  where
    go : (u : Bool) → leb (bytes_for b) n ≡ u
        → (n - bytes_for b < length (doubled s) → length (fitting (n - bytes_for b) s) < length s)
        → length (cond u (b ∷ fitting (n - bytes_for b) s) []) < suc (length s)
    go true e later = omega (arith, later (omega (arith, doubled-bytes b s, leb-true (bytes_for b) n e)))
    go false e later = omega arith

pub exceeds_is : (n : ℕ) (s : List ℕ) → ltb (length (fitting n s)) (length s) ≡ ltb n (length (doubled s))
exceeds_is n s = go (ltb n (length (doubled s))) refl
  where
    go : (u : Bool) → ltb n (length (doubled s)) ≡ u → ltb (length (fitting n s)) (length s) ≡ u
    go true e = lt-ltb (length (fitting n s)) (length s) (cut_short n s (ltb-true n (length (doubled s)) e))
    go false e =
        let all = ap length (fits_whole n s (ltb-false n (length (doubled s)) e)) in
        le-ltb (length (fitting n s)) (length s) (omega arith)

-- doubling makes no text shorter
pub doubled_longer : (s : List ℕ) → length s ≤ length (doubled s)
unfolding doubled
doubled_longer [] = omega arith
doubled_longer (b ∷ s) = omega (arith, doubled-bytes b s, bytes-some b, doubled_longer s)

pub fitting-bytes : (n : ℕ) (s : List ℕ) → length (doubled (fitting n s)) ≤ n
unfolding fitting doubled
fitting-bytes n [] = omega arith
fitting-bytes n (b ∷ s) = go (leb (bytes_for b) n) refl (fitting-bytes (n - bytes_for b) s)
  where
    go : (u : Bool) → leb (bytes_for b) n ≡ u → length (doubled (fitting (n - bytes_for b) s)) ≤ n - bytes_for b
        → length (doubled (cond u (b ∷ fitting (n - bytes_for b) s) [])) ≤ n
    go true e later = omega (arith, doubled-bytes b (fitting (n - bytes_for b) s), leb-true (bytes_for b) n e)
    go false e later = omega arith

-- what is left stands behind what fits
pub drop-fitting : (n : ℕ) (s : List ℕ) → drop (length (fitting n s)) s ≡ leftover n s
unfolding fitting leftover
drop-fitting n [] = refl
drop-fitting n (b ∷ s) = go (leb (bytes_for b) n) (drop-fitting (n - bytes_for b) s)
  where
    go : (u : Bool) → drop (length (fitting (n - bytes_for b) s)) s ≡ leftover (n - bytes_for b) s
        → drop (length (cond u (b ∷ fitting (n - bytes_for b) s) [])) (b ∷ s) ≡ cond u (leftover (n - bytes_for b) s) (b ∷ s)
    go true later = later
    go false later = refl

pub fitting_within : (n : ℕ) (s : List ℕ) → length (fitting n s) ≤ length s
unfolding fitting
fitting_within n [] = omega arith
fitting_within n (b ∷ s) = go (leb (bytes_for b) n) (fitting_within (n - bytes_for b) s)
  where
    go : (u : Bool) → length (fitting (n - bytes_for b) s) ≤ length s
        → length (cond u (b ∷ fitting (n - bytes_for b) s) []) ≤ suc (length s)
    go true later = omega arith
    go false later = omega arith

-- where two bytes have room, a character is taken
pub fitting-some : (n : ℕ) (s : List ℕ) → 2 ≤ n → (length s ≡ 0 → ⊥) → 1 ≤ length (fitting n s)
unfolding fitting
fitting-some n [] h some = absurd (some refl)
fitting-some n (b ∷ s) h some = rw (le-leb (bytes_for b) n (omega (arith, bytes-some b))) (omega arith)

pub leftover_less : (n : ℕ) (s : List ℕ) → 2 ≤ n → (length s ≡ 0 → ⊥) → length (leftover n s) < length s
leftover_less n s h some =
    let left : length (leftover n s) ≡ length s - length (fitting n s) =
    sym (ap length (drop-fitting n s)) ∙ length-drop (length (fitting n s)) s in
    omega (arith, left, fitting-some n s h some, fitting_within n s)

-- ---- texts without a quote

-- whether a text holds a quote
abbrev pub has_quote : List ℕ → Bool
has_quote s = list_any (λ (b : ℕ). eqb b (code "'")) s

-- each character takes a byte
pub bare_fitting : (n : ℕ) (s : List ℕ) → has_quote (take n s) ≡ false → fitting n s ≡ take n s
unfolding fitting
bare_fitting n [] e = sym (take-nil n)
bare_fitting zero (b ∷ s) e = rw (lt-leb (bytes_for b) 0 (bytes-some b).0)
bare_fitting (suc n) (b ∷ s) e =
    let both = or_false (eqb b (code "'")) (has_quote (take n s)) e in
    let one = other-bytes b (λ h. true≢false (sym (eq-eqb b (code "'") h) ∙ both.0)) in
    let rest : suc n - bytes_for b ≡ n = omega (arith, one) in
    rw (le-leb (bytes_for b) (suc n) (omega (arith, one)))
    (ap (λ (l : List ℕ). b ∷ l) (ap (λ (k : ℕ). fitting k s) rest ∙ bare_fitting n s both.1))

-- and stands as it is
pub bare_doubled : (s : List ℕ) → has_quote s ≡ false → doubled s ≡ s
unfolding doubled
bare_doubled [] e = refl
bare_doubled (b ∷ s) e =
    let both = or_false (eqb b (code "'")) (has_quote s) e in
    rw both.0 (ap (λ (l : List ℕ). b ∷ l) (bare_doubled s both.1))

-- as many characters as fit are the first of a text
pub take-fitting : (n : ℕ) (s : List ℕ) → take (length (fitting n s)) s ≡ fitting n s
unfolding fitting
take-fitting n [] = refl
take-fitting n (b ∷ s) = go (leb (bytes_for b) n) (take-fitting (n - bytes_for b) s)
  where
    go : (u : Bool) → take (length (fitting (n - bytes_for b) s)) s ≡ fitting (n - bytes_for b) s
        → take (length (cond u (b ∷ fitting (n - bytes_for b) s) [])) (b ∷ s) ≡ cond u (b ∷ fitting (n - bytes_for b) s) []
    go true later = ap (λ (l : List ℕ). b ∷ l) later
    go false later = refl
