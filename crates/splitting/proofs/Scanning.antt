-- The scan, a byte at a time.
use Prim.Native.Nat.{ℕ, ◌+◌, ◌<◌, ◌≤◌}
use Prim.Native.Char.{code}
use native.Mathlib.Numerals.{add-one}
use native.Mathlib.Omega.{arith}
use mathlib.Core.Path.{◌≡◌, refl, sym, ap, ◌∙◌}
use mathlib.Core.Bool.{Bool, true, false, cond}
use mathlib.Core.List.{List, [], ◌∷◌, ◌++◌, append_assoc, append-nil}
use borrow.Author.Tests.{eq-eqb, ne_eqb}
use lib.Dec.{eqb}
use lib.ListN.{length, drop, get_or, set, drop_of_length-le}
use lib.Seq.{drop-cons}
use Rattle.splitting.specs.declared.Quoting.{Quoting}
use Rattle.splitting.specs.declared.Quoting.TheVariants.{Outside, Inside}
use Rattle.splitting.specs.declared.Slash.{Slash}
use Rattle.splitting.specs.declared.Slash.TheVariants.{At, Nowhere, Bad}
use Rattle.splitting.specs.declared.Scanned.{Scanned}
use Rattle.text.specs.Bytes.{is_printable, shown}
use Rattle.text.specs.Text.{size, padded}
use Rattle.splitting.specs.Scan.{quote, slash, plain, odd, byte_class, Move, ends, rejects, puts, passes, move}
use Rattle.splitting.specs.Scan.{Scan, put_before, after, scan_from}
use Rattle.splitting.specs.Scanned.{answered, scanned_of}
use Rattle.text.proofs.Texts.{padded-put, length-put}

-- ---- a byte's class, by the tests of the code
module _ {b : ℕ} where
  pub class_quote : b ≡ code "'" → byte_class b ≡ quote
  unfolding byte_class
  class_quote e = rw (eq-eqb b (code "'") e)

  module _ (unquote : b ≡ code "'" → ⊥) where
    pub class_slash : b ≡ code "/" → byte_class b ≡ slash
    unfolding byte_class
    class_slash e = rw (ne_eqb b (code "'") unquote, eq-eqb b (code "/") e)

    -- inside a string every other byte is put
    pub inside-other : (q : Quoting) → q ≡ Inside → move q (byte_class b) ≡ puts Inside
    unfolding byte_class
    inside-other q e = rw (e, ne_eqb b (code "'") unquote) (any (eqb b (code "/")) (is_printable b))
      where
        any : (t u : Bool) → move Inside (cond t slash (cond u plain odd)) ≡ puts Inside
        any true u = refl
        any false true = refl
        any false false = refl

    module _ (unslash : b ≡ code "/" → ⊥) where
      pub class_plain : is_printable b ≡ true → byte_class b ≡ plain
      unfolding byte_class
      class_plain e = rw (ne_eqb b (code "'") unquote, ne_eqb b (code "/") unslash, e)

      pub class_odd : is_printable b ≡ false → byte_class b ≡ odd
      unfolding byte_class
      class_odd e = rw (ne_eqb b (code "'") unquote, ne_eqb b (code "/") unslash, e)

-- the byte at i makes its move, and then what stands behind it
pub moved : (s : List ℕ) (q : Quoting) (i : ℕ) → i < length s → (m : Move) → move q (byte_class (get_or s i 0)) ≡ m
    → scan_from q (drop i s) i ≡ after m (get_or s i 0) i (λ (r : Quoting). scan_from r (drop (i + 1) s) (i + 1))
unfolding scan_from
moved s q i more m e = rw (drop-cons s i 0 more, add-one i, e)

-- ---- where the loop stands: v was put, and what is left is scanned from the state on
pub record Reached (s : List ℕ) (place : Slash) (q : Quoting) (bytes : List ℕ) (n i : ℕ) : Type 0 where
  pub v : List ℕ
  pub within : i ≤ length s
  pub fewer : length v ≤ i
  pub none : place ≡ Nowhere
  pub held : bytes ≡ padded size v
  pub count : n ≡ length v
  pub left : put_before v (scan_from q (drop i s) i) ≡ scan_from Outside s 0

pub start : (s : List ℕ) → Reached s Nowhere Outside (padded size []) 0 0
start s = record { v = []; within = omega arith; fewer = omega arith; none = refl; held = refl; count = refl; left = refl }

-- what the code hands back where it stops
abbrev pub handed : Slash → List ℕ → ℕ → Scanned
handed p bytes n = record { slash = p; value = record { bytes = bytes; len = n } }

module _ {s : List ℕ} {place : Slash} {q : Quoting} {bytes : List ℕ} {n i : ℕ} (R : Reached s place q bytes n i) where
  stopped : (p : Slash) → scan_from q (drop i s) i ≡ record { place = p; value = [] } → handed p bytes n ≡ scanned_of s
  unfolding scanned_of
  stopped p e =
      (λ j. handed p (R.held j) (R.count j))
      ∙ ap (λ (v : List ℕ). answered (record { place = p; value = v })) (sym (append-nil R.v))
      ∙ ap (λ (r : Scan). answered (put_before R.v r)) (sym e)
      ∙ ap answered R.left

  pub at_end : length s ≤ i → handed place bytes n ≡ scanned_of s
  unfolding scan_from
  at_end h = rw R.none (stopped Nowhere (rw (drop_of_length-le s h)))

  module _ (more : i < length s) where
    -- the scan of what stands behind i
    abbrev onward : Quoting → Scan
    onward r = scan_from r (drop (i + 1) s) (i + 1)

    pub on_ends : move q (byte_class (get_or s i 0)) ≡ ends → handed (At i) bytes n ≡ scanned_of s
    unfolding after
    on_ends e = stopped (At i) (moved s q i more ends e)

    pub on_refused : move q (byte_class (get_or s i 0)) ≡ rejects → handed (Bad i) bytes n ≡ scanned_of s
    unfolding after
    on_refused e = stopped (Bad i) (moved s q i more rejects e)

    pub on_passes : (r : Quoting) → move q (byte_class (get_or s i 0)) ≡ passes r → Reached s place r bytes n (i + 1)
    unfolding after
    on_passes r e =
        record {
          v = R.v;
          within = omega arith;
          fewer = omega (arith, R.fewer);
          none = R.none;
          held = R.held;
          count = R.count;
          left = ap (put_before R.v) (sym (moved s q i more (passes r) e)) ∙ R.left;
        }

    pub on_puts : (r : Quoting) (b : ℕ) → length s ≤ size → move q (byte_class (get_or s i 0)) ≡ puts r → b ≡ shown (get_or s i 0)
        → Reached s place r (set bytes n b) (n + 1) (i + 1)
    unfolding after
    on_puts r b small e is-shown =
        record {
          v = R.v ++ b ∷ [];
          within = omega arith;
          fewer = rw length-put (omega (arith, R.fewer));
          none = R.none;
          held = rw (R.held, R.count) (padded-put size R.v b (omega (arith, R.fewer)));
          count = rw (length-put, R.count);
          left =
              ap (λ (v : List ℕ). record { place = (onward r).place; value = v }) (append_assoc R.v (b ∷ []) (onward r).value)
              ∙ ap (λ (x : ℕ). put_before R.v (put_before (x ∷ []) (onward r))) is-shown
              ∙ ap (put_before R.v) (sym (moved s q i more (puts r) e))
              ∙ R.left;
        }
