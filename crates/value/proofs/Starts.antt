-- What a first byte tells, by the tests of the code, and a value text by its first byte.
use Rattle.std.specs.Prelude.{Option}
use Prim.Native.Nat.{ℕ, zero, suc, ◌≤◌}
use Prim.Native.Char.{code}
use native.Mathlib.Omega.{arith}
use mathlib.Core.Path.{◌≡◌, refl}
use mathlib.Core.Bool.{true, false}
use mathlib.Core.List.{List, [], ◌∷◌}
use borrow.Author.Tests.{eq-eqb, ne_eqb}
use lib.ListN.{length, take, get_or}
use Rattle.text.specs.declared.Text.{Text}
use Rattle.text.specs.Bytes.{is_digit}
use Rattle.value.specs.declared.Start.TheVariants.{Quote, Truth, Number, Complex, Else}
use Rattle.value.specs.Values.{starts_number, start_of, by_start, by_bytes, value_with}

module _ {b : ℕ} where
  pub plus_starts : b ≡ code "+" → true ≡ starts_number b
  unfolding starts_number
  plus_starts e = rw (eq-eqb b (code "+") e)

  module _ (p : b ≡ code "+" → ⊥) where
    pub minus_starts : b ≡ code "-" → true ≡ starts_number b
    unfolding starts_number
    minus_starts e = rw (ne_eqb b (code "+") p, eq-eqb b (code "-") e)

    module _ (m : b ≡ code "-" → ⊥) where
      pub point_starts : b ≡ code "." → true ≡ starts_number b
      unfolding starts_number
      point_starts e = rw (ne_eqb b (code "+") p, ne_eqb b (code "-") m, eq-eqb b (code ".") e)

      pub digit_starts : (b ≡ code "." → ⊥) → is_digit b ≡ starts_number b
      unfolding starts_number
      digit_starts d = rw (ne_eqb b (code "+") p, ne_eqb b (code "-") m, ne_eqb b (code ".") d)

  pub start_quote : b ≡ code "'" → Quote ≡ start_of b
  unfolding start_of
  start_quote e = rw (eq-eqb b (code "'") e)

  module _ (q : b ≡ code "'" → ⊥) where
    pub start_true : b ≡ code "T" → Truth true ≡ start_of b
    unfolding start_of
    start_true e = rw (ne_eqb b (code "'") q, eq-eqb b (code "T") e)

    module _ (t : b ≡ code "T" → ⊥) where
      pub start_false : b ≡ code "F" → Truth false ≡ start_of b
      unfolding start_of
      start_false e = rw (ne_eqb b (code "'") q, ne_eqb b (code "T") t, eq-eqb b (code "F") e)

      module _ (f : b ≡ code "F" → ⊥) where
        pub start_complex : b ≡ code "(" → Complex ≡ start_of b
        unfolding start_of
        start_complex e = rw (ne_eqb b (code "'") q, ne_eqb b (code "T") t, ne_eqb b (code "F") f, eq-eqb b (code "(") e)

        module _ (c : b ≡ code "(" → ⊥) where
          pub start-number : starts_number b ≡ true → Number ≡ start_of b
          unfolding start_of
          start-number e = rw (ne_eqb b (code "'") q, ne_eqb b (code "T") t, ne_eqb b (code "F") f, ne_eqb b (code "(") c, e)

          pub start_else : starts_number b ≡ false → Else ≡ start_of b
          unfolding start_of
          start_else e = rw (ne_eqb b (code "'") q, ne_eqb b (code "T") t, ne_eqb b (code "F") f, ne_eqb b (code "(") c, e)

-- the bytes of a text, none or by the first
module _ (v : Text) (raw : List ℕ) (comment : Option Text) where
  pub with_none : v.len ≡ 0 → by_bytes [] v raw comment ≡ value_with v raw comment
  unfolding value_with
  with_none e = rw e

  pub with_some : (v.len ≡ 0 → ⊥) → v.len ≤ length v.bytes
      → by_start (start_of (get_or v.bytes 0 0)) v raw comment ≡ value_with v raw comment
  unfolding value_with
  with_some some fits = go v.len v.bytes some fits
    where
      go : (n : ℕ) (l : List ℕ) → (n ≡ 0 → ⊥) → n ≤ length l
          → by_start (start_of (get_or l 0 0)) v raw comment ≡ by_bytes (take n l) v raw comment
      go zero l s f = absurd (s refl)
      go (suc n) [] s f = absurd (omega arith)
      go (suc n) (b ∷ l) s f = refl
