-- Strings, by the tests of the code.
use Rattle.std.specs.Prelude.{Err}
use Prim.Native.Nat.{ℕ, suc, ◌-◌}
use Prim.Native.Char.{code}
use native.Mathlib.Omega.{arith}
use mathlib.Core.Path.{◌≡◌, refl, sym, ◌∙◌}
use mathlib.Core.List.{List, [], ◌∷◌}
use borrow.Author.Tests.{eq-eqb, ne_eqb}
use lib.ListN.{length, get_or, take, drop}
use Rattle.text.specs.Bytes.{is_space}
use Rattle.text.specs.Trim.{trim_end}
use Rattle.text.specs.Ends.{stem, ends_with}
use Rattle.refusal.specs.declared.Refusal.TheVariants as R
use Rattle.refusal.specs.Numbers.{fault_of}
use Rattle.splitting.specs.Strings.{or_space, settled_of, reads, opened, unopened, string_of}

pub empty : (s : List ℕ) → length s ≡ 0 → s ≡ []
empty [] h = refl
empty (b ∷ s) h = absurd (omega arith)

-- ---- within the quotes
pub settled_some : (s : List ℕ) → (length s ≡ 0 → ⊥) → settled_of s ≡ or_space (trim_end is_space s)
unfolding settled_of
settled_some [] h = absurd (h refl)
settled_some (b ∷ s) h = refl

pub kept : (t : List ℕ) → (length t ≡ 0 → ⊥) → or_space t ≡ t
kept [] h = absurd (h refl)
kept (b ∷ t) h = refl

-- ---- the quotes

-- the first byte is a quote, and the last
abbrev pub Opens : List ℕ → Type 0
Opens s = get_or s 0 0 ≡ code "'"

abbrev pub Closes : List ℕ → Type 0
Closes s = get_or s (length s - 1) 0 ≡ code "'"

pub lone : (s : List ℕ) → length s ≡ 1 → Opens s → string_of s ≡ Err (fault_of R.StringNotClosed)
unfolding string_of opened ends_with
lone [] h e = absurd (omega arith)
lone (b ∷ []) h e = rw (eq-eqb b (code "'") e)
lone (b ∷ c ∷ s) h e = absurd (omega arith)

-- in a text of at least two bytes the last one is that of the rest
last : (b c : ℕ) (s : List ℕ) → get_or (b ∷ c ∷ s) (length (b ∷ c ∷ s) - 1) 0 ≡ get_or (c ∷ s) (length (c ∷ s) - 1) 0
last b c s =
    let x : suc (suc (length s)) - 1 ≡ suc (length s) = omega arith in
    let y : suc (length s) - 1 ≡ length s = omega arith in
    rw (x, y)

pub quoted : (s : List ℕ) → (length s ≡ 0 → ⊥) → (length s ≡ 1 → ⊥) → Opens s → Closes s
    → string_of s ≡ reads (take (length s - 1 - 1) (drop 1 s))
unfolding string_of opened stem ends_with
quoted [] some more e d = absurd (some refl)
quoted (b ∷ []) some more e d = absurd (more refl)
quoted (b ∷ c ∷ s) some more e d =
    let x : suc (suc (length s)) - 1 ≡ suc (length s) = omega arith in
    rw (eq-eqb b (code "'") e, eq-eqb _ (code "'") (sym (last b c s) ∙ d), x)

pub unclosed : (s : List ℕ) → (length s ≡ 0 → ⊥) → (length s ≡ 1 → ⊥) → Opens s → (Closes s → ⊥)
    → string_of s ≡ Err (fault_of R.StringNotClosed)
unfolding string_of opened ends_with
unclosed [] some more e d = absurd (some refl)
unclosed (b ∷ []) some more e d = absurd (more refl)
unclosed (b ∷ c ∷ s) some more e d = rw (eq-eqb b (code "'") e, ne_eqb _ (code "'") (λ x. d (last b c s ∙ x)))

module _ (s : List ℕ) (some : length s ≡ 0 → ⊥) (bare : Opens s → ⊥) where
  without : string_of s ≡ unopened s
  unfolding string_of
  without = go s some bare
    where
      go : (s : List ℕ) → (length s ≡ 0 → ⊥) → (Opens s → ⊥) → string_of s ≡ unopened s
      go [] h e = absurd (h refl)
      go (b ∷ s) h e = rw (ne_eqb b (code "'") e)

  pub unopened_quote : Closes s → string_of s ≡ Err (fault_of R.StringNotOpened)
  unfolding unopened ends_with
  unopened_quote e = without ∙ rw (eq-eqb _ (code "'") e)

  pub plain_text_lem : (Closes s → ⊥) → string_of s ≡ reads s
  unfolding unopened ends_with
  plain_text_lem e = without ∙ rw (ne_eqb _ (code "'") e)
