-- The byte at which a text is refused is one of its card.
use Rattle.std.specs.Prelude.{None, Option, Some}
use Prim.Native.Nat.{ℕ, ◌-◌, ◌<◌, ◌≤◌}
use mathlib.Core.Path.{◌≡◌, refl, sym, subst}
use mathlib.Core.List.{List}
use lib.ListN.{length}
use Rattle.refusal.specs.declared.Fault.{Fault}
use Rattle.text.specs.Bytes.{is_blank}
use Rattle.text.specs.Trim.{trim}
use Rattle.text.specs.Text.{size}
use Rattle.splitting.specs.declared.Quoting.TheVariants.{Outside}
use Rattle.splitting.specs.declared.Slash.{Slash}
use Rattle.splitting.specs.declared.Slash.TheVariants as S
use Rattle.splitting.specs.Scan.{scan_from}
use Rattle.splitting.specs.Split.{parts_at, split_of}
use Rattle.splitting.specs.Columns.{first_byte, odd_by, text_column}
use Rattle.refusal.proofs.Placing.{RefusedBy}
use Rattle.splitting.proofs.Splitting.{Below, place-within, byte-within}

-- there is a column, and it is a byte of a card
abbrev pub Within : Option ℕ → Type 0
Within (Some b) = b < size
Within None = ⊥

-- the byte that a split refuses
pub split_within : (from : ℕ) (t : List ℕ) → length t ≤ size - from
    → RefusedBy (λ (x : Fault). Within (text_column from t x.why)) (split_of t)
unfolding split_of
split_within from t few =
    let s = trim is_blank t in
    let r = scan_from Outside s 0 in
    go r.place r.value refl (place-within s)
  where
    go : (p : Slash) (v : List ℕ) → (scan_from Outside (trim is_blank t) 0).place ≡ p → Below (length (trim is_blank t)) p
        → RefusedBy (λ (x : Fault). Within (text_column from t x.why)) (parts_at p (trim is_blank t) v)
    go (S.At i) v e h = tt
    go S.Nowhere v e h = tt
    go (S.Bad i) v e h = subst (λ (p : Slash). Within (odd_by p (first_byte from t))) (sym e) (byte-within from t few i h)
