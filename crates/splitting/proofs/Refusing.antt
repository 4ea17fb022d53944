-- The refusals of a text, and where each is met.
use Rattle.std.specs.Prelude.{Some, Err}
use Prim.Native.Nat.{ℕ}
use Prim.Native.Char.{code}
use mathlib.Core.Path.{◌≡◌, refl}
use mathlib.Core.Bool.{Bool, true, false, cond}
use mathlib.Core.List.{List, [], ◌∷◌}
use Rattle.refusal.specs.declared.Fault.{Fault}
use Rattle.refusal.specs.declared.Refusal.TheVariants as R
use Rattle.refusal.specs.Numbers.{fault_of}
use Rattle.refusal.proofs.Placing.{RefusedBy}
use Rattle.text.specs.Bytes.{is_blank}
use Rattle.text.specs.Ends.{ends_with, stem}
use Rattle.text.specs.Trim.{trim}
use Rattle.splitting.specs.declared.Quoting.TheVariants.{Outside}
use Rattle.splitting.specs.declared.Slash.{Slash}
use Rattle.splitting.specs.declared.Slash.TheVariants as S
use Rattle.splitting.specs.Scan.{scan_from}
use Rattle.splitting.specs.Split.{parts_at, split_of}
use Rattle.splitting.specs.Strings.{is_quote, reads, opened, unopened, string_of}
use Rattle.splitting.specs.Columns.{first_byte, text_column}

-- the refusals that are met at the first byte of a text
pub data Led : Fault → Type 0 where
  not-closed : Led (fault_of R.StringNotClosed)
  not_opened : Led (fault_of R.StringNotOpened)
  complex : Led (fault_of R.Complex)
  not-quoted : Led (fault_of R.ExtensionNotQuoted)

-- all that a text is refused by
pub data InText : Fault → Type 0 where
  odd : InText (fault_of R.OddByte)
  led : {x : Fault} → Led x → InText x

-- where those are met
pub led_first : (from : ℕ) (t : List ℕ) (x : Fault) → Led x → Some (first_byte from t) ≡ text_column from t x.why
led_first from t _ not-closed = refl
led_first from t _ not_opened = refl
led_first from t _ complex = refl
led_first from t _ not-quoted = refl

-- ---- of a split

pub split_in_text : (t : List ℕ) → RefusedBy InText (split_of t)
unfolding split_of
split_in_text t = let s = trim is_blank t in let r = scan_from Outside s 0 in go r.place s r.value
  where
    go : (p : Slash) (s v : List ℕ) → RefusedBy InText (parts_at p s v)
    go (S.At i) s v = tt
    go S.Nowhere s v = tt
    go (S.Bad i) s v = odd

-- ---- of a string

pub string_led : (s : List ℕ) → RefusedBy Led (string_of s)
unfolding string_of opened unopened
string_led [] = tt
string_led (b ∷ s) = go (is_quote b) (ends_with (code "'") s) (ends_with (code "'") (b ∷ s))
  where
    go : (q d e : Bool)
        → RefusedBy Led
        (cond q (cond d (reads (stem s)) (Err (fault_of R.StringNotClosed)))
        (cond e (Err (fault_of R.StringNotOpened)) (reads (b ∷ s))))
    go true true e = tt
    go true false e = not-closed
    go false d true = not_opened
    go false d false = tt

-- ---- of a text, by any test that its refusals pass

pub record OfText (P : Fault → Type 0) (t : List ℕ) : Type 0 where
  pub first : (x : Fault) → Led x → P x
  pub split : RefusedBy P (split_of t)

pub of_text : (t : List ℕ) → OfText InText t
of_text t = record { first = λ (x : Fault) (h : Led x). led h; split = split_in_text t }
