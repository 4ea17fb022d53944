-- The name of an entry has no byte of 128 or more.
use Rattle.std.specs.Prelude.{Err, None, Ok, Option, Result, Some}
use Prim.Native.Nat.{ℕ, zero, suc, ◌+◌, ◌<◌}
use Prim.Native.Char.{code}
use native.Mathlib.Omega.{arith}
use mathlib.Core.Path.{◌≡◌, refl, sym, ap, subst, ◌∙◌}
use mathlib.Core.Bool.{Bool, true, false, cond, true≢false}
use mathlib.Core.List.{List, [], ◌∷◌, ◌++◌}
use borrow.Author.Tests.{leb-false, lt-leb}
use lib.Dec.{leb}
use lib.ListN.{take, drop}
use Rattle.refusal.specs.declared.Refusal.TheVariants as R
use Rattle.refusal.specs.Numbers.{fault_of}
use Rattle.text.specs.Bytes.{ascii, is_blank}
use Rattle.text.specs.Trim.{trim_start, cons_trimmed, trim_end, trim}
use Rattle.text.specs.Same.{same}
use Rattle.text.specs.Place.{place_of}
use Rattle.text.specs.Text.{text_of}
use Rattle.text.proofs.Texts.{bytes-text}
use Rattle.text.proofs.Comparing.{same_eq}
use Rattle.value.specs.declared.ValueRead.{ValueRead}
use Rattle.value.specs.Values.{value_of}
use Rattle.card.specs.declared.Class.{Class}
use Rattle.card.specs.declared.Class.TheVariants.{Hierarch}
use Rattle.card.specs.Keywords.{first_high, has_high, keyword_of, class_of, onto, name_pieces, stop_and, join_pieces, dotted_name}
use Rattle.card.specs.Cards.{of_value, named, by_equals, hierarch_of, by_class, unplaced_of}
use Rattle.roles.specs.Roles.{Held, Role, entry, more, neutral, last, refused, role_read, role_of}
use Rattle.roles.proofs.Placing.{entry-unplaced}
use Rattle.listing.proofs.Keyed.{entry_keyword}
use Rattle.refusal.specs.declared.Fault.{Fault}

-- no byte of a text is high
abbrev pub Low : List ℕ → Type 0
Low s = has_high s ≡ false

-- ---- byte by byte
pub low_first : (b : ℕ) (s : List ℕ) → Low (b ∷ s) → (b < first_high) × Low s
unfolding has_high
low_first b s e = go (leb first_high b) refl e
  where
    go : (t : Bool) → leb first_high b ≡ t → cond t true (has_high s) ≡ false → (b < first_high) × Low s
    go true d e = absurd (true≢false e)
    go false d e = (leb-false first_high b d, e)

low_put : (b : ℕ) (s : List ℕ) → b < first_high → Low s → Low (b ∷ s)
unfolding has_high
low_put b s h e = rw (lt-leb first_high b h) e

-- ---- parts
pub low_take : (n : ℕ) (s : List ℕ) → Low s → Low (take n s)
unfolding has_high
low_take zero s e = refl
low_take (suc n) [] e = refl
low_take (suc n) (b ∷ s) e = let l = low_first b s e in low_put b (take n s) l.0 (low_take n s l.1)

pub low_drop : (n : ℕ) (s : List ℕ) → Low s → Low (drop n s)
unfolding has_high
low_drop zero s e = e
low_drop (suc n) [] e = refl
low_drop (suc n) (b ∷ s) e = low_drop n s (low_first b s e).1

module _ (p : ℕ → Bool) where
  low_start : (s : List ℕ) → Low s → Low (trim_start p s)
  unfolding trim_start
  low_start [] e = e
  low_start (b ∷ s) e = go (p b) (low_start s (low_first b s e).1)
    where
      go : (t : Bool) → Low (trim_start p s) → Low (cond t (trim_start p s) (b ∷ s))
      go true h = h
      go false h = e

  low_end : (s : List ℕ) → Low s → Low (trim_end p s)
  unfolding trim_end cons_trimmed has_high
  low_end [] e = e
  low_end (b ∷ s) e = let l = low_first b s e in go (p b) (trim_end p s) l.0 (low_end s l.1)
    where
      go : (t : Bool) (u : List ℕ) → b < first_high → Low u → Low (cons_trimmed t b u)
      go true [] h d = refl
      go true (c ∷ u) h d = low_put b (c ∷ u) h d
      go false u h d = low_put b u h d

  low_trim : (s : List ℕ) → Low s → Low (trim p s)
  unfolding trim
  low_trim s e = low_end (trim_start p s) (low_start s e)

low_append : (s t : List ℕ) → Low s → Low t → Low (s ++ t)
low_append [] t d e = e
low_append (b ∷ s) t d e = let l = low_first b s d in low_put b (s ++ t) l.0 (low_append s t l.1 e)

-- ---- the pieces of a dotted name
data Lows : List (List ℕ) → Type 0 where
  none : Lows []
  one : {p : List ℕ} {ps : List (List ℕ)} → Low p → Lows ps → Lows (p ∷ ps)

low_onto : (b : ℕ) {ps : List (List ℕ)} → b < first_high → Lows ps → Lows (onto b ps)
unfolding has_high
low_onto b h none = one {p = b ∷ []} (low_put b [] h refl) none
low_onto b h (one {p} {ps} l ls) = one {p = b ∷ p} (low_put b p h l) ls

low_pieces : (s : List ℕ) → Low s → Lows (name_pieces s)
unfolding name_pieces has_high
low_pieces [] e = one {p = []} refl none
low_pieces (b ∷ s) e = let l = low_first b s e in go (is_blank b) l.0 (low_pieces s l.1)
  where
    go : (t : Bool) → b < first_high → Lows (name_pieces s) → Lows (cond t ([] ∷ name_pieces s) (onto b (name_pieces s)))
    go true h ls = one {p = []} refl ls
    go false h ls = low_onto b h ls

low_stop : (s : List ℕ) → Low s → Low (stop_and s)
low_stop [] e = e
low_stop (b ∷ s) e = low_put (code ".") (b ∷ s) (omega arith) e

low_join : {ps : List (List ℕ)} → Lows ps → Low (join_pieces ps)
unfolding join_pieces has_high
low_join none = refl
low_join (one {p} {ps} l ls) = go p l (low_join ls)
  where
    go : (p : List ℕ) → Low p → Low (join_pieces ps) → Low (join_pieces (p ∷ ps))
    go [] l j = j
    go (b ∷ p) l j = low_append (b ∷ p) (stop_and (join_pieces ps)) l (low_stop (join_pieces ps) j)

low_dotted : (s : List ℕ) → Low s → Low (dotted_name s)
low_dotted s e = low_join (low_pieces s e)

-- ---- the names of entries
abbrev LowRole : Role → Type 0
LowRole (entry m v) = Low m
LowRole (more t c) = Unit {0}
LowRole neutral = Unit {0}
LowRole last = Unit {0}
LowRole (refused f) = Unit {0}

by_answer : (n : List ℕ) (r : Result ValueRead Fault) → Low n → LowRole (role_read (of_value true (text_of n) r))
by_answer n (Ok v) l = subst Low (sym (bytes-text n)) l
by_answer n (Err f) l = tt

by_name : (n raw : List ℕ) → Low n → LowRole (role_read (named n raw))
by_name [] raw l = tt
by_name (b ∷ n) raw l = by_answer (b ∷ n) (value_of raw) l

by_place : (p : Option ℕ) (c : List ℕ) → Low c → LowRole (role_read (by_equals p c))
by_place None c l = tt
by_place (Some i) c l = by_name (dotted_name (take i (drop 9 c))) (drop (10 + i) c) (low_dotted _ (low_take i (drop 9 c) (low_drop 9 c l)))

-- a HIERARCH card
hierarch_so : (k : List ℕ) → same k (ascii "HIERARCH") ≡ true → class_of k ≡ Hierarch
unfolding class_of same
hierarch_so k e = ap class_of (same_eq k (ascii "HIERARCH") e)

module _ (c m : List ℕ) (v : Held) (is : role_of c ≡ entry m v) where
  -- an entry is not refused for a high byte
  entry_low : Low c
  unfolding unplaced_of
  entry_low = go (has_high c) (entry-unplaced c m v is)
    where
      go : (t : Bool) → let k = keyword_of c in
          role_read (cond t (Err (fault_of R.HighByte)) (by_class (class_of k) (text_of k) c)) ≡ entry m v → t ≡ false
      go true e = absurd (let z : ◌≡◌ {A = ℕ} 0 1 = cc in omega arith)
      go false e = refl

  role_so : (x : Class) → class_of (keyword_of c) ≡ x → role_read (by_class x (text_of (keyword_of c)) c) ≡ entry m v
  unfolding unplaced_of
  role_so x e =
      ap (λ (y : Class). role_read (by_class y (text_of (keyword_of c)) c)) (sym e)
      ∙ read (has_high c) entry_low (entry-unplaced c m v is)
    where
      read : (t : Bool) → t ≡ false → let k = keyword_of c in
          role_read (cond t (Err (fault_of R.HighByte)) (by_class (class_of k) (text_of k) c)) ≡ entry m v
          → role_read (by_class (class_of k) (text_of k) c) ≡ entry m v
      read true d e = absurd (true≢false d)
      read false d e = e

  pub low_entry : Low m
  unfolding hierarch_of
  low_entry = go (same (keyword_of c) (ascii "HIERARCH")) refl
    where
      go : (t : Bool) → same (keyword_of c) (ascii "HIERARCH") ≡ t → Low m
      go true d = subst LowRole (role_so Hierarch (hierarch_so (keyword_of c) d)) (by_place (place_of (code "=") (drop 9 c)) c entry_low)
      go false d = subst Low (sym (entry_keyword c m v is d)) (low_trim is_blank (take 8 c) (low_take 8 c entry_low))
