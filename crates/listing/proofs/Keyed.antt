-- The name that a card is read with is its keyword, unless it is a HIERARCH card.
use Rattle.std.specs.Prelude.{Err, Ok, Option, Result}
use Prim.Native.Nat.{ℕ}
use native.Mathlib.Omega.{arith}
use mathlib.Core.Path.{◌≡◌, refl, subst}
use mathlib.Core.Bool.{Bool, true, false, cond}
use mathlib.Core.List.{List, [], ◌∷◌}
use lib.ListN.{take, drop}
use Rattle.refusal.specs.declared.Refusal.TheVariants as R
use Rattle.refusal.specs.Numbers.{fault_of}
use Rattle.text.specs.declared.Text.{Text}
use Rattle.text.specs.Bytes.{ascii}
use Rattle.text.specs.Same.{same}
use Rattle.text.specs.Text.{text_of, bytes_of}
use Rattle.text.proofs.Texts.{bytes-text}
use Rattle.splitting.specs.declared.Halves.{Halves}
use Rattle.splitting.specs.Split.{split_of}
use Rattle.splitting.specs.Strings.{string_of}
use Rattle.value.specs.declared.ValueRead.{ValueRead}
use Rattle.value.specs.Values.{value_of}
use Rattle.card.specs.declared.Card.TheVariants as C
use Rattle.card.specs.declared.Class.{Class}
use Rattle.card.specs.declared.Class.TheVariants.{Empty, Comment, History, Continue, Xtension, Hierarch, End, Other}
use Rattle.card.specs.Keywords.{has_high, keyword_of, class_of}
use Rattle.card.specs.Cards.{card_as, remark_of, space_or, empty_of, string_card, continued, continuation_of}
use Rattle.card.specs.Cards.{is_within_quotes, quoted_card, extended, extension_of, of_value, other_of, by_class, unplaced_of}
use Rattle.roles.specs.Roles.{Held, Role, entry, more, neutral, last, refused, role_read, role_of}
use Rattle.roles.proofs.Placing.{entry-unplaced}
use Rattle.refusal.specs.declared.Fault.{Fault}

-- a role that is an entry has this name
abbrev Keyed : List ℕ → Role → Type 0
Keyed k (entry m v) = m ≡ k
Keyed k (more t c) = Unit {0}
Keyed k neutral = Unit {0}
Keyed k last = Unit {0}
Keyed k (refused f) = Unit {0}

module _ (k : List ℕ) where
  by_string : (q : Result Text Fault) (comment : Option Text) → Keyed k (role_read (string_card q (text_of k) comment))
  by_string (Ok text) comment = tt
  by_string (Err f) comment = tt

  by_split : (p : Result Halves Fault) → Keyed k (role_read (continued p (text_of k)))
  by_split (Ok h) = by_string (string_of (bytes_of h.value)) h.comment
  by_split (Err f) = tt

  by_quotes_lem : (v : Text) → Keyed k (role_read (quoted_card (text_of k) v))
  unfolding quoted_card
  by_quotes_lem v = go (is_within_quotes (bytes_of v)) _
    where
      go : (b : Bool) (t : Text)
          → Keyed k (role_read (cond b (Ok (card_as C.Xtension (text_of k) t)) (Err (fault_of R.ExtensionNotQuoted))))
      go true t = bytes-text k
      go false t = tt

  by_extension : (p : Result Halves Fault) → Keyed k (role_read (extended p (text_of k)))
  by_extension (Ok h) = by_quotes_lem h.value
  by_extension (Err f) = tt

  by_value : (r : Result ValueRead Fault) → Keyed k (role_read (of_value false (text_of k) r))
  by_value (Ok v) = bytes-text k
  by_value (Err f) = tt

  by_other : (c : List ℕ) → Keyed k (role_read (other_of (text_of k) c))
  unfolding other_of
  by_other c = go (same (take 2 (drop 8 c)) (ascii "= "))
    where
      go : (b : Bool)
          → Keyed k
          (role_read (cond b (of_value false (text_of k) (value_of (drop 10 c))) (Ok (card_as C.Undefined (text_of k) (text_of c)))))
      go true = by_value (value_of (drop 10 c))
      go false = tt

  by_empty : (c : List ℕ) → Keyed k (role_read (Ok (empty_of c)))
  unfolding empty_of
  by_empty c = go (remark_of c)
    where
      go : (t : List ℕ) → Keyed k (role_read (Ok (space_or t)))
      go [] = tt
      go (b ∷ t) = tt

  by_class_lem : (x : Class) (c : List ℕ) → (x ≡ Hierarch → ⊥) → Keyed k (role_read (by_class x (text_of k) c))
  unfolding continuation_of extension_of
  by_class_lem Empty c n = by_empty c
  by_class_lem Comment c n = tt
  by_class_lem History c n = tt
  by_class_lem Continue c n = by_split (split_of (drop 8 c))
  by_class_lem Xtension c n = by_extension (split_of (drop 10 c))
  by_class_lem Hierarch c n = absurd (n refl)
  by_class_lem End c n = tt
  by_class_lem Other c n = by_other c

-- another keyword is not that of a HIERARCH card
not_hierarch : (k : List ℕ) → same k (ascii "HIERARCH") ≡ false → class_of k ≡ Hierarch → ⊥
unfolding class_of
not_hierarch k e d =
    go (same k []) (same k (ascii "COMMENT")) (same k (ascii "HISTORY")) (same k (ascii "CONTINUE")) (same k (ascii "XTENSION"))
    (same k (ascii "END")) (rw e at d)
  where
    class : Bool → Bool → Bool → Bool → Bool → Bool → Class
    class a b c f g i =
        cond a Empty (cond b Comment (cond c History (cond f Continue (cond g Xtension (cond false Hierarch (cond i End Other))))))

    go : (a b c f g i : Bool) → class a b c f g i ≡ Hierarch → ⊥
    go true b c f g i d = let z : ◌≡◌ {A = ℕ} 0 1 = cc in omega arith
    go false true c f g i d = let z : ◌≡◌ {A = ℕ} 0 1 = cc in omega arith
    go false false true f g i d = let z : ◌≡◌ {A = ℕ} 0 1 = cc in omega arith
    go false false false true g i d = let z : ◌≡◌ {A = ℕ} 0 1 = cc in omega arith
    go false false false false true i d = let z : ◌≡◌ {A = ℕ} 0 1 = cc in omega arith
    go false false false false false true d = let z : ◌≡◌ {A = ℕ} 0 1 = cc in omega arith
    go false false false false false false d = let z : ◌≡◌ {A = ℕ} 0 1 = cc in omega arith

card_keyed : (c : List ℕ) → same (keyword_of c) (ascii "HIERARCH") ≡ false → Keyed (keyword_of c) (role_read (unplaced_of c))
unfolding unplaced_of
card_keyed c e = go (has_high c)
  where
    go : (b : Bool) → let k = keyword_of c in
        Keyed k (role_read (cond b (Err (fault_of R.HighByte)) (by_class (class_of k) (text_of k) c)))
    go true = tt
    go false = by_class_lem (keyword_of c) (class_of (keyword_of c)) c (not_hierarch (keyword_of c) e)

pub entry_keyword : (c m : List ℕ) (v : Held) → role_of c ≡ entry m v
    → same (keyword_of c) (ascii "HIERARCH") ≡ false → m ≡ keyword_of c
entry_keyword c m v e d = subst (Keyed (keyword_of c)) (entry-unplaced c m v e) (card_keyed c d)
