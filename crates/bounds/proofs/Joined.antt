-- How long joined words can be, and what a name is answered with.
use Rattle.std.specs.Prelude.{Option, None, Some}
use Prim.Native.Nat.{ℕ, zero, suc, ◌+◌, ◌-◌, ◌*◌, ◌/◌, ◌≤◌}
use native.Mathlib.Omega.{arith}
use mathlib.Core.Path.{◌≡◌, refl, subst, sym, ◌∙◌}
use mathlib.Core.Bool.{Bool, true, false, cond, true≢false}
use mathlib.Core.List.{List, [], ◌∷◌, ◌++◌, map}
use lib.ListN.{length, take, drop, length-append, length-drop, length-take}
use Rattle.laws.proofs.Truths.{and_both}
use Rattle.text.specs.Bytes.{line_feed, is_space}
use Rattle.text.specs.Trim.{trim_end}
use Rattle.text.specs.Ends.{stem, ends_with}
use Rattle.text.specs.Same.{same}
use Rattle.text.proofs.Trimming.{end_shorter}
use Rattle.roles.specs.Roles.{Comment, Words, Held, Role, entry, more, neutral, last, refused, role_of}
use Rattle.roles.specs.Cards.{cards_in, roles_of}
use Rattle.roles.proofs.Cards.{role_count}
use Rattle.roles.proofs.Counting.{good_cards}
use Rattle.joining.specs.Words.{ends_open, opens, adds_nothing, join_text, join_comment, join_words}
use Rattle.joining.specs.Lookup.{or_else, join_on, whole, lookup}
use Rattle.entries.specs.Answers.{bytes_in}
use Rattle.bounds.specs.Longest.{card_words, EachShort}
use Rattle.bounds.proofs.Cards.{RoleShort, role_short}

-- each of the roles is short
abbrev AllShort : List Role → Type 0
AllShort [] = Unit {0}
AllShort (r ∷ rs) = RoleShort r × AllShort rs

cards-short : (n : ℕ) (h : List ℕ) → n * 80 ≤ length h → AllShort (map role_of (cards_in n h))
unfolding cards_in
cards-short zero h p = tt
cards-short (suc n) h p =
    let one : length (take 80 h) ≡ 80 = omega (arith, length-take 80 h) in
    (role_short (take 80 h) one, cards-short n (drop 80 h) (omega (arith, length-drop 80 h)))

-- ---- one card joined
open_some : (s : List ℕ) → ends_open s ≡ true → 1 ≤ length s
unfolding ends_open ends_with
open_some [] e = absurd (true≢false (sym e))
open_some (b ∷ s) e = omega arith

text-short : (s t : List ℕ) → ends_open s ≡ true → length t ≤ card_words → length (join_text s t) ≤ length s + 71
unfolding join_text stem
text-short s t e h = go (adds_nothing t)
  where
    less : length (take (length s - 1) s) + 1 ≤ length s
    less = omega (arith, length-take (length s - 1) s, open_some s e)

    go : (b : Bool) → length (cond b (trim_end is_space (take (length s - 1) s)) (take (length s - 1) s ++ t)) ≤ length s + 71
    go true = omega (arith, end_shorter is_space (take (length s - 1) s), less)
    go false = omega (arith, length-append (take (length s - 1) s) t, less)

remark_short : (k c : Comment) → length (bytes_in c) ≤ card_words → length (bytes_in (join_comment k c)) ≤ length (bytes_in k) + 73
unfolding join_comment
remark_short None c h = omega arith
remark_short (Some a) None h = omega arith
remark_short (Some a) (Some c) h = omega (arith, length-append a (line_feed ∷ c))

-- ---- all cards that are joined
record Grown (w : Words) (n : ℕ) (x : Words) : Type 0 where
  pub text : length x.text ≤ length w.text + 71 * n
  pub comment : length (bytes_in x.comment) ≤ length (bytes_in w.comment) + 73 * n

still : (w x : Words) (n : ℕ) → Grown w n x → Grown w (suc n) x
still w x n g = record { text = omega (arith, g.text); comment = omega (arith, g.comment) }

opens-text : (w : Words) → opens w ≡ true → ends_open w.text ≡ true
unfolding opens
opens-text w e = (and_both w.joins (ends_open w.text) e).1

joined_grown : (w : Words) (rs : List Role) → AllShort rs → Grown w (length rs) (join_on w rs)
unfolding join_on join_words
joined_grown w [] h = record { text = omega arith; comment = omega arith }
joined_grown w (entry n v ∷ rs) h = record { text = omega arith; comment = omega arith }
joined_grown w (more t c ∷ rs) h = go (opens w) refl (joined_grown (join_words w t c) rs h.1)
  where
    go : (b : Bool) → opens w ≡ b → Grown (join_words w t c) (length rs) (join_on (join_words w t c) rs)
        → Grown w (suc (length rs)) (cond b (join_on (join_words w t c) rs) w)
    go true e g =
        let longer = text-short w.text t (opens-text w e) h.0.0 in
        let remark = remark_short w.comment c h.0.1 in
        grown longer remark g
      where
        grown : length (join_text w.text t) ≤ length w.text + 71
            → length (bytes_in (join_comment w.comment c)) ≤ length (bytes_in w.comment) + 73
            → Grown (join_words w t c) (length rs) (join_on (join_words w t c) rs)
            → Grown w (suc (length rs)) (join_on (join_words w t c) rs)
        grown a b g = record { text = omega (arith, g.text, a); comment = omega (arith, g.comment, b) }
    go false e g = record { text = omega arith; comment = omega arith }
joined_grown w (neutral ∷ rs) h = still w (join_on w rs) (length rs) (joined_grown w rs h.1)
joined_grown w (last ∷ rs) h = record { text = omega arith; comment = omega arith }
joined_grown w (refused f ∷ rs) h = still w (join_on w rs) (length rs) (joined_grown w rs h.1)

-- ---- what a name is answered
record Within (n : ℕ) (v : Held) : Type 0 where
  pub text : length v.words.text ≤ 71 * n + 1
  pub comment : length (bytes_in v.words.comment) ≤ 73 * n

wider : (n : ℕ) (v : Held) → Within n v → Within (suc n) v
wider n v x = record { text = omega (arith, x.text); comment = omega (arith, x.comment) }

answer-within : (name : List ℕ) (rs : List Role) → AllShort rs → (v : Held) → lookup name rs ≡ Some v → Within (length rs) v
unfolding lookup
answer-within name [] h v e = absurd (let z : ◌≡◌ {A = ℕ} 0 1 = cc in omega arith)
answer-within name (entry m u ∷ rs) h v e = go (lookup name rs) refl (same m name) e (answer-within name rs h.1 v)
  where
    own : Within (suc (length rs)) (whole u rs)
    own =
        let g = joined_grown u.words rs h.1 in
        record { text = omega (arith, g.text, h.0.0); comment = omega (arith, g.comment, h.0.1) }

    go : (o : Option Held) → lookup name rs ≡ o → (b : Bool) → or_else o (cond b (Some (whole u rs)) None) ≡ Some v
        → (lookup name rs ≡ Some v → Within (length rs) v) → Within (suc (length rs)) v
    go (Some x) d b i rest = wider (length rs) v (rest (d ∙ i))
    go None d true i rest = let is : whole u rs ≡ v = cc in subst (Within (suc (length rs))) is own
    go None d false i rest = absurd (let z : ◌≡◌ {A = ℕ} 0 1 = cc in omega arith)
answer-within name (more t c ∷ rs) h v e = wider (length rs) v (answer-within name rs h.1 v e)
answer-within name (neutral ∷ rs) h v e = wider (length rs) v (answer-within name rs h.1 v e)
answer-within name (last ∷ rs) h v e = absurd (let z : ◌≡◌ {A = ℕ} 0 1 = cc in omega arith)
answer-within name (refused f ∷ rs) h v e = wider (length rs) v (answer-within name rs h.1 v e)

pub each_short : EachShort
each_short h name v good e =
    let few = good_cards (length h) good in
    let x = answer-within name (roles_of h) (cards-short (length h / 80) h (omega arith)) v e in
    record { text = omega (arith, x.text, role_count h, few); comment = omega (arith, x.comment, role_count h, few) }
