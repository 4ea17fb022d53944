-- The names of the list, by what each card does.
use Prim.Native.Nat.{ℕ, zero, suc, ◌-◌}
use mathlib.Core.Path.{◌≡◌, refl, sym, ap, ap₂, ◌∙◌}
use mathlib.Core.Bool.{Bool, true, false, cond, true≢false}
use mathlib.Core.List.{List, [], ◌∷◌, map}
use lib.ListN.{length, take, drop, get_or, replicate}
use lib.Seq.{take-append_seam}
use Rattle.text.specs.Text.{filled}
use Rattle.text.proofs.Comparing.{same_self, same_eq}
use Rattle.roles.specs.Roles.{Role, entry, more, neutral, last, refused}
use Rattle.joining.specs.Lookup.{is_open, joined}
use Rattle.joining.specs.Belonging.{Entry, Open, ended, idle, held, Effect, gives, nothing, stops, does, leaves, effects, bears}
use Rattle.entries.proofs.Looking.{drop_next}
use Rattle.listing.specs.Listing.{name_of}
use Rattle.agreeing.specs.Firsts.{is_among, firsts_from}
use Rattle.demands.proofs.Ending.{to_end_lem, Twin, done, both, even}

-- the front of an array that was filled up
pub take-filled : (mark n : ℕ) (l : List ℕ) → take (length l) (filled mark n l) ≡ l
unfolding filled
take-filled mark n l = take-append_seam l (replicate (n - length l) mark)

-- the names that effects give, each where it comes first
unfoldable pub first_names : List (List ℕ) → List Effect → List (List ℕ)
first_names seen [] = []
first_names seen (gives e ∷ fs) = cond (is_among e.name seen) (first_names seen fs) (e.name ∷ first_names (e.name ∷ seen) fs)
first_names seen (nothing ∷ fs) = first_names seen fs
first_names seen (stops ∷ fs) = first_names seen fs

-- the same of a header's entries
unfoldable pub names_from : List (List ℕ) → List Role → List (List ℕ)
names_from seen [] = []
names_from seen (entry n v ∷ h) = cond (is_among n seen) (names_from seen h) (n ∷ names_from (n ∷ seen) h)
names_from seen (more t c ∷ h) = names_from seen h
names_from seen (neutral ∷ h) = names_from seen h
names_from seen (last ∷ h) = []
names_from seen (refused f ∷ h) = names_from seen h

-- ---- the names on the first cards
first_of : (r z : Role) (l rs : List Role) → l ≡ r ∷ rs → get_or l 0 z ≡ r
first_of r z l rs e = ap (λ (x : List Role). get_or x 0 z) e

at_drop : (all : List Role) (i : ℕ) (z : Role) → get_or all i z ≡ get_or (drop i all) 0 z
at_drop [] zero z = refl
at_drop [] (suc i) z = refl
at_drop (r ∷ all) zero z = refl
at_drop (r ∷ all) (suc i) z = at_drop all i z

module _ (all : List Role) where
  abbrev pub named : ℕ → List ℕ
  named i = name_of (get_or all i neutral)

  named-is : (i : ℕ) (r : Role) (rs : List Role) → drop i all ≡ r ∷ rs → named i ≡ name_of r
  named-is i r rs e = ap name_of (at_drop all i neutral ∙ first_of r neutral (drop i all) rs e)

  pub names_are : (seen : List (List ℕ)) (rs : List Role) (i : ℕ) → drop i all ≡ rs
      → map named (firsts_from seen rs i) ≡ names_from seen rs
  unfolding firsts_from names_from
  names_are seen [] i e = refl
  names_are seen (entry n v ∷ rs) i e =
      go (is_among n seen) (names_are seen rs (suc i) (drop_next all i rs (entry n v) e))
      (names_are (n ∷ seen) rs (suc i) (drop_next all i rs (entry n v) e))
    where
      go : (b : Bool) → map named (firsts_from seen rs (suc i)) ≡ names_from seen rs
          → map named (firsts_from (n ∷ seen) rs (suc i)) ≡ names_from (n ∷ seen) rs
          → map named (cond b (firsts_from seen rs (suc i)) (i ∷ firsts_from (n ∷ seen) rs (suc i)))
          ≡ cond b (names_from seen rs) (n ∷ names_from (n ∷ seen) rs)
      go true old new = old
      go false old new = ap₂ ◌∷◌ (named-is i (entry n v) rs e) new
  names_are seen (more t c ∷ rs) i e = names_are seen rs (suc i) (drop_next all i rs (more t c) e)
  names_are seen (neutral ∷ rs) i e = names_are seen rs (suc i) (drop_next all i rs neutral e)
  names_are seen (last ∷ rs) i e = refl
  names_are seen (refused f ∷ rs) i e = names_are seen rs (suc i) (drop_next all i rs (refused f) e)

-- ---- a CONTINUE card gives no new name: what stands open was seen
pub data Seen (seen : List (List ℕ)) : Open → Type 0 where
  free : Seen seen idle
  known : {e : Entry} → is_among e.name seen ≡ true → Seen seen (held e)

seen-after : (seen : List (List ℕ)) (q : Open) (e : Entry) → is_among e.name seen ≡ true → Seen seen (leaves q (gives e))
seen-after seen q e k = go (is_open e.value)
  where
    go : (b : Bool) → Seen seen (cond b (held e) idle)
    go true = known k
    go false = free

itself : (n : List ℕ) (seen : List (List ℕ)) → is_among n (n ∷ seen) ≡ true
unfolding is_among
itself n seen = rw (same_self n)

-- an entry gives its name, which was seen or is new
entered : (seen : List (List ℕ)) (q : Open) (e : Entry) (h : List Role)
    → ((seen : List (List ℕ)) (q : Open) → Seen seen q → first_names seen (effects q (to_end_lem h)) ≡ names_from seen h)
    → first_names seen (gives e ∷ effects (leaves q (gives e)) (to_end_lem h))
    ≡ cond (is_among e.name seen) (names_from seen h) (e.name ∷ names_from (e.name ∷ seen) h)
unfolding first_names
entered seen q e h rest = go (is_among e.name seen) refl
  where
    q₁ : Open
    q₁ = leaves q (gives e)

    go : (b : Bool) → is_among e.name seen ≡ b
        → cond b (first_names seen (effects q₁ (to_end_lem h))) (e.name ∷ first_names (e.name ∷ seen) (effects q₁ (to_end_lem h)))
        ≡ cond b (names_from seen h) (e.name ∷ names_from (e.name ∷ seen) h)
    go true k = rest seen q₁ (seen-after seen q e k)
    go false k = ap (λ (l : List (List ℕ)). e.name ∷ l)
        (rest (e.name ∷ seen) q₁ (seen-after (e.name ∷ seen) q e (itself e.name seen)))

pub by_effects : (h : List Role) (seen : List (List ℕ)) (q : Open) → Seen seen q
    → first_names seen (effects q (to_end_lem h)) ≡ names_from seen h
unfolding first_names names_from effects to_end_lem
by_effects [] seen q s = refl
by_effects (entry n v ∷ h) seen idle free = entered seen idle (record { name = n; value = v }) h (by_effects h)
by_effects (entry n v ∷ h) seen (held e) (known k) = entered seen (held e) (record { name = n; value = v }) h (by_effects h)
by_effects (entry n v ∷ h) seen ended s = elim s [ ]
by_effects (more t c ∷ h) seen idle free = by_effects h seen idle free
by_effects (more t c ∷ h) seen (held e) (known k) =
    let d : Entry = record { name = e.name; value = joined e.value t c } in
    rw k (by_effects h seen (leaves (held e) (gives d)) (seen-after seen (held e) d k))
by_effects (more t c ∷ h) seen ended s = elim s [ ]
by_effects (neutral ∷ h) seen idle free = by_effects h seen idle free
by_effects (neutral ∷ h) seen (held e) (known k) = by_effects h seen (held e) (known k)
by_effects (neutral ∷ h) seen ended s = elim s [ ]
by_effects (last ∷ h) seen idle free = refl
by_effects (last ∷ h) seen (held e) (known k) = refl
by_effects (last ∷ h) seen ended s = elim s [ ]
by_effects (refused f ∷ h) seen idle free = by_effects h seen idle free
by_effects (refused f ∷ h) seen (held e) (known k) = by_effects h seen (held e) (known k)
by_effects (refused f ∷ h) seen ended s = elim s [ ]

-- ---- cards that bear K or do the same, one by one, give the same names
names_with : List ℕ → List (List ℕ) → List Effect → List (List ℕ)
names_with n seen fs = cond (is_among n seen) (first_names seen fs) (n ∷ first_names (n ∷ seen) fs)

Alike : List Effect → List Effect → Type 0
Alike fs gs = (seen : List (List ℕ)) → first_names seen fs ≡ first_names seen gs

with_alike : (n : List ℕ) (seen : List (List ℕ)) (fs gs : List Effect) → Alike fs gs → names_with n seen fs ≡ names_with n seen gs
unfolding names_with Alike
with_alike n seen fs gs a = go (is_among n seen)
  where
    go : (b : Bool) → cond b (first_names seen fs) (n ∷ first_names (n ∷ seen) fs) ≡ cond b (first_names seen gs)
        (n ∷ first_names (n ∷ seen) gs)
    go true = a seen
    go false = ap (λ (l : List (List ℕ)). n ∷ l) (a (n ∷ seen))

one_alike : (f : Effect) (seen : List (List ℕ)) (fs gs : List Effect) → Alike fs gs
    → first_names seen (f ∷ fs) ≡ first_names seen (f ∷ gs)
unfolding first_names names_with Alike
one_alike (gives e) seen fs gs a = with_alike e.name seen fs gs a
one_alike nothing seen fs gs a = a seen
one_alike stops seen fs gs a = a seen

-- two effects that bear K give one name
own_alike : (k : List ℕ) (f g : Effect) → bears k f ≡ true → bears k g ≡ true → (seen : List (List ℕ)) (fs : List Effect)
    → first_names seen (f ∷ fs) ≡ first_names seen (g ∷ fs)
unfolding first_names names_with
own_alike k (gives e) (gives d) a b seen fs =
    ap (λ (n : List ℕ). names_with n seen fs) (same_eq e.name k a ∙ sym (same_eq d.name k b))
own_alike k (gives e) nothing a b seen fs = absurd (true≢false (sym b))
own_alike k (gives e) stops a b seen fs = absurd (true≢false (sym b))
own_alike k nothing g a b seen fs = absurd (true≢false (sym a))
own_alike k stops g a b seen fs = absurd (true≢false (sym a))

pub twin_names : (k : List ℕ) {q r : Open} {g h : List Role} → Twin k q r g h → (seen : List (List ℕ))
    → first_names seen (effects q g) ≡ first_names seen (effects r h)
unfolding Alike effects
twin_names k done seen = refl
twin_names k (both {q} {r} {c} {d} {g} {h} a b t) seen =
    let gs = effects (leaves q (does q c)) g in
    let hs = effects (leaves r (does r d)) h in
    one_alike (does q c) seen gs hs (twin_names k t) ∙ own_alike k (does q c) (does r d) a b seen hs
twin_names k (even {q} {r} {c} {d} {g} {h} is e t) seen =
    let gs = effects (leaves q (does q c)) g in
    let hs = effects (leaves r (does r d)) h in
    one_alike (does q c) seen gs hs (twin_names k t) ∙ ap (λ (x : Effect). first_names seen (x ∷ hs)) e
