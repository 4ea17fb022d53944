-- The place of a name in a table of first cards.
use Rattle.std.specs.Prelude.{None, Option, Some}
use Prim.Native.Nat.{ℕ, suc, ◌+◌, ◌<◌}
use native.Mathlib.Nat.{zero-add}
use native.Mathlib.Omega.{arith}
use mathlib.Core.Path.{◌≡◌, refl, sym, ap, ap₂, ◌∙◌}
use mathlib.Core.Bool.{Bool, true, false, cond, true≢false}
use mathlib.Core.List.{List, [], ◌∷◌, ◌++◌}
use lib.ListN.{length, get_or, set, get_or-append}
use lib.Seq.{get_or-set_same, get_or-set_other, get_or_at}
use Rattle.text.specs.Same.{same}
use Rattle.text.proofs.Comparing.{same_self, same_eq}
use Rattle.roles.specs.Roles.{Role, neutral}
use Rattle.listing.specs.Listing.{free, Table, name_of, place_in}

-- the number that a list has at a place; d is what it has behind its end
abbrev pub read_at : ℕ → Option ℕ → List ℕ → Option ℕ
read_at d (Some k) l = Some (get_or l k d)
read_at d None l = None

-- the last entry at a place
abbrev pub last_at : Option ℕ → List ℕ → Option ℕ
last_at p l = read_at free p l

-- how many bear the name of a place: no card where there is none
abbrev pub count_in : Option ℕ → ℕ
count_in (Some n) = n
count_in None = 0

abbrev pub times_at_lem : Option ℕ → List ℕ → ℕ
times_at_lem p l = count_in (read_at 0 p l)

abbrev pub is_place : Option ℕ → Bool
is_place (Some k) = true
is_place None = false

abbrev pub or_place : Option ℕ → Option ℕ → Option ℕ
or_place (Some k) p = Some k
or_place None p = p

-- a place where a name is the one sought
abbrev pub if_named : Bool → ℕ → Option ℕ
if_named b k = cond b (Some k) None

module _ (roles : List Role) where
  -- the name that card i bears
  abbrev pub name_no : ℕ → List ℕ
  name_no i = name_of (get_or roles i neutral)

  -- a name's place among the first cards, its last entry, and how many bear it
  abbrev pub place_of_name : List ℕ → List ℕ → Option ℕ
  place_of_name l name = place_in roles name l 0

  abbrev pub last_in_table : Table → List ℕ → Option ℕ
  last_in_table t name = last_at (place_of_name t.first name) t.last

  abbrev pub times_in_table : Table → List ℕ → ℕ
  times_in_table t name = times_at_lem (place_of_name t.first name) t.times

  -- a place that was found, counted from k on
  pub record Hit (name l : List ℕ) (k j : ℕ) : Type 0 where
    pub m : ℕ
    pub is : j ≡ k + m
    pub under : m < length l
    pub named : name_no (get_or l m free) ≡ name

  hit_from : (name l : List ℕ) (k j : ℕ) → place_in roles name l k ≡ Some j → Hit name l k j
  unfolding place_in
  hit_from name [] k j e = absurd (let z : ◌≡◌ {A = ℕ} 0 1 = cc in omega arith)
  hit_from name (i ∷ l) k j e = go (same (name_no i) name) refl e (hit_from name l (suc k) j)
    where
      go : (b : Bool) → same (name_no i) name ≡ b → cond b (Some k) (place_in roles name l (suc k)) ≡ Some j
          → (place_in roles name l (suc k) ≡ Some j → Hit name l (suc k) j) → Hit name (i ∷ l) k j
      go true d x later = let z : k ≡ j = cc in record { m = 0; is = omega arith; under = omega arith; named = same_eq _ _ d }
      go false d x later =
          let r : Hit name l (suc k) j = later x in
          record { m = suc r.m; is = omega (arith, r.is); under = omega (arith, r.under); named = r.named }

  pub hit_under : (name l : List ℕ) (j : ℕ) → place_of_name l name ≡ Some j → j < length l
  hit_under name l j e = let r : Hit name l 0 j = hit_from name l 0 j e in omega (arith, r.is, r.under)

  pub hit_named : (name l : List ℕ) (j : ℕ) → place_of_name l name ≡ Some j → name_no (get_or l j free) ≡ name
  hit_named name l j e =
      let r : Hit name l 0 j = hit_from name l 0 j e in
      let z : j ≡ r.m = omega (arith, r.is) in
      ap (λ (x : ℕ). name_no (get_or l x free)) z ∙ r.named

  -- one first card more
  place-more : (name l : List ℕ) (i k : ℕ)
      → place_in roles name (l ++ i ∷ []) k ≡ or_place (place_in roles name l k) (if_named (same (name_no i) name) (k + length l))
  unfolding place_in
  place-more name [] i k = let z : k ≡ k + 0 = omega arith in ap (if_named (same (name_no i) name)) z
  place-more name (x ∷ l) i k =
      let z : suc k + length l ≡ k + suc (length l) = omega arith in
      let end : ℕ → Option ℕ = λ n. or_place (place_in roles name l (suc k)) (if_named (same (name_no i) name) n) in
      ap (λ (p : Option ℕ). cond (same (name_no x) name) (Some k) p) (place-more name l i (suc k) ∙ ap end z) ∙ go (same (name_no x) name)
    where
      go : (b : Bool) → let own = if_named (same (name_no i) name) (k + suc (length l)) in
          cond b (Some k) (or_place (place_in roles name l (suc k)) own) ≡ or_place (cond b (Some k) (place_in roles name l (suc k))) own
      go true = refl
      go false = refl

  pub place-put : (name l : List ℕ) (i : ℕ) (n : List ℕ) → name_no i ≡ n
      → place_of_name (l ++ i ∷ []) name ≡ or_place (place_of_name l name) (if_named (same n name) (length l))
  place-put name l i n e =
      place-more name l i 0
      ∙ ap₂ (λ (m : List ℕ) (x : ℕ). or_place (place_of_name l name) (if_named (same m name) x)) e (zero-add (length l))

  -- a list with a number for each of the first cards
  module _ (firsts l : List ℕ) (alike : length l ≡ length firsts) (d : ℕ) (n : List ℕ) (x : ℕ) where
    -- two names of one place are one
    one_name : (k : ℕ) (name : List ℕ) → place_of_name firsts n ≡ Some k → place_of_name firsts name ≡ Some k → n ≡ name
    one_name k name e f = sym (hit_named n firsts k e) ∙ hit_named name firsts k f

    -- a known name: its number is x then
    pub read_known : (k : ℕ) → place_of_name firsts n ≡ Some k
        → (name : List ℕ) → let p = place_of_name firsts name in read_at d p (set l k x) ≡ cond (same n name) (Some x) (read_at d p l)
    read_known k e name = go (same n name) refl
      where
        other : same n name ≡ false → (p : Option ℕ) → place_of_name firsts name ≡ p → read_at d p (set l k x) ≡ read_at d p l
        other a (Some j) f =
            let alike : j ≡ k → n ≡ name = λ z. one_name k name e (f ∙ ap Some z) in
            let apart : j ≡ k → ⊥ = λ z. true≢false (sym (same_self n) ∙ ap (same n) (alike z) ∙ a) in
            ap Some (get_or-set_other l k j x d apart)
        other a None f = refl

        go : (b : Bool) → same n name ≡ b
            → let p = place_of_name firsts name in read_at d p (set l k x) ≡ cond b (Some x) (read_at d p l)
        go true a =
            let here : place_of_name firsts name ≡ Some k = ap (place_of_name firsts) (sym (same_eq n name a)) ∙ e in
            ap (λ (p : Option ℕ). read_at d p (set l k x)) here
            ∙ ap Some (get_or-set_same l k x d (omega (arith, alike, hit_under n firsts k e)))
        go false a = other a (place_of_name firsts name) refl

    -- a new name, whose first card is card i
    pub read-new : (i : ℕ) → name_no i ≡ n → place_of_name firsts n ≡ None
        → (name : List ℕ)
        → read_at d (place_of_name (firsts ++ i ∷ []) name) (l ++ x ∷ [])
        ≡ cond (same n name) (Some x) (read_at d (place_of_name firsts name) l)
    read-new i is e name =
        ap (λ (p : Option ℕ). read_at d p (l ++ x ∷ [])) (place-put name firsts i n is) ∙ go (same n name) refl
      where
        other : (p : Option ℕ) → place_of_name firsts name ≡ p → read_at d (or_place p None) (l ++ x ∷ []) ≡ read_at d p l
        other (Some j) f = ap Some (get_or-append l (x ∷ []) d j (omega (arith, alike, hit_under name firsts j f)))
        other None f = refl

        go : (b : Bool) → same n name ≡ b
            → read_at d (or_place (place_of_name firsts name) (if_named b (length firsts))) (l ++ x ∷ [])
            ≡ cond b (Some x) (read_at d (place_of_name firsts name) l)
        go true a =
            let here : place_of_name firsts name ≡ None = ap (place_of_name firsts) (sym (same_eq n name a)) ∙ e in
            ap (λ (p : Option ℕ). read_at d (or_place p (Some (length firsts))) (l ++ x ∷ [])) here
            ∙ ap Some (get_or_at l x [] d (length firsts) alike)
        go false a = other (place_of_name firsts name) refl

  -- one entry more: one more bears its name
  pub one_more : (t : Table) (n : List ℕ) (p : Option ℕ) → place_of_name t.first n ≡ p → (name : List ℕ) (q : Option ℕ)
      → q ≡ cond (same n name) (Some (suc (times_at_lem p t.times))) (read_at 0 (place_of_name t.first name) t.times)
      → count_in q ≡ cond (same n name) (suc (times_in_table t name)) (times_in_table t name)
  one_more t n p e name q is = ap count_in is ∙ go (same n name) refl
    where
      go : (b : Bool) → same n name ≡ b
          → count_in (cond b (Some (suc (times_at_lem p t.times))) (read_at 0 (place_of_name t.first name) t.times))
          ≡ cond b (suc (times_in_table t name)) (times_in_table t name)
      go true a =
          let here : p ≡ place_of_name t.first name = sym e ∙ ap (place_of_name t.first) (same_eq n name a) in
          ap (λ (r : Option ℕ). suc (times_at_lem r t.times)) here
      go false a = refl
