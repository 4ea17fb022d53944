-- Two accepted headers that are equal but for K up to END: card by card both bear K or do the same.
use Rattle.std.specs.Prelude.{Err, Ok}
use Prim.Native.Nat.{ℕ, zero, suc, ◌+◌, ◌≤◌}
use native.Mathlib.Omega.{arith}
use mathlib.Core.Path.{◌≡◌, refl, sym, ap, ap₂, subst, ◌∙◌}
use mathlib.Core.Bool.{Bool, true, false, cond, true≢false}
use mathlib.Core.List.{List, [], ◌∷◌}
use lib.ListN.{get_or}
use Rattle.roles.specs.Roles.{Words, Role, entry, more, neutral, last, refused}
use Rattle.joining.specs.Words.{opens, join_words}
use Rattle.joining.specs.Lookup.{or_else, if_same, join_on, lookup}
use Rattle.joining.specs.Belonging.{Open, ended, idle, held, Effect, nothing, does, leaves, effects, bears}
use Rattle.joining.proofs.Names.{others}
use Rattle.joining.proofs.Owning.{Alike, owned, own_after, effect, after}
use Rattle.finding.specs.declared.Stop.{Stop}
use Rattle.finding.specs.Finding.{header_from}

abbrev is_last : Role → Bool
is_last (entry n v) = false
is_last (more t c) = false
is_last neutral = false
is_last last = true
is_last (refused f) = false

-- the cards up to END, with it
abbrev unless : Bool → List Role → List Role
unless true h = []
unless false h = h

unfoldable pub to_end_lem : List Role → List Role
to_end_lem [] = []
to_end_lem (c ∷ h) = c ∷ unless (is_last c) (to_end_lem h)

-- nothing behind END is joined nor looked up
joined_to_end : (w : Words) (h : List Role) → join_on w (to_end_lem h) ≡ join_on w h
unfolding join_on to_end_lem
joined_to_end w [] = refl
joined_to_end w (entry n v ∷ h) = refl
joined_to_end w (more t c ∷ h) = ap (λ (x : Words). cond (opens w) x w) (joined_to_end (join_words w t c) h)
joined_to_end w (neutral ∷ h) = joined_to_end w h
joined_to_end w (last ∷ h) = refl
joined_to_end w (refused f ∷ h) = joined_to_end w h

pub lookup_to_end : (name : List ℕ) (h : List Role) → lookup name (to_end_lem h) ≡ lookup name h
unfolding lookup to_end_lem
lookup_to_end name [] = refl
lookup_to_end name (entry n v ∷ h) =
    ap₂ or_else (lookup_to_end name h)
    (ap (λ (w : Words). if_same n name (record { value = v.value; digits = v.digits; words = w })) (joined_to_end v.words h))
lookup_to_end name (more t c ∷ h) = lookup_to_end name h
lookup_to_end name (neutral ∷ h) = lookup_to_end name h
lookup_to_end name (last ∷ h) = refl
lookup_to_end name (refused f ∷ h) = lookup_to_end name h

-- ---- an accepted header goes on to its END
apart : (s : Stop) (e : ℕ) → Err s ≡ Ok e → ⊥
apart s e d = let z : ◌≡◌ {A = ℕ} 0 1 = cc in omega arith

accepted_from : (h : List Role) (i e : ℕ) → header_from h i ≡ Ok e → i ≤ e
unfolding header_from
accepted_from [] i e a = absurd (apart _ e a)
accepted_from (entry n v ∷ h) i e a = omega (arith, accepted_from h (suc i) e a)
accepted_from (more t c ∷ h) i e a = omega (arith, accepted_from h (suc i) e a)
accepted_from (neutral ∷ h) i e a = omega (arith, accepted_from h (suc i) e a)
accepted_from (last ∷ h) i e a = let is : i ≡ e = cc in omega arith
accepted_from (refused f ∷ h) i e a = absurd (apart _ e a)

goes_on : (c : Role) (h : List Role) (i e : ℕ) → header_from (c ∷ h) i ≡ Ok e → is_last c ≡ false
    → header_from h (suc i) ≡ Ok e
unfolding header_from
goes_on (entry n v) h i e a d = a
goes_on (more t c) h i e a d = a
goes_on neutral h i e a d = a
goes_on last h i e a d = absurd (true≢false d)
goes_on (refused f) h i e a d = absurd (apart _ e a)

-- END belongs to no name
speaks : (k : List ℕ) (q : Open) (c : Role) → bears k (does q c) ≡ true → is_last c ≡ false
speaks k q (entry n v) b = refl
speaks k q (more t c) b = refl
speaks k q neutral b = refl
speaks k ended last b = absurd (true≢false (sym b))
speaks k idle last b = absurd (true≢false (sym b))
speaks k (held e) last b = absurd (true≢false (sym b))
speaks k q (refused f) b = refl

-- ---- two headers before which q and r stand open, card by card: both cards bear K, or they are equal and do the same
pub data Twin (k : List ℕ) : Open → Open → List Role → List Role → Type 0 where
  done : {q r : Open} → Twin k q r [] []
  both : {q r : Open} {c d : Role} {g h : List Role} → bears k (does q c) ≡ true → bears k (does r d) ≡ true
      → Twin k (leaves q (does q c)) (leaves r (does r d)) g h → Twin k q r (c ∷ g) (d ∷ h)
  even : {q r : Open} {c d : Role} {g h : List Role} → c ≡ d → does q c ≡ does r d
      → Twin k (leaves q (does q c)) (leaves r (does r d)) g h → Twin k q r (c ∷ g) (d ∷ h)

-- so the effects that do not bear K are the same
pub twin_others : (k : List ℕ) {q r : Open} {g h : List Role} → Twin k q r g h
    → others k (effects q g) ≡ others k (effects r h)
unfolding effects
twin_others k done = refl
twin_others k (both a b t) = rw (a, b) (twin_others k t)
twin_others k (even is e t) = ap₂ (λ (x : Effect) (l : List Effect). cond (bears k x) l (x ∷ l)) e (twin_others k t)

-- the card at place p bears K, where q stands open before the header
abbrev pub belongs-after : List ℕ → Open → List Role → ℕ → Bool
belongs-after k q h p = bears k (get_or (effects q h) p nothing)

module _ (k : List ℕ) (z : Role) where
  pub twins : (q r : Open) → Alike k q r → (g h : List Role) (i j e d : ℕ)
      → header_from g i ≡ Ok e → header_from h j ≡ Ok d
      → ((p : ℕ) → i + p ≤ e → belongs-after k q g p ≡ belongs-after k r h p)
      → ((p : ℕ) → i + p ≤ e → belongs-after k q g p ≡ false → get_or g p z ≡ get_or h p z)
      → Twin k q r (to_end_lem g) (to_end_lem h)
  unfolding effects to_end_lem header_from
  twins q r s [] h i j e d a b places cards = absurd (apart _ e a)
  twins q r s (c ∷ g) [] i j e d a b places cards = absurd (apart _ d b)
  twins q r s (c ∷ g) (f ∷ h) i j e d a b places cards =
      go (bears k (does q c)) refl
      (λ s' a' b'. twins q₁ r₁ s' g h (suc i) (suc j) e d a' b'
      (λ p u. places (suc p) (omega (arith, u))) (λ p u. cards (suc p) (omega (arith, u))))
    where
      -- what stands open behind the two cards
      q₁ : Open
      q₁ = leaves q (does q c)

      r₁ : Open
      r₁ = leaves r (does r f)

      Behind : Bool → Bool → Type 0
      Behind x y = Twin k q₁ r₁ (unless x (to_end_lem g)) (unless y (to_end_lem h))

      here : i + 0 ≤ e
      here = omega (arith, accepted_from (c ∷ g) i e a)

      -- the cards behind an END, and behind two cards that are none
      behind : (x : Bool) → is_last c ≡ x → is_last f ≡ x → Alike k q₁ r₁
          → (Alike k q₁ r₁ → header_from g (suc i) ≡ Ok e → header_from h (suc j) ≡ Ok d → Behind false false)
          → Behind (is_last c) (is_last f)
      behind true x y s' rest = rw (x, y) done
      behind false x y s' rest = rw (x, y) (rest s' (goes_on c g i e a x) (goes_on f h j d b y))

      go : (t : Bool) → bears k (does q c) ≡ t
          → (Alike k q₁ r₁ → header_from g (suc i) ≡ Ok e → header_from h (suc j) ≡ Ok d → Behind false false)
          → Twin k q r (c ∷ unless (is_last c) (to_end_lem g)) (f ∷ unless (is_last f) (to_end_lem h))
      go true t rest =
          let t' : bears k (does r f) ≡ true = sym (places zero here) ∙ t in
          let alike : Alike k q₁ r₁ = owned (own_after k q (does q c) t) (own_after k r (does r f) t') in
          both t t' (behind false (speaks k q c t) (speaks k r f t') alike rest)
      go false t rest =
          let t' : bears k (does r f) ≡ false = sym (places zero here) ∙ t in
          let is : c ≡ f = cards zero here t in
          let one : does q c ≡ does r f = ap (does q) is
          ∙ effect k s f (subst (λ (x : Role). bears k (does q x) ≡ false) is t) t' in
          let alike : Alike k q₁ r₁ = subst (λ (x : Effect). Alike k q₁ (leaves r x)) one (after k q r s (does q c)) in
          even is one (behind (is_last c) refl (sym (ap is_last is)) alike rest)
