-- Cards chosen by K's marks in a header: where they belong to K, both headers are walked together.
use Prim.Native.Nat.{ℕ, zero, suc, ◌<◌, ◌≤◌}
use native.Mathlib.Omega.{arith}
use mathlib.Core.Path.{◌≡◌, refl, sym, ap, ap₂, subst, ◌∙◌}
use mathlib.Core.Bool.{Bool, true, false, cond, true≢false}
use mathlib.Core.List.{List, [], ◌∷◌, map}
use lib.ListN.{length, get_or}
use Rattle.roles.specs.Roles.{Role, neutral}
use Rattle.joining.specs.Belonging.{Entry, Open, ended, gives, does, leaves, effects, bears}
use Rattle.joining.proofs.Owning.{Own, own_after}
use Rattle.demands.proofs.Ending.{belongs-after}
use Rattle.rereading.proofs.Owning.{Owns, at_end, gives_one}
use Rattle.replacing.specs.Replacing.{chosen}
use Rattle.replacing.proofs.Walking.{neutral-leaves, Clear, clear_end, clear_on, Walk, rest, skip, both, Begins, first, alike}

-- a place that belongs to K is one of a card
pub its_within : (k : List ℕ) (q : Open) (h : List Role) (p : ℕ) → belongs-after k q h p ≡ true → p < length h
unfolding effects
its_within k q [] p b = absurd (true≢false (sym b))
its_within k q (c ∷ h) zero b = omega arith
its_within k q (c ∷ h) (suc p) b = omega (arith, its_within k (leaves q (does q c)) h p b)

-- the first of some cards that a name owns: the entry that it gives, and that the name owns the others behind it
record FirstOwned (k : List ℕ) (q : Open) (r : Role) (rs : List Role) : Type 0 where
  pub entry : Entry
  pub is : does q r ≡ gives entry
  pub named : entry.name ≡ k
  pub behind : Owns k (leaves q (gives entry)) rs

first_owned : (k : List ℕ) (q : Open) (r : Role) (rs : List Role) → Owns k q (r ∷ rs) → FirstOwned k q r rs
first_owned k q r rs (gives_one e is named w) = record { entry = e; is = is; named = named; behind = w }

module _ (k : List ℕ) (role : List ℕ → Role) where
  -- where q stands open before the cards, place p belongs to K
  abbrev pub its : Open → List (List ℕ) → ℕ → Bool
  its q g p = belongs-after k q (map role g) p

  -- the cards of h in K's places
  abbrev pub picked : Open → List (List ℕ) → List (List ℕ) → List (List ℕ)
  picked q g h = chosen (map (bears k) (effects q (map role g))) h

  -- elsewhere h has the cards of g
  abbrev pub Kept : Open → List (List ℕ) → List (List ℕ) → Type 0
  Kept q g h = (p : ℕ) → its q g p ≡ false → get_or h p [] ≡ get_or g p []

  -- before the last card of K stand only K's cards and commentary
  abbrev pub Close : Open → List (List ℕ) → Type 0
  Close q g = (x y : ℕ) → x < y → its q g y ≡ true → its q g x ≡ false → get_or (map role g) x neutral ≡ neutral

  -- so they do from the first card of K on
  abbrev pub Grouped : Open → List (List ℕ) → Type 0
  Grouped q g =
      (p x y : ℕ) → p < x → x < y → its q g p ≡ true → its q g y ≡ true → its q g x ≡ false
      → get_or (map role g) x neutral ≡ neutral

  record Mark (q : Open) (g : List (List ℕ)) : Type 0 where
    pub place : ℕ
    pub is : its q g place ≡ true

  -- cards that are chosen have places
  marked : (q : Open) (g h : List (List ℕ)) → 1 ≤ length (picked q g h) → Mark q g
  unfolding chosen effects
  marked q [] h n = absurd (omega arith)
  marked q (c ∷ g) [] n = absurd (omega arith)
  marked q (c ∷ g) (d ∷ h) n = go (bears k (does q (role c))) refl n (marked q₁ g h)
    where
      q₁ : Open
      q₁ = leaves q (does q (role c))

      go : (b : Bool) → bears k (does q (role c)) ≡ b → 1 ≤ length (cond b (d ∷ picked q₁ g h) (picked q₁ g h))
          → (1 ≤ length (picked q₁ g h) → Mark q₁ g) → Mark q (c ∷ g)
      go true b n later = record { place = 0; is = b }
      go false b n later = record { place = suc (later n).place; is = (later n).is }

  -- where none is chosen, none belongs to K, and both headers are the same
  unmarked : (q : Open) (g h : List (List ℕ)) → length h ≡ length g → Kept q g h → picked q g h ≡ []
      → Clear k q (map role g) × (h ≡ g)
  unfolding chosen effects
  unmarked q [] [] n kept e = (clear_end, refl)
  unmarked q [] (d ∷ h) n kept e = absurd (omega arith)
  unmarked q (c ∷ g) [] n kept e = absurd (omega arith)
  unmarked q (c ∷ g) (d ∷ h) n kept e =
      go (bears k (does q (role c))) refl e (unmarked q₁ g h (omega arith) (λ (p : ℕ). kept (suc p)))
    where
      q₁ : Open
      q₁ = leaves q (does q (role c))

      go : (b : Bool) → bears k (does q (role c)) ≡ b → cond b (d ∷ picked q₁ g h) (picked q₁ g h) ≡ []
          → (picked q₁ g h ≡ [] → Clear k q₁ (map role g) × (h ≡ g))
          → Clear k q (role c ∷ map role g) × (d ∷ h ≡ c ∷ g)
      go true b e later = let n : suc (length (picked q₁ g h)) ≡ 0 = ap length e in absurd (omega arith)
      go false b e later = (clear_on b (later e).0, ap₂ ◌∷◌ (kept zero b) (later e).1)

  -- ---- from the first card of K on
  none_left : {q r : Open} {h : List Role} → Own k q → Clear k q h → Owns k r [] → Walk k q r h h []
  none_left o n at_end = rest o n

  skipped : {q q₁ r : Open} {c d : Role} {g h new : List Role} → c ≡ neutral → d ≡ neutral → q₁ ≡ q
      → Walk k q₁ r g h new → Walk k q r (c ∷ g) (d ∷ h) new
  skipped {r = r} {g = g} {h = h} {new = new} c d same w = rw (c, d) (skip (subst (λ (z : Open). Walk k z r g h new) same w))

  walks : (q r : Open) → Own k q → (g h : List (List ℕ)) → length h ≡ length g → Kept q g h → Close q g
      → Owns k r (map role (picked q g h)) → Walk k q r (map role g) (map role h) (map role (picked q g h))
  unfolding chosen effects
  walks q r o [] [] n kept close w = none_left o clear_end w
  walks q r o [] (d ∷ h) n kept close w = absurd (omega arith)
  walks q r o (c ∷ g) [] n kept close w = absurd (omega arith)
  walks q r o (c ∷ g) (d ∷ h) n kept close w =
      go (bears k (does q (role c))) refl w
      (λ r₁ o₁ w₁. walks q₁ r₁ o₁ g h (omega arith) (λ (p : ℕ). kept (suc p))
      (λ x y l. close (suc x) (suc y) (omega (arith, l))) w₁)
    where
      q₁ : Open
      q₁ = leaves q (does q (role c))

      -- the cards behind are walked
      Later : Type 0
      Later =
          (r₁ : Open) → Own k q₁ → Owns k r₁ (map role (picked q₁ g h))
          → Walk k q₁ r₁ (map role g) (map role h) (map role (picked q₁ g h))

      between : bears k (does q (role c)) ≡ false → 1 ≤ length (picked q₁ g h) → role c ≡ neutral
      between b m =
          let y = marked q₁ g h m in
          close zero (suc y.place) (omega arith) y.is b

      passed : (l : List (List ℕ)) → picked q₁ g h ≡ l → bears k (does q (role c)) ≡ false → role d ≡ role c
          → Owns k r (map role (picked q₁ g h)) → Later
          → Walk k q r (role c ∷ map role g) (role d ∷ map role h) (map role (picked q₁ g h))
      passed [] e b is w later =
          let u = unmarked q₁ g h (omega arith) (λ (p : ℕ). kept (suc p)) e in
          rw (e, is, u.1) (none_left o (clear_on b u.0) (subst (λ (l : List (List ℕ)). Owns k r (map role l)) e w))
      passed (x ∷ l) e b is w later =
          let m : length (picked q₁ g h) ≡ suc (length l) = ap length e in
          let still : role c ≡ neutral = between b (omega arith) in
          let same : q₁ ≡ q = ap (λ (z : Role). leaves q (does q z)) still ∙ neutral-leaves q in
          skipped still (is ∙ still) same (later r (subst (Own k) (sym same) o) w)

      go : (b : Bool) → bears k (does q (role c)) ≡ b → Owns k r (map role (cond b (d ∷ picked q₁ g h) (picked q₁ g h)))
          → Later
          → Walk k q r (role c ∷ map role g) (role d ∷ map role h) (map role (cond b (d ∷ picked q₁ g h) (picked q₁ g h)))
      go true b w later =
          let x = first_owned k r (role d) (map role (picked q₁ g h)) w in
          both x.entry b x.is x.named (later (leaves r (gives x.entry)) (own_after k q (does q (role c)) b) x.behind)
      go false b w later = passed (picked q₁ g h) refl b (ap role (kept zero b)) w later

  -- ---- from the first card on
  pub begins : (q : Open) (g h : List (List ℕ)) → length h ≡ length g → Kept q g h → Grouped q g
      → ((r : Open) → (r ≡ ended → ⊥) → Owns k r (map role (picked q g h))) → 1 ≤ length (picked q g h)
      → Begins k q (map role g) (map role h) (map role (picked q g h))
  unfolding chosen effects
  begins q [] h n kept grouped w m = absurd (omega arith)
  begins q (c ∷ g) [] n kept grouped w m = absurd (omega arith)
  begins q (c ∷ g) (d ∷ h) n kept grouped w m =
      go (bears k (does q (role c))) refl w m
      (begins q₁ g h (omega arith) (λ (p : ℕ). kept (suc p))
      (λ p x y l u. grouped (suc p) (suc x) (suc y) (omega (arith, l)) (omega (arith, u))))
    where
      q₁ : Open
      q₁ = leaves q (does q (role c))

      OwnsAll : List (List ℕ) → Type 0
      OwnsAll l = (r : Open) → (r ≡ ended → ⊥) → Owns k r (map role l)

      start : bears k (does q (role c)) ≡ true → Owns k q (map role (d ∷ picked q₁ g h))
          → Begins k q (role c ∷ map role g) (role d ∷ map role h) (map role (d ∷ picked q₁ g h))
      start b w =
          let x = first_owned k q (role d) (map role (picked q₁ g h)) w in
          first b (both x.entry b x.is x.named
          (walks q₁ (leaves q (gives x.entry)) (own_after k q (does q (role c)) b) g h (omega arith) (λ (p : ℕ). kept (suc p))
          (λ x y l. grouped zero (suc x) (suc y) (omega arith) (omega (arith, l)) b) x.behind))

      go : (b : Bool) → bears k (does q (role c)) ≡ b → OwnsAll (cond b (d ∷ picked q₁ g h) (picked q₁ g h))
          → 1 ≤ length (cond b (d ∷ picked q₁ g h) (picked q₁ g h))
          → (OwnsAll (picked q₁ g h) → 1 ≤ length (picked q₁ g h)
          → Begins k q₁ (map role g) (map role h) (map role (picked q₁ g h)))
          → Begins k q (role c ∷ map role g) (role d ∷ map role h) (map role (cond b (d ∷ picked q₁ g h) (picked q₁ g h)))
      go true b w m later = start b (w q (λ (e : q ≡ ended). true≢false (sym b ∙ ap (λ (z : Open). bears k (does z (role c))) e)))
      go false b w m later = rw (ap role (kept zero b)) (alike b (later w m))
