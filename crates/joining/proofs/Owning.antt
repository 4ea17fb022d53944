-- What stands open where K's entry was the last: nothing, or that entry; and what stands open alike in two headers.
use Prim.Native.Nat.{ℕ}
use mathlib.Core.List.{List}
use mathlib.Core.Path.{◌≡◌, refl, sym, ◌∙◌}
use mathlib.Core.Bool.{Bool, true, false, cond, true≢false}
use Rattle.text.specs.Same.{same}
use Rattle.roles.specs.Roles.{Role, entry, more, neutral, last, refused}
use Rattle.joining.specs.Lookup.{is_open}
use Rattle.joining.specs.Belonging.{Entry, Open, idle, held, Effect, gives, nothing, stops, does, leaves, bears}

module _ (k : List ℕ) where
  -- nothing is open but perhaps K's entry
  pub data Own : Open → Type 0 where
    free : Own idle
    own : {e : Entry} → same e.name k ≡ true → Own (held e)

  -- a card that bears K leaves nothing else open
  pub own_after : (q : Open) (f : Effect) → bears k f ≡ true → Own (leaves q f)
  own_after q (gives e) b = go (is_open e.value)
    where
      go : (u : Bool) → Own (cond u (held e) idle)
      go true = own b
      go false = free
  own_after q nothing b = absurd (true≢false (sym b))
  own_after q stops b = absurd (true≢false (sym b))

  -- under K's entry a card that does not bear K does what it does where nothing is open
  pub like_idle : {q : Open} → Own q → (c : Role) → bears k (does q c) ≡ false → does q c ≡ does idle c
  like_idle free c b = refl
  like_idle (own x) (entry n v) b = refl
  like_idle (own x) (more t d) b = absurd (true≢false (sym x ∙ b))
  like_idle (own x) neutral b = refl
  like_idle (own x) last b = refl
  like_idle (own x) (refused f) b = refl

  -- what stands open in two headers is the same, or K's affair in both
  pub data Alike : Open → Open → Type 0 where
    equal : {q : Open} → Alike q q
    owned : {q r : Open} → Own q → Own r → Alike q r

  -- so an equal card that does not bear K does the same in both headers, and leaves them alike
  pub effect : {q r : Open} → Alike q r → (c : Role) → bears k (does q c) ≡ false → bears k (does r c) ≡ false
      → does q c ≡ does r c
  effect equal c a b = refl
  effect (owned x y) c a b = like_idle x c a ∙ sym (like_idle y c b)

  pub after : (q r : Open) → Alike q r → (f : Effect) → Alike (leaves q f) (leaves r f)
  after q r s (gives e) = equal
  after q r s nothing = s
  after q r s stops = equal
