-- Two headers card by card: where the first has a card of K the second has one too, and elsewhere both have the same card.
use Rattle.std.specs.Prelude.{None}
use Prim.Native.Nat.{ℕ, zero, suc}
use mathlib.Core.Path.{◌≡◌, refl, sym, ap, ◌∙◌}
use mathlib.Core.Bool.{true, false, true≢false}
use mathlib.Core.List.{List, [], ◌∷◌, ◌++◌}
use Rattle.text.specs.Same.{same}
use Rattle.text.proofs.Comparing.{same_self}
use Rattle.roles.specs.Roles.{Comment, Held, Role, entry, more, neutral, last, refused}
use Rattle.joining.specs.Lookup.{lookup}
use Rattle.joining.specs.Belonging.{Entry, Open, ended, idle, held, Effect, gives, nothing, does, leaves, effects, bears}
use Rattle.joining.proofs.Names.{others, answer, answer_gone}
use Rattle.joining.proofs.Answers.{by_effects}
use Rattle.joining.proofs.Owning.{Own, free, own}
use Rattle.finding.specs.Finding.{header_from}
use Rattle.agreeing.specs.Firsts.{times_borne}
use Rattle.agreeing.proofs.Times.{not_borne}
use Rattle.demands.proofs.Ending.{belongs-after}
use Rattle.demands.proofs.Times.{one-before}
use Rattle.rereading.specs.ReadsBack.{spoken, goes_on}
use Rattle.rereading.proofs.Owning.{bears-entry}
use Rattle.rereading.proofs.Headers.{lookup-spoken}

-- ---- single cards

-- commentary does nothing, and what is open stays open
neutral-does : (q : Open) → does q neutral ≡ nothing
neutral-does ended = refl
neutral-does idle = refl
neutral-does (held e) = refl

pub neutral-leaves : (q : Open) → leaves q (does q neutral) ≡ q
neutral-leaves q = ap (leaves q) (neutral-does q)

-- behind END nothing more is read
last-leaves : (q : Open) → leaves q (does q last) ≡ ended
last-leaves ended = refl
last-leaves idle = refl
last-leaves (held e) = refl

-- a card that bears an entry or continues one
data Says : Role → Type 0 where
  says_entry : (n : List ℕ) (v : Held) → Says (entry n v)
  says_more : (t : List ℕ) (c : Comment) → Says (more t c)

-- a card that belongs to a name is one of these
says : (k : List ℕ) (q : Open) (c : Role) → bears k (does q c) ≡ true → Says c
says k q (entry n v) b = says_entry n v
says k q (more t c) b = says_more t c
says k q neutral b = absurd (true≢false (sym b ∙ ap (bears k) (neutral-does q)))
says k ended last b = absurd (true≢false (sym b))
says k idle last b = absurd (true≢false (sym b))
says k (held e) last b = absurd (true≢false (sym b))
says k ended (refused f) b = absurd (true≢false (sym b))
says k idle (refused f) b = absurd (true≢false (sym b))
says k (held e) (refused f) b = absurd (true≢false (sym b))

-- such a card is passed in reading a header, and kept where commentary is left out
said_passes : {c : Role} → Says c → (h : List Role) (i : ℕ) → header_from (c ∷ h) i ≡ header_from h (suc i)
unfolding header_from
said_passes (says_entry n v) h i = refl
said_passes (says_more t c) h i = refl

said-spoken : {c : Role} → Says c → (h : List Role) → spoken (c ∷ h) ≡ c ∷ spoken h
unfolding spoken
said-spoken (says_entry n v) h = refl
said-spoken (says_more t c) h = refl

-- ---- cards of which none belongs to K, where q stands open before the first
pub data Clear (k : List ℕ) : Open → List Role → Type 0 where
  clear_end : {q : Open} → Clear k q []
  clear_on : {q : Open} {c : Role} {h : List Role} → bears k (does q c) ≡ false → Clear k (leaves q (does q c)) h
      → Clear k q (c ∷ h)

module _ (k : List ℕ) where
  clear_places : {q : Open} {h : List Role} → Clear k q h → (p : ℕ) → belongs-after k q h p ≡ false
  unfolding effects
  clear_places clear_end p = refl
  clear_places (clear_on b n) zero = b
  clear_places (clear_on b n) (suc p) = clear_places n p

  -- where K's entry stands open and none is joined to it, none belongs to K where nothing is open
  clear_idle : {q : Open} {h : List Role} → Own k q → Clear k q h → Clear k idle h
  clear_idle free n = n
  clear_idle (own x) clear_end = clear_end
  clear_idle (own x) (clear_on {c = entry m v} b n) = clear_on b n
  clear_idle (own x) (clear_on {c = more t c} b n) = absurd (true≢false (sym x ∙ b))
  clear_idle (own x) (clear_on {c = neutral} b n) = clear_on refl (clear_idle (own x) n)
  clear_idle (own x) (clear_on {c = last} b n) = clear_on refl n
  clear_idle (own x) (clear_on {c = refused f} b n) = clear_on refl (clear_idle (own x) n)

  clear_others : {q : Open} {h : List Role} → Clear k q h → others k (effects q h) ≡ effects q h
  unfolding effects
  clear_others clear_end = refl
  clear_others (clear_on {q} {c} {h} b n) = rw b (ap (λ (l : List Effect). does q c ∷ l) (clear_others n))

  -- K is not found among them
  clear_lookup : {h : List Role} → Clear k idle h → lookup k h ≡ None
  clear_lookup {h} n = by_effects k h ∙ ap (answer k) (sym (clear_others n)) ∙ answer_gone k (effects idle h)

-- ---- from the first card of K on

-- The cards g of the one header and h of the other, where q and r stand open before them, and K's cards among h.
pub data Walk (k : List ℕ) : Open → Open → List Role → List Role → List Role → Type 0 where
  -- behind the last card of K both headers are the same
  rest : {q : Open} {h : List Role} → Own k q → Clear k q h → Walk k q idle h h []
  -- between K's cards stands commentary
  skip : {q r : Open} {g h new : List Role} → Walk k q r g h new → Walk k q r (neutral ∷ g) (neutral ∷ h) new
  -- a card of K in both
  both : {q r : Open} {c d : Role} {g h new : List Role} (e : Entry)
      → bears k (does q c) ≡ true → does r d ≡ gives e → e.name ≡ k
      → Walk k (leaves q (does q c)) (leaves r (gives e)) g h new → Walk k q r (c ∷ g) (d ∷ h) (d ∷ new)

-- K's cards come first in h but for commentary, and no later card bears K
record Left (k : List ℕ) (h new : List Role) : Type 0 where
  pub behind : List Role
  pub order : spoken h ≡ new ++ behind
  pub latest : lookup k behind ≡ None

module _ (k : List ℕ) where
  its_own : (r : Open) (d : Role) (e : Entry) → does r d ≡ gives e → e.name ≡ k → bears k (does r d) ≡ true
  its_own r d e is named = ap (bears k) is ∙ ap (λ (n : List ℕ). same n k) named ∙ same_self k

  walk_places : {q r : Open} {g h new : List Role} → Walk k q r g h new
      → (p : ℕ) → belongs-after k q g p ≡ belongs-after k r h p
  unfolding effects
  walk_places (rest o n) p = clear_places k n p ∙ sym (clear_places k (clear_idle k o n) p)
  walk_places (skip {q} {r} w) zero = ap (bears k) (neutral-does q ∙ sym (neutral-does r))
  walk_places (skip {q} {r} {g} {h} w) (suc p) =
      ap (λ (s : Open). belongs-after k s g p) (neutral-leaves q)
      ∙ walk_places w p
      ∙ sym (ap (λ (s : Open). belongs-after k s h p) (neutral-leaves r))
  walk_places (both {q} {r} {c} {d} e b is named w) zero = b ∙ sym (its_own r d e is named)
  walk_places (both {q} {r} {c} {d} {g} {h} e b is named w) (suc p) =
      walk_places w p ∙ sym (ap (λ (f : Effect). belongs-after k (leaves r f) h p) is)

  walk_accepted : {q r : Open} {g h new : List Role} → Walk k q r g h new → (i : ℕ) → header_from g i ≡ header_from h i
  unfolding header_from
  walk_accepted (rest o n) i = refl
  walk_accepted (skip w) i = walk_accepted w (suc i)
  walk_accepted (both {q} {r} {c} {d} {g} {h} e b is named w) i =
      said_passes (says k q c b) g i ∙ walk_accepted w (suc i) ∙ sym (said_passes (says k r d (its_own r d e is named)) h i)

  walk_left : {q r : Open} {g h new : List Role} → Walk k q r g h new → Left k h new
  unfolding spoken
  walk_left (rest {q} {h} o n) =
      record { behind = spoken h; order = refl; latest = lookup-spoken k h ∙ clear_lookup k (clear_idle k o n) }
  walk_left (skip w) =
      let s = walk_left w in
      record { behind = s.behind; order = s.order; latest = s.latest }
  walk_left (both {q} {r} {c} {d} {g} {h} {new} e b is named w) =
      let s = walk_left w in
      record {
        behind = s.behind;
        order = said-spoken (says k r d (its_own r d e is named)) h ∙ ap (λ (l : List Role). d ∷ l) s.order;
        latest = s.latest;
      }

  walk_times : {q r : Open} {g h new : List Role} → Walk k q r g h new → times_borne k h ≡ times_borne k new
  unfolding times_borne
  walk_times (rest {q} {h} o n) = not_borne k h (clear_lookup k (clear_idle k o n))
  walk_times (skip w) = walk_times w
  walk_times (both {d = d} {h = h} {new = new} e b is named w) = one-before k d h new (walk_times w)

-- ---- from the first card on

-- up to the first card of K both headers are the same
pub data Begins (k : List ℕ) : Open → List Role → List Role → List Role → Type 0 where
  first : {q : Open} {c d : Role} {g h new : List Role} → bears k (does q c) ≡ true → Walk k q q (c ∷ g) (d ∷ h) new
      → Begins k q (c ∷ g) (d ∷ h) new
  alike : {q : Open} {c : Role} {g h new : List Role} → bears k (does q c) ≡ false → Begins k (leaves q (does q c)) g h new
      → Begins k q (c ∷ g) (c ∷ h) new

-- K's cards stand among h before END, with at most commentary between them, and no later card bears K
pub record Standing (k : List ℕ) (h new : List Role) : Type 0 where
  pub before : List Role
  pub behind : List Role
  pub order : spoken h ≡ before ++ (new ++ behind)
  pub reached : goes_on before ≡ true
  pub latest : lookup k behind ≡ None

module _ (k : List ℕ) where
  -- the same places belong to K
  pub same-places : {q : Open} {g h new : List Role} → Begins k q g h new
      → (p : ℕ) → belongs-after k q g p ≡ belongs-after k q h p
  unfolding effects
  same-places (first b w) p = walk_places k w p
  same-places (alike b w) zero = refl
  same-places (alike b w) (suc p) = same-places w p

  -- both are accepted or refused alike
  pub same-header : {q : Open} {g h new : List Role} → Begins k q g h new → (i : ℕ) → header_from g i ≡ header_from h i
  unfolding header_from
  same-header (first b w) i = walk_accepted k w i
  same-header (alike {c = entry n v} b w) i = same-header w (suc i)
  same-header (alike {c = more t d} b w) i = same-header w (suc i)
  same-header (alike {c = neutral} b w) i = same-header w (suc i)
  same-header (alike {c = last} b w) i = refl
  same-header (alike {c = refused f} b w) i = refl

  -- END does not stand before the first card of K
  not_ended : {q : Open} {g h new : List Role} → Begins k q g h new → q ≡ ended → ⊥
  not_ended (first {c = c} b w) e = true≢false (sym b ∙ ap (λ (q : Open). bears k (does q c)) e)
  not_ended (alike {c = c} b w) e = not_ended w (ap (λ (q : Open). leaves q (does q c)) e)

  -- a card in front of those that stand before K's
  in_front : (c : Role) (h : List Role) {new : List Role} → spoken (c ∷ h) ≡ c ∷ spoken h
      → ((b : List Role) → goes_on (c ∷ b) ≡ goes_on b) → Standing k h new → Standing k (c ∷ h) new
  in_front c h kept passed s =
      record {
        before = c ∷ s.before;
        behind = s.behind;
        order = kept ∙ ap (λ (l : List Role). c ∷ l) s.order;
        reached = passed s.before ∙ s.reached;
        latest = s.latest;
      }

  pub stands : {q : Open} {g h new : List Role} → Begins k q g h new → Standing k h new
  unfolding spoken goes_on
  stands (first b w) =
      let s = walk_left k w in
      record { before = []; behind = s.behind; order = s.order; reached = refl; latest = s.latest }
  stands (alike {c = entry n v} {h = h} b w) = in_front (entry n v) h refl (λ l. refl) (stands w)
  stands (alike {c = more t d} {h = h} b w) = in_front (more t d) h refl (λ l. refl) (stands w)
  stands (alike {c = neutral} b w) =
      let s = stands w in
      record { before = s.before; behind = s.behind; order = s.order; reached = s.reached; latest = s.latest }
  stands (alike {q} {c = last} b w) = absurd (not_ended w (last-leaves q))
  stands (alike {c = refused f} {h = h} b w) = in_front (refused f) h refl (λ l. refl) (stands w)

  -- K is borne in h as often as among its cards
  pub times_begun : {q : Open} {g h new : List Role} → Begins k q g h new → times_borne k h ≡ times_borne k new
  unfolding times_borne
  times_begun (first b w) = walk_times k w
  times_begun (alike {q} {c = entry n v} b w) =
      let other : same n k ≡ false = sym (ap (bears k) (bears-entry n q (not_ended (alike b w)) v)) ∙ b in
      rw other (times_begun w)
  times_begun (alike {c = more t d} b w) = times_begun w
  times_begun (alike {c = neutral} b w) = times_begun w
  times_begun (alike {q} {c = last} b w) = absurd (not_ended w (last-leaves q))
  times_begun (alike {c = refused f} b w) = times_begun w
