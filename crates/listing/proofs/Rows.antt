-- The keys of places: rows of an array, and the place that has a key.
use Rattle.std.specs.Prelude.{None, Some}
use Prim.Native.Nat.{ℕ, zero, suc, ◌+◌, ◌-◌, ◌*◌, ◌<◌, ◌≤◌}
use native.Mathlib.Omega.{arith}
use mathlib.Core.Path.{◌≡◌, refl, sym, ap, ap₂, ◌∙◌}
use mathlib.Core.Bool.{Bool, true, false, cond, true≢false}
use mathlib.Core.List.{List, [], ◌∷◌, ◌++◌, append_assoc}
use borrow.Author.Tests.{eqb-true, eqb-false, ltb-true, ltb-false}
use lib.Arith.{lt_of_le-ne}
use lib.Dec.{eqb, ltb}
use lib.ListN.{length, take, drop, get_or, set, replicate, length-take, length-drop, length-replicate}
use lib.Seq.{sets, sets-eq, length-sets, drop-set-add, take-set-le, drop_at, take_at, length-take-le}
use Rattle.text.specs.Same.{same}
use Rattle.text.proofs.Comparing.{same_self, same_eq}
use Rattle.listing.specs.Listing.{places}
use Rattle.listing.specs.Keys.{words_of_key, is_before, row_at, row_in, key_place, Numbered, Ordered, Parted, Slid}
use Rattle.listing.proofs.Ordering.{before_self, before_total}

-- ---- a key stored behind others
row-set : (l : List ℕ) (a i v : ℕ) → a + 9 ≤ i → take 9 (drop a (set l i v)) ≡ take 9 (drop a l)
row-set l a i v h =
    let at : i ≡ a + (i - a) = omega arith in
    ap (λ (k : ℕ). take 9 (drop a (set l k v))) at
    ∙ ap (take 9) (drop-set-add a l (i - a) v)
    ∙ take-set-le 9 (drop a l) (i - a) v (omega arith)

row-sets : (vs l : List ℕ) (a i : ℕ) → a + 9 ≤ i → take 9 (drop a (sets l i vs)) ≡ take 9 (drop a l)
row-sets [] l a i h = refl
row-sets (v ∷ vs) l a i h = row-sets vs (set l i v) a (suc i) (omega arith) ∙ row-set l a i v h

module _ (keys key : List ℕ) (n : ℕ) where
  pub row_other : (k : ℕ) → k < n → row_at (sets keys (n * words_of_key) key) k ≡ row_at keys k
  row_other k h = row-sets key keys (k * 9) (n * 9) (omega arith)

  pub row_own : length key ≡ words_of_key → n * words_of_key + words_of_key ≤ length keys
      → row_at (sets keys (n * words_of_key) key) n ≡ key
  row_own long h =
      let front = length-take-le (n * 9) keys (omega arith) in
      let behind = drop (n * 9 + length key) keys in
      ap (λ (l : List ℕ). take 9 (drop (n * 9) l))
      (sets-eq key keys (n * 9) (omega arith) ∙ append_assoc (take (n * 9) keys) key behind)
      ∙ ap (take 9) (drop_at (take (n * 9) keys) (key ++ behind) (n * 9) front)
      ∙ take_at key behind 9 long

length-row : (keys : List ℕ) (k : ℕ) → k * words_of_key + words_of_key ≤ length keys → length (row_at keys k) ≡ words_of_key
length-row keys k h = length-take 9 (drop (k * 9) keys) ∙ omega (arith, length-drop (k * 9) keys)

-- ---- the place that has a key
other_key : (s t : List ℕ) → (s ≡ t → ⊥) → same s t ≡ false
other_key s t n = go (same s t) refl
  where
    go : (b : Bool) → same s t ≡ b → b ≡ false
    go true e = absurd (n (same_eq s t e))
    go false e = refl

module _ (key keys : List ℕ) where
  key-none : (n k : ℕ) → ((j : ℕ) → k ≤ j → j < k + n → row_at keys j ≡ key → ⊥) → key_place key keys n k ≡ None
  unfolding key_place
  key-none zero k none = refl
  key-none (suc n) k none =
      rw (other_key (row_at keys k) key (none k (omega arith) (omega arith)))
      (key-none n (suc k) (λ j p q. none j (omega arith) (omega arith)))

  key_at : (n k p : ℕ) → k ≤ p → p < k + n → row_at keys p ≡ key
      → ((j : ℕ) → k ≤ j → j < p → row_at keys j ≡ key → ⊥)
      → key_place key keys n k ≡ Some p
  unfolding key_place
  key_at zero k p h l e none = absurd (omega arith)
  key_at (suc n) k p h l e none = go (eqb k p) refl (key_at n (suc k) p)
    where
      go : (t : Bool) → eqb k p ≡ t
          → (suc k ≤ p → p < suc k + n → row_at keys p ≡ key
          → ((j : ℕ) → suc k ≤ j → j < p → row_at keys j ≡ key → ⊥)
          → key_place key keys n (suc k) ≡ Some p)
          → cond (same (row_at keys k) key) (Some k) (key_place key keys n (suc k)) ≡ Some p
      go true d more =
          let here = eqb-true k p d in
          let yes-so : same (row_at keys k) key ≡ true =
          ap₂ same (ap (row_at keys) here ∙ e) refl ∙ same_self key in
          rw yes-so (ap Some here)
      go false d more =
          let later = lt_of_le-ne h (eqb-false k p d) in
          rw (other_key (row_at keys k) key (none k (omega arith) later))
          (more later (omega arith) e (λ j u v. none j (omega arith) v))

-- ---- places in the order of their keys
-- at the start there are none
pub ordered-none : (keys order : List ℕ) → keys ≡ replicate (places * words_of_key) 0 → order ≡ replicate places 0
    → Ordered keys order 0
ordered-none keys order k o =
    record {
      few = omega arith;
      keys_long = ap length k ∙ length-replicate {A = ℕ} (places * words_of_key) 0;
      order-long = ap length o ∙ length-replicate {A = ℕ} places 0;
      within = λ j p. absurd (omega arith);
      numbered = λ j p. absurd (omega arith);
      rising = λ j p. absurd (omega arith);
    }

module _ {keys order : List ℕ} {count : ℕ} (O : Ordered keys order count) where
  -- no two places have one key
  apart : (j k : ℕ) → j < count → k < count → (j ≡ k → ⊥) → row_at keys j ≡ row_at keys k → ⊥
  apart j k p q other e = go (ltb a b) refl
    where
      N : Numbered order count j
      N = O.numbered j p

      M : Numbered order count k
      M = O.numbered k q

      a : ℕ
      a = N.number

      b : ℕ
      b = M.number

      rows : row_in keys order a ≡ row_in keys order b
      rows = ap (row_at keys) N.there ∙ e ∙ ap (row_at keys) (sym M.there)

      unlike : a ≡ b → ⊥
      unlike z = other (sym N.there ∙ ap (λ (n : ℕ). get_or order n 0) z ∙ M.there)

      go : (t : Bool) → ltb a b ≡ t → ⊥
      go true d =
          let less = O.rising b M.below a (ltb-true a b d) in
          true≢false (sym less ∙ ap (is_before (row_in keys order a)) (sym rows) ∙ before_self (row_in keys order a))
      go false d =
          let less = O.rising a N.below b (lt_of_le-ne (ltb-false a b d) (λ z. unlike (sym z))) in
          true≢false (sym less ∙ ap (is_before (row_in keys order b)) rows ∙ before_self (row_in keys order b))

  row-long : (k : ℕ) → k < places → length (row_at keys k) ≡ words_of_key
  row-long k h = length-row keys k (omega (arith, O.keys_long))

  -- a key stored behind the places leaves them in order
  module _ (key : List ℕ) where
    pub ordered-behind : Ordered (sets keys (count * words_of_key) key) order count
    ordered-behind =
        record {
          few = O.few;
          keys_long = length-sets keys (count * 9) key ∙ O.keys_long;
          order-long = O.order-long;
          within = O.within;
          numbered = O.numbered;
          rising =
              λ j p i q.
              ap₂ is_before (row_other keys key count (get_or order i 0) (O.within i (omega arith)))
              (row_other keys key count (get_or order j 0) (O.within j p))
              ∙ O.rising j p i q;
        }

  -- ---- where the key behind the places stands among them
  module _ (room : count < places) {at : ℕ} (P : Parted keys order count at) where
    abbrev own : List ℕ
    own = row_at keys count

    -- the place at the number has the key, unless the key comes before it
    pub found : at < count → is_before own (row_in keys order at) ≡ false → row_in keys order at ≡ own
    found h e =
        let place = O.within at h in
        before_total (row_in keys order at) own (row-long (get_or order at 0) (omega (arith, room)) ∙ sym (row-long count room))
        (P.upper at (omega arith) h) e

    module _ (new : at < count → is_before own (row_in keys order at) ≡ true) where
      -- then no place has it
      not_in : (a : ℕ) → a < count → row_in keys order a ≡ own → ⊥
      not_in a p e = go (ltb a at) refl (eqb at a) refl
        where
          go : (t : Bool) → ltb a at ≡ t → (u : Bool) → eqb at a ≡ u → ⊥
          go true d u g =
              true≢false (sym (P.lower a (ltb-true a at d)) ∙ ap (λ (s : List ℕ). is_before s own) e ∙ before_self own)
          go false d true g =
              let here = eqb-true at a g in
              let less = new (omega arith) in
              true≢false (sym less ∙ ap (is_before own) (ap (row_in keys order) here ∙ e) ∙ before_self own)
          go false d false g =
              let less : at < a = lt_of_le-ne (ltb-false a at d) (eqb-false at a g) in
              true≢false
              (sym (O.rising a p at less) ∙ ap (is_before (row_in keys order at)) e ∙ P.upper at (omega arith) (omega arith))

      pub not_there : (k : ℕ) → k < count → row_at keys k ≡ own → ⊥
      not_there k p e = let N = O.numbered k p in not_in N.number N.below (ap (row_at keys) N.there ∙ e)

      -- and the key comes before the places from the number on
      above : (a : ℕ) → at ≤ a → a < count → is_before own (row_in keys order a) ≡ true
      above a p q = go (is_before own (row_in keys order a)) refl
        where
          go : (t : Bool) → is_before own (row_in keys order a) ≡ t → t ≡ true
          go true e = refl
          go false e =
              let place = O.within a q in
              let long = row-long (get_or order a 0) (omega (arith, room)) ∙ sym (row-long count room) in
              absurd (not_in a q (before_total (row_in keys order a) own long (P.upper a p q) e))

      -- ---- the key's place put among the others
      module _ {order₁ : List ℕ} (S : Slid order at count count order₁) where
        -- a number in the order then
        data Then (j : ℕ) : Type 0 where
          low : j < at → get_or order₁ j 0 ≡ get_or order j 0 → Then j
          mid : at ≡ j → get_or order₁ j 0 ≡ count → Then j
          high : (i : ℕ) → j ≡ i + 1 → at ≤ i → i < count → get_or order₁ j 0 ≡ get_or order i 0 → Then j

        then_by : (j : ℕ) → j < count + 1 → Then j
        then_by j h = go (ltb j at) refl (eqb at j) refl
          where
            go : (t : Bool) → ltb j at ≡ t → (u : Bool) → eqb at j ≡ u → Then j
            go true d u g = low (ltb-true j at d) (S.lower j (ltb-true j at d))
            go false d true g =
                let here = eqb-true at j g in
                mid here (ap (λ (k : ℕ). get_or order₁ k 0) (sym here) ∙ S.here)
            go false d false g =
                let less : at < j = lt_of_le-ne (ltb-false j at d) (eqb-false at j g) in
                let next : j ≡ j - 1 + 1 = omega arith in
                high (j - 1) next (omega arith) (omega arith)
                (ap (λ (k : ℕ). get_or order₁ k 0) next ∙ S.upper (j - 1) (omega arith) (omega arith))

        within_by : (j : ℕ) → Then j → get_or order₁ j 0 < count + 1
        within_by j (low h e) = let p = O.within j (omega (arith, P.within)) in omega arith
        within_by j (mid h e) = omega arith
        within_by j (high i z h l e) = let p = O.within i l in omega arith

        numbered_by_lem : (k : ℕ) → k < count + 1 → (t : Bool) → ltb k count ≡ t → Numbered order₁ (count + 1) k
        numbered_by_lem k h true d = let N = O.numbered k (ltb-true k count d) in go N (ltb N.number at) refl
          where
            go : (N : Numbered order count k) (t : Bool) → ltb N.number at ≡ t → Numbered order₁ (count + 1) k
            go N true g =
                record {
                  number = N.number;
                  below = omega (arith, N.below);
                  there = S.lower N.number (ltb-true N.number at g) ∙ N.there;
                }
            go N false g =
                record {
                  number = N.number + 1;
                  below = omega (arith, N.below);
                  there = S.upper N.number (ltb-false N.number at g) N.below ∙ N.there;
                }
        numbered_by_lem k h false d =
            let last : count ≡ k = omega (arith, ltb-false k count d) in
            record { number = at; below = omega (arith, P.within); there = S.here ∙ last }

        rising_by : (i j : ℕ) → i < j → Then i → Then j → is_before (row_in keys order₁ i) (row_in keys order₁ j) ≡ true
        rising_by i j less (low h e) (low k f) =
            ap₂ (λ (x y : ℕ). is_before (row_at keys x) (row_at keys y)) e f ∙ O.rising j (omega (arith, P.within)) i less
        rising_by i j less (low h e) (mid k f) = ap₂ (λ (x y : ℕ). is_before (row_at keys x) (row_at keys y)) e f ∙ P.lower i h
        rising_by i j less (low h e) (high b z k l f) =
            ap₂ (λ (x y : ℕ). is_before (row_at keys x) (row_at keys y)) e f ∙ O.rising b l i (omega arith)
        rising_by i j less (mid h e) (low k f) = absurd (omega arith)
        rising_by i j less (mid h e) (mid k f) = absurd (omega arith)
        rising_by i j less (mid h e) (high b z k l f) = ap₂ (λ (x y : ℕ). is_before (row_at keys x) (row_at keys y)) e f ∙ above b k l
        rising_by i j less (high a y g m e) (low k f) = absurd (omega arith)
        rising_by i j less (high a y g m e) (mid k f) = absurd (omega arith)
        rising_by i j less (high a y g m e) (high b z k l f) =
            ap₂ (λ (x y : ℕ). is_before (row_at keys x) (row_at keys y)) e f ∙ O.rising b l a (omega arith)

        pub ordered-put : Ordered keys order₁ (count + 1)
        ordered-put =
            record {
              few = omega (arith, room);
              keys_long = O.keys_long;
              order-long = S.long ∙ O.order-long;
              within = λ j p. within_by j (then_by j p);
              numbered = λ k p. numbered_by_lem k p (ltb k count) refl;
              rising = λ j p i q. rising_by i j q (then_by i (omega arith)) (then_by j p);
            }

-- ---- the place of a key stored behind the places is that of the key among them
module _ {keys order : List ℕ} {count : ℕ} (O : Ordered keys order count) (key : List ℕ) where
  pub place_none : ((k : ℕ) → k < count → row_at keys k ≡ key → ⊥) → key_place key keys count 0 ≡ None
  place_none none = key-none key keys count 0 (λ j p q. none j (omega arith))

  pub place_at : (k : ℕ) → k < count → row_at keys k ≡ key → key_place key keys count 0 ≡ Some k
  place_at k p e =
      key_at key keys count 0 k (omega arith) (omega arith) e
      (λ j u v f. apart O j k (omega arith) p (λ (z : j ≡ k). omega arith) (f ∙ sym e))
