-- Tables in arrays, and what is put into them.
use Rattle.std.specs.Prelude.{Err, None, Ok, Option, Result, Some}
use Prim.Native.Nat.{ℕ, zero, suc, ◌+◌, ◌-◌, ◌/◌, ◌<◌, ◌≤◌}
use native.Mathlib.Numerals.{add-one}
use native.Mathlib.Nat.{sub-zero}
use native.Mathlib.Omega.{arith}
use mathlib.Core.Path.{◌≡◌, refl, sym, ap, ap₂, subst, ◌∙◌}
use mathlib.Core.Bool.{Bool, true, false, cond}
use mathlib.Core.List.{List, [], ◌∷◌, ◌++◌}
use lib.ListN.{length, take, drop, get_or, set, replicate, length-append, length-replicate, length-set, get_or-append}
use lib.Seq.{set-append_left}
use Rattle.refusal.specs.declared.Fault.{Fault}
use Rattle.refusal.specs.declared.Refusal.TheVariants as R
use Rattle.refusal.specs.Numbers.{fault_of}
use Rattle.text.specs.Same.{same}
use Rattle.text.specs.Text.{filled}
use Rattle.text.proofs.Finding.{Under}
use Rattle.text.proofs.Texts.{length-put, filled_none, filled_put}
use Rattle.roles.specs.Roles.{Comment, Held, Role, entry, more, neutral, last as end-card, refused}
use Rattle.roles.specs.Cards.{card_no, role_no, roles_of, is_bad_length}
use Rattle.roles.proofs.Cards.{roles_from, role_is, roles_past}
use Rattle.roles.proofs.Counting.{good_cards}
use Rattle.finding.specs.Finding.{stop_at, header_from, header_of}
use Rattle.listing.specs.declared.Listing.{Listing}
use Rattle.listing.specs.Listing.{places, free, Table, empty, name_of, place_in, put_again, put_new, put, put_role}
use Rattle.listing.specs.Listing.{list_from, tabled, by_header, list_of}
use Rattle.listing.specs.Keys.{key_of, row_at, key_place, Ordered, Ready, Arrays, arrays_at, Entered}
use Rattle.listing.proofs.Lows.{Low, low_entry}
use Rattle.listing.proofs.Keying.{length-key, same_key}
use Rattle.listing.proofs.Rows.{row_other, row_own}
use Rattle.finding.specs.declared.Stop.{Stop}

-- ---- arrays
pub length-filled : (mark n : ℕ) (l : List ℕ) → length l ≤ n → length (filled mark n l) ≡ n
unfolding filled
length-filled mark n l h =
    length-append l (replicate (n - length l) mark)
    ∙ ap (λ (k : ℕ). length l + k) (length-replicate (n - length l) mark)
    ∙ omega arith

set-filled : (mark n : ℕ) (l : List ℕ) (k v : ℕ) → k < length l → set (filled mark n l) k v ≡ filled mark n (set l k v)
unfolding filled
set-filled mark n l k v h =
    set-append_left l (replicate (n - length l) mark) k v h
    ∙ ap (λ (m : ℕ). set l k v ++ replicate (n - m) mark) (sym (length-set l k v))

pub filled_at : (mark n : ℕ) (l : List ℕ) (k d : ℕ) → k < length l → get_or (filled mark n l) k d ≡ get_or l k d
unfolding filled
filled_at mark n l k d h = get_or-append l (replicate (n - length l) mark) d k h

zero_at : (n k : ℕ) → get_or (replicate n 0) k 0 ≤ 0
zero_at zero k = omega arith
zero_at (suc n) zero = omega arith
zero_at (suc n) (suc k) = zero_at n k

-- numbers that are at most n, and one more among them
most-put : (l : List ℕ) (k x n : ℕ) → ((j : ℕ) → get_or l j 0 ≤ n) → x ≤ n → (j : ℕ) → get_or (set l k x) j 0 ≤ n
most-put [] k x n all h j = all j
most-put (y ∷ l) zero x n all h zero = h
most-put (y ∷ l) zero x n all h (suc j) = all (suc j)
most-put (y ∷ l) (suc k) x n all h zero = all 0
most-put (y ∷ l) (suc k) x n all h (suc j) = most-put l k x n (λ i. all (suc i)) h j

-- an array of a number for each of n names, and of marks behind them
pub record Marked (mark n : ℕ) (l v : List ℕ) : Type 0 where
  pub is : l ≡ filled mark places v
  pub long : length v ≡ n

marked_none : (mark : ℕ) (l : List ℕ) → l ≡ replicate places mark → Marked mark 0 l []
marked_none mark l e = record { is = e ∙ filled_none mark places; long = refl }

module _ {mark n : ℕ} {l v : List ℕ} (M : Marked mark n l v) where
  marked_long : n ≤ places → length l ≡ places
  marked_long h = ap length M.is ∙ length-filled mark places v (omega (arith, M.long))

  marked_at : (k : ℕ) → k < n → get_or l k 0 ≡ get_or v k 0
  marked_at k h = ap (λ (s : List ℕ). get_or s k 0) M.is ∙ filled_at mark places v k 0 (omega (arith, M.long))

  marked_again : (k : ℕ) {x y : ℕ} → x ≡ y → k < n → Marked mark n (set l k x) (set v k y)
  marked_again k {x} {y} e h =
      record {
        is =
            ap₂ (λ (s : List ℕ) (z : ℕ). set s k z) M.is e
            ∙ set-filled mark places v k y (omega (arith, M.long));
        long = length-set v k y ∙ M.long;
      }

  marked_new : (x : ℕ) → n < places → Marked mark (n + 1) (set l n x) (v ++ x ∷ [])
  marked_new x h =
      record {
        is =
            ap₂ (λ (s : List ℕ) (k : ℕ). set s k x) M.is (sym M.long)
            ∙ filled_put mark places v x (omega (arith, M.long));
        long = length-put v x ∙ ap (λ (k : ℕ). k + 1) M.long;
      }

-- ---- what is left of the cards, and the table so far, give the listing
abbrev rest_by : Result ℕ Stop → List Role → List Role → ℕ → Table → Listing
rest_by (Ok end) all rs i t = tabled (Ok end) (list_from all (take (end - i) rs) i t)
rest_by (Err s) all rs i t = tabled (Err s) empty

abbrev rest : List Role → List Role → ℕ → Table → Listing
rest all rs i t = rest_by (header_from rs i) all rs i t

rest-start : (h : List ℕ) → is_bad_length (length h) ≡ false → rest (roles_of h) (roles_of h) 0 empty ≡ list_of h
unfolding list_of header_of
rest-start h good =
    let all : header_of h ≡ header_from (roles_of h) 0 = rw good in
    go (header_from (roles_of h) 0) ∙ ap (λ (x : Result ℕ Stop). by_header x (roles_of h)) (sym all)
  where
    go : (x : Result ℕ Stop) → rest_by x (roles_of h) (roles_of h) 0 empty ≡ by_header x (roles_of h)
    go (Ok end) = ap (λ (n : ℕ). tabled (Ok end) (list_from (roles_of h) (take n (roles_of h)) 0 empty)) (sub-zero end)
    go (Err s) = refl

pub refused-length : (h : List ℕ) → is_bad_length (length h) ≡ true
    → tabled (Err (stop_at (fault_of R.HeaderLength) 0)) empty ≡ list_of h
unfolding list_of header_of
refused-length h bad = rw bad

-- END is none of the cards before
end_over : (rs : List Role) (i e : ℕ) → header_from rs i ≡ Ok e → i ≤ e
unfolding header_from
end_over [] i e d = absurd (let z : ◌≡◌ {A = ℕ} 0 1 = cc in omega arith)
end_over (entry n v ∷ rs) i e d = let p : suc i ≤ e = end_over rs (suc i) e d in omega arith
end_over (more t c ∷ rs) i e d = let p : suc i ≤ e = end_over rs (suc i) e d in omega arith
end_over (neutral ∷ rs) i e d = let p : suc i ≤ e = end_over rs (suc i) e d in omega arith
end_over (end-card ∷ rs) i e d = let z : i ≡ e = cc in omega arith
end_over (refused f ∷ rs) i e d = absurd (let z : ◌≡◌ {A = ℕ} 0 1 = cc in omega arith)

module _ (all rs : List Role) (i : ℕ) (t : Table) where
  -- a card that the reading passes, and by whose role the table becomes another
  next_by_lem : (r : Role) (u : Table) → put_role all r i t ≡ u
      → (x : Result ℕ Stop) → header_from rs (suc i) ≡ x → rest_by x all rs (suc i) u ≡ rest_by x all (r ∷ rs) i t
  unfolding list_from
  next_by_lem r u becomes (Ok end) e =
      let one : end - i ≡ suc (end - suc i) = omega (arith, end_over rs (suc i) end e) in
      ap (tabled (Ok end))
      (ap (list_from all (take (end - suc i) rs) (suc i)) (sym becomes)
      ∙ ap (λ (n : ℕ). list_from all (take n (r ∷ rs)) i t) (sym one))
  next_by_lem r u becomes (Err s) e = refl

  next_entry : (n : List ℕ) (v : Held) (u : Table)
      → put (place_in all n t.first 0) i t ≡ u
      → rest all rs (suc i) u ≡ rest all (entry n v ∷ rs) i t
  unfolding header_from
  next_entry n v u becomes = next_by_lem (entry n v) u becomes (header_from rs (suc i)) refl

  next_more : (s : List ℕ) (c : Comment) → rest all rs (suc i) t ≡ rest all (more s c ∷ rs) i t
  unfolding header_from
  next_more s c = next_by_lem (more s c) t refl (header_from rs (suc i)) refl

  next_neutral : rest all rs (suc i) t ≡ rest all (neutral ∷ rs) i t
  unfolding header_from
  next_neutral = next_by_lem neutral t refl (header_from rs (suc i)) refl

  -- at END the table is the header's
  at_last : tabled (Ok i) t ≡ rest all (end-card ∷ rs) i t
  unfolding header_from list_from
  at_last =
      let none : i - i ≡ 0 = omega arith in
      ap (λ (n : ℕ). tabled (Ok i) (list_from all (take n (end-card ∷ rs)) i t)) (sym none)

  at_refused : (f : Fault) → tabled (Err (stop_at f i)) empty ≡ rest all (refused f ∷ rs) i t
  unfolding header_from
  at_refused f = refl

-- ---- cards that are entries
pub record IsEntry (h : List ℕ) (i : ℕ) : Type 0 where
  pub within : i < length h / 80
  pub name : List ℕ
  pub held : Held
  pub is : role_no h i ≡ entry name held
  pub short : length name ≤ 80

-- entries whose keys stand at the places from k on
pub data Rowed (h keys : List ℕ) : ℕ → List ℕ → Type 0 where
  none : {k : ℕ} → Rowed h keys k []
  one : {k i : ℕ} {l : List ℕ} (e : IsEntry h i) → row_at keys k ≡ key_of e.name → Rowed h keys (suc k) l
      → Rowed h keys k (i ∷ l)

rowed_put : {h keys l : List ℕ} {k i : ℕ} → Rowed h keys k l → (e : IsEntry h i) → row_at keys (k + length l) ≡ key_of e.name
    → Rowed h keys k (l ++ i ∷ [])
rowed_put {h} {keys} {k = k} none e r = one e (ap (row_at keys) (let here : k ≡ k + 0 = omega arith in here) ∙ r) none
rowed_put {h} {keys} {k = k} (one {l = l} d q ds) e r =
    one d q (rowed_put ds e (ap (row_at keys) (let same_place : suc k + length l ≡ k + suc (length l) = omega arith in same_place) ∙ r))

rowed_by : {h keys keys₁ l : List ℕ} {k : ℕ} → Rowed h keys k l
    → ((j : ℕ) → j < k + length l → row_at keys₁ j ≡ row_at keys j) → Rowed h keys₁ k l
rowed_by none rows = none
rowed_by {k = k} (one d q ds) rows = one d (rows k (omega arith) ∙ q) (rowed_by ds (λ j p. rows j (omega arith)))

low_is : {h : List ℕ} {i : ℕ} (e : IsEntry h i) → Low e.name
low_is {h} {i} e = low_entry (card_no h i) e.name e.held e.is

-- the place of a name's key is the name's
place_is : {h keys l : List ℕ} {i : ℕ} (own : IsEntry h i) {k : ℕ} → Rowed h keys k l
    → key_place (key_of own.name) keys (length l) k ≡ place_in (roles_of h) own.name l k
unfolding key_place place_in
place_is own none = refl
place_is {h} {keys} own {k} (one {i = i} {l = l} e q es) =
    let name : e.name ≡ name_of (get_or (roles_of h) i neutral) = sym (ap name_of (role_is h i e.within ∙ e.is)) in
    let alike =
    ap (λ (r : List ℕ). same r (key_of own.name)) q
    ∙ same_key e.name own.name e.short own.short (low_is e) (low_is own)
    ∙ ap (λ (m : List ℕ). same m own.name) name in
    ap₂ (λ (b : Bool) (p : Option ℕ). cond b (Some k) p) alike (place_is own es)

-- a place is one of the list's
place_under : (roles : List Role) (name l : List ℕ) (k : ℕ) → Under (k + length l) (place_in roles name l k)
unfolding place_in
place_under roles name [] k = tt
place_under roles name (i ∷ l) k =
    go (same (name_of (get_or roles i neutral)) name) (place_in roles name l (suc k)) (place_under roles name l (suc k))
  where
    go : (t : Bool) (p : Option ℕ) → Under (suc k + length l) p → Under (k + suc (length l)) (cond t (Some k) p)
    go true p u = omega arith
    go false (Some j) u = omega arith
    go false None u = tt

-- ---- where the loop stands
pub record Standing (h first last times keys order : List ℕ) (count i : ℕ) : Type 0 where
  pub t : Table
  pub within : i ≤ length h / 80
  pub good : is_bad_length (length h) ≡ false
  pub first_in : Marked free count first t.first
  pub last_in : Marked free count last t.last
  pub times_in_lem : Marked 0 count times t.times
  pub few-times : (k : ℕ) → get_or times k 0 ≤ i
  pub small : count ≤ i
  pub rowed : Rowed h keys 0 t.first
  pub ordered : Ordered keys order count
  pub left : rest (roles_of h) (drop i (roles_of h)) i t ≡ list_of h

pub start : (h first last times keys order : List ℕ) → is_bad_length (length h) ≡ false
    → first ≡ replicate places free → last ≡ replicate places free → times ≡ replicate places 0 → Ordered keys order 0
    → Standing h first last times keys order 0 0
start h first last times keys order good f l n ordered =
    record {
      t = empty;
      within = omega arith;
      good = good;
      first_in = marked_none free first f;
      last_in = marked_none free last l;
      times_in_lem = marked_none 0 times n;
      few-times = λ k. subst (λ (s : List ℕ). get_or s k 0 ≤ 0) (sym n) (zero_at places k);
      small = omega arith;
      rowed = none;
      ordered = ordered;
      left = rest-start h good;
    }

-- by what the arrays are equal to
pub standing_as : {h first last times keys order first₁ last₁ times₁ keys₁ order₁ : List ℕ} {count count₁ i : ℕ}
    → first₁ ≡ first → last₁ ≡ last → times₁ ≡ times → keys₁ ≡ keys → order₁ ≡ order → count₁ ≡ count
    → Standing h first last times keys order count i → Standing h first₁ last₁ times₁ keys₁ order₁ count₁ i
standing_as {h} {i = i} f l n k o c S = coe 1 0 (j. Standing h (f j) (l j) (n j) (k j) (o j) (c j) i) S

module _ {h first last times keys order : List ℕ} {count i : ℕ} (S : Standing h first last times keys order count i) where
  abbrev roles : List Role
  roles = roles_of h

  at_most : length h / 80 ≤ 720
  at_most = good_cards (length h) S.good

  -- each array has all places
  long_in : {mark : ℕ} {l v : List ℕ} → Marked mark count l v → length l ≡ places
  long_in M = marked_long M (omega (arith, S.small, S.within, at_most))

  -- behind the cards there is no END
  pub at_end : length h / 80 ≤ i → tabled (Err (stop_at (fault_of R.NoEnd) (length h / 80))) empty ≡ list_of h
  unfolding header_from
  at_end p =
      let all : length h / 80 ≡ i = omega (arith, S.within) in
      ap (λ (k : ℕ). tabled (Err (stop_at (fault_of R.NoEnd) k)) empty) all
      ∙ sym (ap (λ (l : List Role). rest roles l i S.t) (roles_past h i p))
      ∙ S.left

  module _ (next : i < length h / 80) where
    -- a place is free
    room : count < places
    room = omega (arith, S.small, at_most)

    -- what is left, by the role of its first card
    left_by : (r : Role) → r ≡ role_no h i → rest roles (r ∷ drop (i + 1) roles) i S.t ≡ list_of h
    left_by r is =
        ap (λ (q : Role). rest roles (q ∷ drop (i + 1) roles) i S.t) is
        ∙ sym (ap (λ (l : List Role). rest roles l i S.t) (roles_from h i next))
        ∙ S.left

    left_next : (t : Table) → rest roles (drop (i + 1) roles) (suc i) t ≡ list_of h
        → rest roles (drop (i + 1) roles) (i + 1) t ≡ list_of h
    left_next t e = ap (λ (k : ℕ). rest roles (drop (i + 1) roles) k t) (add-one i) ∙ e

    pub on_refused : (f : Fault) → refused f ≡ role_no h i → tabled (Err (stop_at f i)) empty ≡ list_of h
    on_refused f is = at_refused roles (drop (i + 1) roles) i S.t f ∙ left_by (refused f) is

    pub on_last : end-card ≡ role_no h i → tabled (Ok i) S.t ≡ list_of h
    on_last is = at_last roles (drop (i + 1) roles) i S.t ∙ left_by end-card is

    -- no number is above that of the cards then
    few-more : (k : ℕ) → get_or times k 0 ≤ i + 1
    few-more k = omega (arith, S.few-times k)

    -- a card that is no entry changes nothing
    passed : rest roles (drop (i + 1) roles) (suc i) S.t ≡ list_of h → Standing h first last times keys order count (i + 1)
    passed e =
        record {
          t = S.t;
          within = omega arith;
          good = S.good;
          first_in = S.first_in;
          last_in = S.last_in;
          times_in_lem = S.times_in_lem;
          few-times = few-more;
          small = omega (arith, S.small);
          rowed = S.rowed;
          ordered = S.ordered;
          left = left_next S.t e;
        }

    pub on_more : (s : List ℕ) (c : Comment) → more s c ≡ role_no h i → Standing h first last times keys order count (i + 1)
    on_more s c is = passed (next_more roles (drop (i + 1) roles) i S.t s c ∙ left_by (more s c) is)

    pub on_neutral : neutral ≡ role_no h i → Standing h first last times keys order count (i + 1)
    on_neutral is = passed (next_neutral roles (drop (i + 1) roles) i S.t ∙ left_by neutral is)

    -- an entry goes to its name's place, or behind the others
    pub ready : Ready count first last times keys order
    ready =
        record {
          ordered = S.ordered;
          first-long = long_in S.first_in;
          last-long = long_in S.last_in;
          times_long = long_in S.times_in_lem;
          few-times = λ k. omega (arith, S.few-times k, at_most);
          room = room;
        }

    module _ (own : IsEntry h i) where
      -- its place in the table
      abbrev own_place : Option ℕ
      own_place = place_in roles own.name S.t.first 0

      -- the place by the keys is the table's
      place_so : key_place (key_of own.name) keys count 0 ≡ own_place
      place_so =
          ap (λ (n : ℕ). key_place (key_of own.name) keys n 0) (sym S.first_in.long)
          ∙ place_is own S.rowed

      -- the table then, by the place
      left_so : (p : Option ℕ) → own_place ≡ p → (u : Table) → put p i S.t ≡ u
          → rest roles (drop (i + 1) roles) (i + 1) u ≡ list_of h
      left_so p e u becomes =
          left_next u
          (next_entry roles (drop (i + 1) roles) i S.t own.name own.held u
          (ap (λ (q : Option ℕ). put q i S.t) e ∙ becomes)
          ∙ left_by (entry own.name own.held) (sym own.is))

      module _ {then : Arrays} {keys₁ order₁ : List ℕ}
          (E : Entered own.name i count first last times keys then keys₁ order₁) where
        abbrev Next : Arrays → Type 0
        Next x = Standing h x.first x.last x.times keys₁ order₁ x.names (i + 1)

        -- the arrays, by the place
        by_place : (p : Option ℕ) → own_place ≡ p → then ≡ arrays_at p i count first last times
        by_place p e = E.put ∙ ap (λ (q : Option ℕ). arrays_at q i count first last times) (place_so ∙ e)

        ordered_so : (x : Arrays) → then ≡ x → Ordered keys₁ order₁ x.names
        ordered_so x e = subst (λ (y : Arrays). Ordered keys₁ order₁ y.names) e E.ordered

        -- the keys of the places before stay, and the key of the entry stands behind them
        rowed_so : Rowed h keys₁ 0 S.t.first
        rowed_so =
            rowed_by S.rowed
            (λ j p. ap (λ (l : List ℕ). row_at l j) E.rows
            ∙ row_other keys (key_of own.name) count j (omega (arith, S.first_in.long)))

        own_row : row_at keys₁ count ≡ key_of own.name
        own_row =
            ap (λ (l : List ℕ). row_at l count) E.rows
            ∙ row_own keys (key_of own.name) count (length-key own.name) (omega (arith, room, S.ordered.keys_long))

        at_place : (k : ℕ) → own_place ≡ Some k → Next (arrays_at (Some k) i count first last times)
        at_place k e =
            let under : k < 0 + length S.t.first =
            subst (Under (0 + length S.t.first)) e (place_under roles own.name S.t.first 0) in
            let below : k < count = omega (arith, S.first_in.long) in
            let one_more : get_or times k 0 + 1 ≡ suc (get_or S.t.times k 0) =
            ap (λ (n : ℕ). n + 1) (marked_at S.times_in_lem k below) ∙ add-one (get_or S.t.times k 0) in
            record {
              t = put_again S.t k i;
              within = omega arith;
              good = S.good;
              first_in = S.first_in;
              last_in = marked_again S.last_in k refl below;
              times_in_lem = marked_again S.times_in_lem k one_more below;
              few-times = most-put times k (get_or times k 0 + 1) (i + 1) few-more (omega (arith, S.few-times k));
              small = omega (arith, S.small);
              rowed = rowed_so;
              ordered = ordered_so (arrays_at (Some k) i count first last times) (by_place (Some k) e);
              left = left_so (Some k) e (put_again S.t k i) refl;
            }

        at_free : own_place ≡ None → Next (arrays_at None i count first last times)
        at_free e =
            let behind : 0 + length S.t.first ≡ count = omega (arith, S.first_in.long) in
            record {
              t = put_new S.t i;
              within = omega arith;
              good = S.good;
              first_in = marked_new S.first_in i room;
              last_in = marked_new S.last_in i room;
              times_in_lem = marked_new S.times_in_lem 1 room;
              few-times = most-put times count 1 (i + 1) few-more (omega arith);
              small = omega (arith, S.small);
              rowed = rowed_put rowed_so own (ap (row_at keys₁) behind ∙ own_row);
              ordered = ordered_so (arrays_at None i count first last times) (by_place None e);
              left = left_so None e (put_new S.t i) refl;
            }

        pub on_entry_lem : Next then
        on_entry_lem = go own_place refl
          where
            go : (p : Option ℕ) → own_place ≡ p → Next then
            go (Some k) e = subst Next (sym (by_place (Some k) e)) (at_place k e)
            go None e = subst Next (sym (by_place None e)) (at_free e)
