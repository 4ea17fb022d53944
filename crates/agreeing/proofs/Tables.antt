-- What the cards of a header up to END come to in a table.
use Rattle.std.specs.Prelude.{None, Option, Some}
use Prim.Native.Nat.{ℕ, suc, ◌+◌, ◌<◌, ◌≤◌}
use native.Mathlib.Omega.{arith}
use mathlib.Core.Path.{◌≡◌, refl, sym, ap, ap₂, subst, ◌∙◌}
use mathlib.Core.Bool.{Bool, true, false, cond}
use mathlib.Core.List.{List, [], ◌∷◌, ◌++◌, append_assoc, append-nil}
use borrow.Author.Tests.{ltb-true, ltb-false}
use lib.Dec.{ltb}
use lib.ListN.{length, get_or, take, drop, length-append, length-set, get_or-append}
use lib.Seq.{get_or_at}
use Rattle.text.specs.Same.{same}
use Rattle.text.proofs.Comparing.{same_self}
use Rattle.roles.specs.Roles.{Comment, Held, Role, entry, more, neutral, last}
use Rattle.roles.proofs.Cards.{role_first}
use Rattle.finding.specs.Finding.{last_from}
use Rattle.entries.proofs.Looking.{drop_next}
use Rattle.listing.specs.Listing.{free, Table, name_of, put_again, put_new, put, list_from}
use Rattle.agreeing.specs.Firsts.{is_among, firsts_from, times_borne}
use Rattle.agreeing.specs.Times.{sum_of}
use Rattle.agreeing.proofs.Places.{is_place, or_place, if_named, name_no, place_of_name, last_in_table, times_in_table, place-put}
use Rattle.agreeing.proofs.Places.{hit_under, read_known, read-new, one_more}
use Rattle.agreeing.proofs.Counting.{sum_more, sum-put, one_beside, entries_in}

-- END stands at card k, and no card before it is END or refused
pub data Until : ℕ → List Role → Type 0 where
  here : {rs : List Role} → Until 0 (last ∷ rs)
  past_entry : (n : List ℕ) (v : Held) {k : ℕ} {rs : List Role} → Until k rs → Until (suc k) (entry n v ∷ rs)
  past_more : (t : List ℕ) (c : Comment) {k : ℕ} {rs : List Role} → Until k rs → Until (suc k) (more t c ∷ rs)
  past_neutral : {k : ℕ} {rs : List Role} → Until k rs → Until (suc k) (neutral ∷ rs)

-- a role that is an entry with this name
pub record IsNamed (role : Role) (name : List ℕ) : Type 0 where
  pub held : Held
  pub is : role ≡ entry name held

-- card i is an entry
abbrev pub EntryNo : List Role → ℕ → Type 0
EntryNo roles i = IsNamed (get_or roles i neutral) (name_no roles i)

-- a table with one place for each of its names, and entries for first cards
pub record Sound (roles : List Role) (t : Table) : Type 0 where
  pub alike : length t.last ≡ length t.first
  pub counted : length t.times ≡ length t.first
  pub own : (k : ℕ) → k < length t.first → place_of_name roles t.first (name_no roles (get_or t.first k free)) ≡ Some k
  pub entries : (k : ℕ) → k < length t.first → EntryNo roles (get_or t.first k free)

-- the names that were seen are those of the table
pub record Seen (roles : List Role) (seen : List (List ℕ)) (t : Table) : Type 0 where
  pub names : (name : List ℕ) → is_among name seen ≡ is_place (place_of_name roles t.first name)

-- the cards rs, END among them at k, put into a table t
pub record Comes (roles rs : List Role) (seen : List (List ℕ)) (k i : ℕ) (t : Table) : Type 0 where
  pub u : Table
  pub is : list_from roles (take k rs) i t ≡ u
  pub sound : Sound roles u
  pub lasts : (name : List ℕ) → last_in_table roles u name ≡ last_from name rs i (last_in_table roles t name)
  pub bear : (name : List ℕ) → times_in_table roles u name ≡ times_in_table roles t name + times_borne name rs
  pub sum : sum_of u.times ≡ sum_of t.times + entries_in rs
  pub firsts : u.first ≡ t.first ++ firsts_from seen rs i

module _ (roles : List Role) (t : Table) (S : Sound roles t) where
  sound_known : (j i : ℕ) → Sound roles (put_again t j i)
  sound_known j i =
      record {
        alike = length-set t.last j i ∙ S.alike;
        counted = length-set t.times j (suc (get_or t.times j 0)) ∙ S.counted;
        own = S.own;
        entries = S.entries;
      }

  module _ (n : List ℕ) (v : Held) (i : ℕ) (role : get_or roles i neutral ≡ entry n v) (e : place_of_name roles t.first n ≡ None) where
    -- the first cards then
    abbrev firsts₁ : List ℕ
    firsts₁ = t.first ++ i ∷ []

    -- what holds of the first cards, and of card i behind them
    split : {P : ℕ → Type 0} → ((k : ℕ) → k < length t.first → P k) → P (length t.first) → (k : ℕ) → k < length firsts₁ → P k
    split {P} f g k p = go (ltb k (length t.first)) refl
      where
        go : (b : Bool) → ltb k (length t.first) ≡ b → P k
        go true d = f k (ltb-true k (length t.first) d)
        go false d =
            let q : length t.first ≤ k = ltb-false k (length t.first) d in
            let z : length t.first ≡ k = omega (arith, length-append t.first (i ∷ []), p, q) in
            subst P z g

    old_at : (k : ℕ) → k < length t.first → get_or t.first k free ≡ get_or firsts₁ k free
    old_at k p = sym (get_or-append t.first (i ∷ []) free k p)

    new_at : i ≡ get_or firsts₁ (length t.first) free
    new_at = sym (get_or_at t.first i [] free (length t.first) refl)

    -- a place by the name of a card
    abbrev Own : ℕ → ℕ → Type 0
    Own x k = place_of_name roles firsts₁ (name_no roles x) ≡ Some k

    own_old : (k : ℕ) → k < length t.first → Own (get_or t.first k free) k
    own_old k p =
        let name = name_no roles (get_or t.first k free) in
        place-put roles name t.first i n (ap name_of role)
        ∙ ap (λ (q : Option ℕ). or_place q (if_named (same n name) (length t.first))) (S.own k p)

    own_new : Own i (length t.first)
    own_new =
        ap (place_of_name roles firsts₁) (ap name_of role)
        ∙ place-put roles n t.first i n (ap name_of role)
        ∙ ap₂ (λ (q : Option ℕ) (b : Bool). or_place q (if_named b (length t.first))) e (same_self n)

    entry_new : EntryNo roles i
    entry_new = record { held = v; is = role ∙ ap (λ (m : List ℕ). entry m v) (sym (ap name_of role)) }

    -- a list with one number more, as the first cards have
    one_longer : (l : List ℕ) (x : ℕ) → length l ≡ length t.first → length (l ++ x ∷ []) ≡ length firsts₁
    one_longer l x e = omega (arith, e, length-append l (x ∷ []), length-append t.first (i ∷ []))

    sound_new : Sound roles (put_new t i)
    sound_new =
        record {
          alike = one_longer t.last i S.alike;
          counted = one_longer t.times 1 S.counted;
          own =
              split {P = λ (k : ℕ). Own (get_or firsts₁ k free) k}
              (λ k p. subst (λ (x : ℕ). Own x k) (old_at k p) (own_old k p))
              (subst (λ (x : ℕ). Own x (length t.first)) new_at own_new);
          entries =
              split {P = λ (k : ℕ). EntryNo roles (get_or firsts₁ k free)}
              (λ k p. subst (EntryNo roles) (old_at k p) (S.entries k p))
              (subst (EntryNo roles) new_at entry_new);
        }

    seen-new : (seen : List (List ℕ)) → Seen roles seen t → Seen roles (n ∷ seen) (put_new t i)
    unfolding is_among
    seen-new seen s =
        record {
          names =
              λ name.
              go name (same n name) (place_of_name roles t.first name) (s.names name)
              ∙ ap is_place (sym (place-put roles name t.first i n (ap name_of role)));
        }
      where
        go : (name : List ℕ) (b : Bool) (p : Option ℕ) → is_among name seen ≡ is_place p
            → cond b true (is_among name seen) ≡ is_place (or_place p (if_named b (length t.first)))
        go name true (Some j) h = refl
        go name true None h = refl
        go name false (Some j) h = h
        go name false None h = h

  module _ (n : List ℕ) (v : Held) (rs : List Role) (seen : List (List ℕ)) (k i : ℕ) (s : Seen roles seen t) where
    -- what is read off a table for a name, where this entry gives x
    abbrev Gives : {A : Type 0} → (List ℕ → A) → (List ℕ → A) → (List ℕ → A) → Type 0
    Gives then x was = (name : List ℕ) → then name ≡ cond (same n name) (x name) (was name)

    -- an entry that goes to place p, or behind the others
    on_entry_lem : (p : Option ℕ) → place_of_name roles t.first n ≡ p
        → Gives (last_in_table roles (put p i t)) (λ (name : List ℕ). Some i) (last_in_table roles t)
        → Gives (times_in_table roles (put p i t)) (λ (name : List ℕ). suc (times_in_table roles t name)) (times_in_table roles t)
        → sum_of (put p i t).times ≡ suc (sum_of t.times)
        → (seen₁ : List (List ℕ))
        → (put p i t).first ++ firsts_from seen₁ rs (suc i)
        ≡ t.first ++ cond (is_place p) (firsts_from seen rs (suc i)) (i ∷ firsts_from (n ∷ seen) rs (suc i))
        → Comes roles rs seen₁ k (suc i) (put p i t) → Comes roles (entry n v ∷ rs) seen (suc k) i t
    unfolding list_from last_from firsts_from times_borne entries_in
    on_entry_lem p e lasts bear sum seen₁ firsts r =
        record {
          u = r.u;
          is = ap (λ (q : Option ℕ). list_from roles (take k rs) (suc i) (put q i t)) e ∙ r.is;
          sound = r.sound;
          lasts = λ name. r.lasts name ∙ ap (last_from name rs (suc i)) (lasts name);
          bear =
              λ name.
              r.bear name
              ∙ ap (λ (x : ℕ). x + times_borne name rs) (bear name)
              ∙ one_beside (same n name) (times_in_table roles t name) (times_borne name rs);
          sum = omega (arith, r.sum, sum);
          firsts =
              r.firsts
              ∙ firsts
              ∙ ap (λ (b : Bool). t.first ++ cond b (firsts_from seen rs (suc i)) (i ∷ firsts_from (n ∷ seen) rs (suc i)))
              (sym (s.names n ∙ ap is_place e));
        }

    on_known : (j : ℕ) → place_of_name roles t.first n ≡ Some j → Comes roles rs seen k (suc i) (put_again t j i)
        → Comes roles (entry n v ∷ rs) seen (suc k) i t
    on_known j e =
        let read = read_known roles t.first in
        let one = suc (get_or t.times j 0) in
        on_entry_lem (Some j) e
        (read t.last S.alike free n i j e)
        (λ name. one_more roles t n (Some j) e name _ (read t.times S.counted 0 n one j e name))
        (sum_more t.times j (omega (arith, S.counted, hit_under roles n t.first j e)))
        seen refl

    on_new : name_no roles i ≡ n → place_of_name roles t.first n ≡ None
        → Comes roles rs (n ∷ seen) k (suc i) (put_new t i) → Comes roles (entry n v ∷ rs) seen (suc k) i t
    on_new is e =
        let read = read-new roles t.first in
        on_entry_lem None e
        (read t.last S.alike free n i i is e)
        (λ name. one_more roles t n None e name _ (read t.times S.counted 0 n 1 i is e name))
        (sum-put t.times)
        (n ∷ seen) (append_assoc t.first (i ∷ []) (firsts_from (n ∷ seen) rs (suc i)))

  module _ (rs : List Role) (seen : List (List ℕ)) (k i : ℕ) (r : Comes roles rs seen k (suc i) t) where
    on_more : (s : List ℕ) (c : Comment) → Comes roles (more s c ∷ rs) seen (suc k) i t
    unfolding list_from last_from firsts_from times_borne entries_in
    on_more s c = record { u = r.u; is = r.is; sound = r.sound; lasts = r.lasts; bear = r.bear; sum = r.sum; firsts = r.firsts }

    on_neutral : Comes roles (neutral ∷ rs) seen (suc k) i t
    unfolding list_from last_from firsts_from times_borne entries_in
    on_neutral = record { u = r.u; is = r.is; sound = r.sound; lasts = r.lasts; bear = r.bear; sum = r.sum; firsts = r.firsts }

  -- at END
  on_end : (rs : List Role) (seen : List (List ℕ)) (i : ℕ) → Comes roles (last ∷ rs) seen 0 i t
  unfolding list_from last_from firsts_from times_borne entries_in
  on_end rs seen i =
      record {
        u = t;
        is = refl;
        sound = S;
        lasts = λ name. refl;
        bear = λ name. omega arith;
        sum = omega arith;
        firsts = sym (append-nil t.first);
      }

pub comes : (roles : List Role) {k : ℕ} {rs : List Role} → Until k rs → (seen : List (List ℕ)) (i : ℕ) (t : Table) → drop i roles ≡ rs
    → Sound roles t → Seen roles seen t → Comes roles rs seen k i t
comes roles (here {rs}) seen i t at S s = on_end roles t S rs seen i
comes roles (past_entry n v {k} {rs} until) seen i t at S s =
    go (place_of_name roles t.first n) refl
    (λ (x : List (List ℕ)) (u : Table). comes roles until x (suc i) u (drop_next roles i rs (entry n v) at))
  where
    role : get_or roles i neutral ≡ entry n v
    role = role_first roles i (entry n v) rs at

    go : (p : Option ℕ) → place_of_name roles t.first n ≡ p
        → ((x : List (List ℕ)) (u : Table) → Sound roles u → Seen roles x u → Comes roles rs x k (suc i) u)
        → Comes roles (entry n v ∷ rs) seen (suc k) i t
    go (Some j) e then =
        let sound = sound_known roles t S j i in
        on_known roles t S n v rs seen k i s j e
        (then seen (put_again t j i) sound (record { names = s.names }))
    go None e then =
        let sound = sound_new roles t S n v i role e in
        on_new roles t S n v rs seen k i s (ap name_of role) e
        (then (n ∷ seen) (put_new t i) sound (seen-new roles t S n v i role e seen s))
comes roles (past_more x c {k} {rs} until) seen i t at S s =
    let next = comes roles until seen (suc i) t (drop_next roles i rs (more x c) at) S s in
    on_more roles t S rs seen k i next x c
comes roles (past_neutral {k} {rs} until) seen i t at S s =
    let next = comes roles until seen (suc i) t (drop_next roles i rs neutral at) S s in
    on_neutral roles t S rs seen k i next
