-- The arrays of a listing have all places: there are no more names than cards.
use Rattle.std.specs.Prelude.{Err, None, Ok, Option, Result, Some}
use Prim.Native.Nat.{ℕ, suc, ◌+◌, ◌≤◌}
use native.Mathlib.Omega.{arith}
use mathlib.Core.Path.{◌≡◌, refl}
use mathlib.Core.List.{List, [], ◌∷◌}
use lib.ListN.{length, take, get_or, length-set, length-take}
use Rattle.text.proofs.Texts.{length-put}
use Rattle.roles.specs.Roles.{Role, entry, more, neutral, last as end-card, refused}
use Rattle.roles.specs.Cards.{roles_of}
use Rattle.roles.proofs.Cards.{role_count}
use Rattle.roles.proofs.Counting.{good_cards}
use Rattle.finding.specs.Finding.{header_of}
use Rattle.entries.proofs.Looking.{accepted_good}
use Rattle.listing.specs.declared.Listing.{Listing}
use Rattle.listing.specs.Listing.{places, free, Table, empty, place_in, put, put_role, list_from, tabled, by_header, list_of}
use Rattle.listing.proofs.Placing.{length-filled}
use Rattle.finding.specs.declared.Stop.{Stop}

-- a table of at most n names
record Small (n : ℕ) (t : Table) : Type 0 where
  pub first : length t.first ≤ n
  pub last : length t.last ≤ n
  pub times : length t.times ≤ n

small_more : {n : ℕ} {t : Table} (m : ℕ) → n ≤ m → Small n t → Small m t
small_more m h s = record { first = omega (arith, s.first); last = omega (arith, s.last); times = omega (arith, s.times) }

small_put : (p : Option ℕ) (i : ℕ) {n : ℕ} {t : Table} → Small n t → Small (suc n) (put p i t)
small_put (Some k) i {t = t} s =
    record {
      first = omega (arith, s.first);
      last = omega (arith, s.last, length-set t.last k i);
      times = omega (arith, s.times, length-set t.times k (suc (get_or t.times k 0)));
    }
small_put None i {t = t} s =
    record {
      first = omega (arith, s.first, length-put t.first i);
      last = omega (arith, s.last, length-put t.last i);
      times = omega (arith, s.times, length-put t.times 1);
    }

-- a card adds at most one name
small_role : (roles : List Role) (r : Role) (i : ℕ) {n : ℕ} {t : Table} → Small n t → Small (suc n) (put_role roles r i t)
small_role roles (entry name v) i {t = t} s = small_put (place_in roles name t.first 0) i s
small_role roles (more w c) i {n} s = small_more (suc n) (omega arith) s
small_role roles neutral i {n} s = small_more (suc n) (omega arith) s
small_role roles end-card i {n} s = small_more (suc n) (omega arith) s
small_role roles (refused f) i {n} s = small_more (suc n) (omega arith) s

small_from : (roles rs : List Role) (i n m : ℕ) (t : Table) → n + length rs ≤ m → Small n t → Small m (list_from roles rs i t)
unfolding list_from
small_from roles [] i n m t h s = small_more m (omega arith) s
small_from roles (r ∷ rs) i n m t h s =
    small_from roles rs (suc i) (suc n) m (put_role roles r i t) (omega arith) (small_role roles r i s)

-- each array has all places, and there are no more names
pub record AllPlaces (x : Listing) : Type 0 where
  pub first : length x.first ≡ places
  pub last : length x.last ≡ places
  pub times : length x.times ≡ places
  pub few : x.count ≤ places

all_in : (x : Result ℕ Stop) (t : Table) → Small places t → AllPlaces (tabled x t)
all_in x t s =
    record {
      first = length-filled free places t.first s.first;
      last = length-filled free places t.last s.last;
      times = length-filled 0 places t.times s.times;
      few = s.first;
    }

none : (m : ℕ) → Small m empty
none m = record { first = omega arith; last = omega arith; times = omega arith }

pub all_places : (h : List ℕ) → AllPlaces (list_of h)
unfolding list_of
all_places h = go (header_of h) refl
  where
    go : (x : Result ℕ Stop) → header_of h ≡ x → AllPlaces (by_header x (roles_of h))
    go (Ok end) e =
        let fits : 0 + length (take end (roles_of h)) ≤ places =
        omega (arith, length-take end (roles_of h), role_count h, good_cards (length h) (accepted_good h end e)) in
        all_in (Ok end) _ (small_from (roles_of h) (take end (roles_of h)) 0 0 places empty fits (none 0))
    go (Err s) e = all_in (Err s) empty (none places)
