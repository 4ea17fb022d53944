-- Lists of which every member has a property.
use Prim.Native.Nat.{ℕ, zero, suc, ◌<◌}
use native.Mathlib.Nat.{le_of_suc-le-suc, not-suc-le-zero}
use mathlib.Core.List.{List, [], ◌∷◌, map}
use lib.ListN.{length, get_or}

pub data All {A : Type 0} (P : A → Type 0) : List A → Type 0 where
  no_more : All P []
  also : {x : A} {l : List A} → P x → All P l → All P (x ∷ l)

module _ {A : Type 0} (P : A → Type 0) where
  pub all_map : {B : Type 0} (Q : B → Type 0) (f : A → B) → ((x : A) → P x → Q (f x)) → {l : List A} → All P l
      → All Q (map f l)
  all_map Q f g no_more = no_more
  all_map Q f g (also {x} h u) = also (g x h) (all_map Q f g u)

  -- the member at a place
  pub all_at : (d : A) {l : List A} → All P l → (p : ℕ) → p < length l → P (get_or l p d)
  all_at d no_more p h = absurd (not-suc-le-zero h)
  all_at d (also h u) zero less = h
  all_at d (also h u) (suc p) less = all_at d u p (le_of_suc-le-suc less)
