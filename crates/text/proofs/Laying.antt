-- A list stored over another, element by element from a place on.
use Prim.Native.Nat.{ℕ, zero, suc, ◌+◌, ◌-◌, ◌≤◌}
use native.Mathlib.Nat.{add-zero, zero-add, le_of_eq}
use native.Mathlib.Omega.{arith}
use mathlib.Core.Path.{◌≡◌, refl, sym, ap, ap₂, ◌∙◌}
use mathlib.Core.List.{List, [], ◌∷◌, ◌++◌, append-nil, append_assoc}
use lib.ListN.{length, take, drop, set, length-set, length-append, drop_of_length-le}
use borrow.Rule.Slice.PartMut.{put_mid}
use lib.Seq.{drop-drop, sets, sets-eq, set_out, take_at, length-take-le}

-- past the end nothing is stored
pub sets_past : (s d : List ℕ) (at : ℕ) → length d ≤ at → sets d at s ≡ d
sets_past [] d at h = refl
sets_past (b ∷ s) d at h = ap (λ (l : List ℕ). sets l (suc at) s) (set_out d at b h) ∙ sets_past s d (suc at) (omega arith)

-- so of a list no more counts than there is room for
pub sets-room : (s d : List ℕ) (at n : ℕ) → length d ≤ at + n → sets d at (take n s) ≡ sets d at s
sets-room s d at zero h = sym (sets_past s d at (omega arith))
sets-room [] d at (suc n) h = refl
sets-room (b ∷ s) d at (suc n) h = sets-room s (set d at b) (suc at) n (omega (arith, length-set d at b))

-- two lists, one behind the other
pub sets-append : (a b d : List ℕ) (at : ℕ) → sets d at (a ++ b) ≡ sets (sets d at a) (at + length a) b
sets-append [] b d at = sym (ap (λ (k : ℕ). sets d k b) (add-zero at))
sets-append (x ∷ a) b d at =
    let next : suc at + length a ≡ at + suc (length a) = omega arith in
    sets-append a b (set d at x) (suc at) ∙ ap (λ (k : ℕ). sets (sets (set d at x) (suc at) a) k b) next

-- a list stored behind another, which ends at a place
pub sets_behind : (d a s : List ℕ) {d₁ d₂ : List ℕ} {at : ℕ} → d₁ ≡ sets d 0 a → at ≡ length a → d₂ ≡ sets d₁ at s
    → d₂ ≡ sets d 0 (a ++ s)
sets_behind d a s e h f =
    f ∙ ap₂ (λ (l : List ℕ) (k : ℕ). sets l k s) e (h ∙ sym (zero-add (length a))) ∙ sym (sets-append a s d 0)

-- a part that is overwritten
pub stored_part : (s d : List ℕ) (at : ℕ) → at + length s ≤ length d → put_mid at (at + length s - at) d s ≡ sets d at s
stored_part s d at h =
    let long : at + length s - at ≡ length s = omega arith in
    rw (long, drop-drop, ← append_assoc) (sym (sets-eq s d at h))

-- stored at the front
pub sets-front : (s d : List ℕ) → length s ≤ length d → sets d 0 s ≡ s ++ drop (length s) d
sets-front s d h = sets-eq s d 0 (omega arith) ∙ ap (λ (k : ℕ). s ++ drop k d) (zero-add (length s))

-- a list of the same length leaves nothing of the other
pub sets_all : (s d : List ℕ) → length s ≡ length d → sets d 0 s ≡ s
sets_all s d e = sets-front s d (le_of_eq e) ∙ ap (λ (l : List ℕ). s ++ l) (drop_of_length-le d (le_of_eq (sym e))) ∙ append-nil s

-- the front up to the end of what is stored
pub take-sets : (s d : List ℕ) (at : ℕ) → at + length s ≤ length d → take (at + length s) (sets d at s) ≡ take at d ++ s
take-sets s d at h =
    let front : length (take at d ++ s) ≡ at + length s =
    length-append (take at d) s ∙ ap (λ (k : ℕ). k + length s) (length-take-le at d (omega arith)) in
    ap (take (at + length s)) (sets-eq s d at h) ∙ take_at (take at d ++ s) (drop (at + length s) d) (at + length s) front
