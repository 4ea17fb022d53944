-- Parts of a card stored one behind another.
use Prim.Native.Char.{code}
use Prim.Native.Nat.{ℕ, suc, ◌+◌, ◌-◌, ◌≤◌}
use native.Mathlib.Nat.{zero-add}
use native.Mathlib.Omega.{arith}
use mathlib.Core.Path.{◌≡◌, refl, sym, ap, ap₂, ◌∙◌}
use mathlib.Core.List.{List, [], ◌∷◌, ◌++◌, append_assoc}
use lib.ListN.{length, take, drop, length-append, length-replicate, length-take, length-drop}
use lib.Seq.{sets, sets-eq, take_all}
use Rattle.std.proofs.lemmas.Slice.{put_mid-paste}
use borrow.Rule.Slice.PartMut.{put_mid}
use Rattle.text.specs.Bytes.{ascii}
use Rattle.text.specs.Text.{filled}
use Rattle.text.proofs.Laying.{sets-append}
use Rattle.roles.specs.Roles.{Comment}
use Rattle.writing.specs.Pieces.{doubled, tail_of}
use Rattle.writing.specs.Written.{name_front}
use Rattle.writing.specs.Passes.{spaces, spaced, closed_by, body_of}

-- a list stored behind another, which ends at a place
pub sets_then : (d : List ℕ) (at : ℕ) {d₁ d₂ : List ℕ} {k : ℕ} (a b : List ℕ) → d₁ ≡ sets d at a → k ≡ at + length a
    → d₂ ≡ sets d₁ k b
    → d₂ ≡ sets d at (a ++ b)
sets_then d at a b e h f = f ∙ ap₂ (λ (l : List ℕ) (k : ℕ). sets l k b) e h ∙ sym (sets-append a b d at)

-- spaces that fill a part
pub spaces-put : (d ys : List ℕ) (from end : ℕ) → from ≤ end → end ≤ length d
    → ys ≡ spaces (length (take (end - from) (drop from d)))
    → put_mid from (end - from) d ys ≡ sets d from (spaces (end - from))
spaces-put d ys from end h k e =
    let n : length (take (end - from) (drop from d)) ≡ end - from =
    omega (arith, length-take (end - from) (drop from d), length-drop from d) in
    let long : length (spaces (end - from)) ≡ end - from = length-replicate (end - from) (code " ") in
    let all : ys ≡ spaces (end - from) = e ∙ ap spaces n in
    let there : from + length (spaces (end - from)) ≤ length d = omega (arith, long) in
    let whole : take (end - from) (spaces (end - from)) ≡ spaces (end - from) =
    take_all (end - from) (spaces (end - from)) (omega (arith, long)) in
    put_mid-paste from (end - from) d ys (spaces (end - from)) (end - from) all refl (sym long)
    ∙ rw (whole, sets-eq (spaces (end - from)) d from there, long)

-- a text and the spaces behind it
pub spaced-is : (n k : ℕ) (t : List ℕ) → k ≡ n - length t → t ++ spaces k ≡ spaced n t
unfolding filled
spaced-is n k t e = ap (λ (j : ℕ). t ++ spaces j) e

pub spaced-length : (n : ℕ) (t : List ℕ) → length t ≤ n → length (spaced n t) ≡ n
unfolding filled
spaced-length n t h = simp (length-append, length-replicate) (omega arith)

-- ---- a comment behind a value

pub tail_put : (d : List ℕ) (from end : ℕ) (c : List ℕ) {d₁ d₂ d₃ : List ℕ} → d₁ ≡ sets d from (ascii " /")
    → d₂ ≡ sets d₁ (from + 2) c → d₃ ≡ sets d₂ (from + 2 + length c) (spaces (end - (from + 2 + length c)))
    → d₃ ≡ sets d from (spaced (end - from) (code " " ∷ code "/" ∷ c))
tail_put d from end c e f g =
    let front : List ℕ = code " " ∷ code "/" ∷ [] in
    let k = end - (from + 2 + length c) in
    let there : from + 2 + length c ≡ from + suc (suc (length c)) = omega arith in
    let room : k ≡ end - from - suc (suc (length c)) = omega arith in
    sets_then d from (front ++ c) (spaces k) (sets_then d from front c e refl f) there g
    ∙ ap (sets d from) (spaced-is (end - from) k (front ++ c) room)

-- a name in front of a value
pub name-put : (d name : List ℕ) {d₁ d₂ d₃ : List ℕ} → length name ≤ 8 → d₁ ≡ sets d 0 name
    → d₂ ≡ sets d₁ (length name) (spaces (8 - length name)) → d₃ ≡ sets d₂ 8 (ascii "= ")
    → d₃ ≡ sets d 0 (name_front name)
unfolding name_front
name-put d name h e f g =
    let eight = sets_then d 0 name (spaces (8 - length name)) e (sym (zero-add (length name))) f
    ∙ ap (sets d 0) (spaced-is 8 (8 - length name) name refl) in
    let there : 8 ≡ 0 + length (spaced 8 name) = omega (arith, spaced-length 8 name h) in
    sets_then d 0 (spaced 8 name) (ascii "= ") eight there g

-- a quote, characters, what closes them, a comment and spaces
pub piece_put : (d : List ℕ) (at : ℕ) (t close : List ℕ) (c : Comment) {d₀ d₁ d₂ d₃ : List ℕ} {end : ℕ}
    → d₀ ≡ sets d at (ascii "'") → d₁ ≡ sets d₀ (at + 1) (doubled t) → end ≡ at + 1 + length (doubled t) → d₂ ≡ sets d₁ end close
    → d₃ ≡ sets d₂ (end + length close) (spaced (at + 70 - (end + length close)) (tail_of c))
    → d₃ ≡ sets d at (body_of (closed_by close t c))
unfolding filled
piece_put d at t close c {d₀} {d₁} {d₂} {d₃} {end} q e place f g =
    let quote : List ℕ = code "'" ∷ [] in
    let w = doubled t in
    let k = at + 70 - (end + length close) in
    let first : d₁ ≡ sets d at (quote ++ w) = sets_then d at quote w q refl e in
    let second : d₂ ≡ sets d at ((quote ++ w) ++ close) = sets_then d at (quote ++ w) close first (omega arith) f in
    let there : end + length close ≡ at + length ((quote ++ w) ++ close) = omega (arith, length-append (quote ++ w) close) in
    let long : length (code "'" ∷ (w ++ (close ++ tail_of c))) ≡ 1 + length w + length close + length (tail_of c) =
    omega (arith, length-append w (close ++ tail_of c), length-append close (tail_of c)) in
    let room : k - length (tail_of c) ≡ 70 - length (code "'" ∷ (w ++ (close ++ tail_of c))) = omega (arith, long) in
    let regroup : ((quote ++ w) ++ close) ++ (tail_of c ++ spaces (k - length (tail_of c)))
    ≡ (quote ++ (w ++ (close ++ tail_of c))) ++ spaces (k - length (tail_of c)) = simp append_assoc in
    sets_then d at ((quote ++ w) ++ close) (spaced k (tail_of c)) second there g
    ∙ ap (sets d at) (regroup ∙ ap (λ (n : ℕ). (quote ++ (w ++ (close ++ tail_of c))) ++ spaces n) room)
