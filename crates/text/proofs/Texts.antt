-- Texts in arrays, a byte at a time, over the array's size.
use Prim.Native.Nat.{ℕ, zero, suc, ◌+◌, ◌-◌, ◌<◌, ◌≤◌}
use native.Mathlib.Nat.{sub-zero}
use native.Mathlib.Numerals.{add-one}
use native.Mathlib.Omega.{arith}
use mathlib.Core.Path.{◌≡◌, refl, sym, ap, ◌∙◌}
use mathlib.Core.List.{List, [], ◌∷◌, ◌++◌, append_assoc, append-nil, map}
use lib.ListN.{length, set, take, get_or, replicate, length-append, length-map, length-take}
use Rattle.std.proofs.lemmas.List.{map-append}
use lib.Seq.{sets, set-append_seam, length-take-le, take-suc, take_all, take-append_seam}
use Rattle.text.specs.declared.Text.{Text}
use Rattle.text.specs.Text.{size, filled, padded, text_of, bytes_of}

-- one byte more
pub length-put : (v : List ℕ) (b : ℕ) → length (v ++ b ∷ []) ≡ length v + 1
length-put v b = length-append v (b ∷ [])

-- an array of marks alone
pub filled_none : (mark n : ℕ) → replicate n mark ≡ filled mark n []
unfolding filled
filled_none mark n = rw sub-zero

-- an array of zeros is the text of no bytes
pub padded-none : (n : ℕ) → replicate n 0 ≡ padded n []
padded-none n = filled_none 0 n

-- a number put behind the others takes the place of the first mark
pub filled_put : (mark n : ℕ) (v : List ℕ) (b : ℕ) → length v < n
    → set (filled mark n v) (length v) b ≡ filled mark n (v ++ b ∷ [])
unfolding filled
filled_put mark n v b h =
    let room : n - length v ≡ suc (n - (length v + 1)) = omega arith in
    ap (λ (k : ℕ). set (v ++ replicate k mark) (length v) b) room
    ∙ set-append_seam v mark (replicate (n - (length v + 1)) mark) b
    ∙ sym (append_assoc v (b ∷ []) (replicate (n - (length v + 1)) mark))
    ∙ ap (λ (k : ℕ). (v ++ b ∷ []) ++ replicate (n - k) mark) (sym (length-put v b))

-- a byte put behind the text takes the place of the first zero
pub padded-put : (n : ℕ) (v : List ℕ) (b : ℕ) → length v < n → set (padded n v) (length v) b ≡ padded n (v ++ b ∷ [])
padded-put n v b h = filled_put 0 n v b h

-- a list copied into an array, a byte at a time, each changed by f
pub changed_step : (f : ℕ → ℕ) (s : List ℕ) (n i : ℕ) → i < length s → length s ≤ n
    → set (padded n (map f (take i s))) i (f (get_or s i 0)) ≡ padded n (map f (take (i + 1) s))
changed_step f s n i h small =
    let long : length (map f (take i s)) ≡ i = length-map (take i s) f ∙ length-take-le i s (omega arith) in
    ap (λ (k : ℕ). set (padded n (map f (take i s))) k (f (get_or s i 0))) (sym long)
    ∙ padded-put n (map f (take i s)) (f (get_or s i 0)) (omega arith)
    ∙ ap (padded n) (rw (add-one, take-suc s i 0 h, map-append))

-- a text in an array holds its bytes
pub bytes-text : (v : List ℕ) → bytes_of (text_of v) ≡ v
unfolding filled
bytes-text v = take-append_seam v _

-- a list that fits is copied whole
pub whole-text : (w : List ℕ) → length w ≤ size → text_of (take size w) ≡ text_of w
whole-text w h = ap text_of (take_all size w h)

-- and so is one of which each byte is changed
pub whole_changed : (f : ℕ → ℕ) (w : List ℕ) → length w ≤ size → text_of (map f (take size w)) ≡ text_of (map f w)
whole_changed f w h = ap (λ (l : List ℕ). text_of (map f l)) (take_all size w h)

-- the bytes that a text holds are within its array
pub bytes_fit : (t : Text) → length t.bytes ≡ size → length (bytes_of t) ≤ size
bytes_fit t e = omega (arith, length-take t.len t.bytes)

-- a list stored behind another that stands in the array already
pub padded-behind : (n : ℕ) (a b : List ℕ) → length a + length b ≤ n → sets (padded n a) (length a) b ≡ padded n (a ++ b)
padded-behind n a [] h = ap (padded n) (sym (append-nil a))
padded-behind n a (x ∷ b) h =
    let long : length (a ++ x ∷ []) ≡ suc (length a) = length-append a (x ∷ []) ∙ add-one (length a) in
    ap (λ (l : List ℕ). sets l (suc (length a)) b) (padded-put n a x (omega arith))
    ∙ ap (λ (k : ℕ). sets (padded n (a ++ x ∷ [])) k b) (sym long)
    ∙ padded-behind n (a ++ x ∷ []) b (omega arith)
    ∙ ap (padded n) (append_assoc a (x ∷ []) b)

pub text-behind : {t : Text} {bytes r : List ℕ} (u v : List ℕ) → t ≡ text_of u → r ≡ v → length u + length v ≤ size
    → bytes ≡ sets t.bytes t.len r → ◌≡◌ {A = Text} (record { bytes = bytes; len = t.len + length r }) (text_of (u ++ v))
text-behind u v p q h e =
    let array = e ∙ (λ j. sets (p j).bytes (p j).len (q j)) ∙ padded-behind size u v h in
    let long = (λ j. (p j).len + length (q j)) ∙ sym (length-append u v) in
    λ j. record { bytes = array j; len = long j }

-- as many bytes of the second list as there is room for behind the first
pub take_both : (n : ℕ) (a b : List ℕ) → take n (a ++ b) ≡ take n a ++ take (n - length (take n a)) b
take_both zero a b = refl
take_both (suc n) [] b = sym (ap (λ (k : ℕ). take k b) (sub-zero (suc n)))
take_both (suc n) (x ∷ a) b =
    let same : n - length (take n a) ≡ suc n - suc (length (take n a)) = omega arith in
    ap (λ (l : List ℕ). x ∷ l) (take_both n a b ∙ ap (λ (k : ℕ). take n a ++ take k b) same)

-- a text that was made of v holds v
pub text-bytes : {t : Text} (v : List ℕ) → t ≡ text_of v → bytes_of t ≡ v
text-bytes v e = ap bytes_of e ∙ bytes-text v
