-- Words of bytes, and keys of names: names without high bytes that have one key are one.
use Prim.Native.Nat.{ℕ, zero, suc, ◌+◌, ◌-◌, ◌*◌, ◌%◌, ◌^◌, ◌<◌, ◌≤◌}
use native.Mathlib.Omega.{arith}
use mathlib.Core.Path.{◌≡◌, refl, sym, ap, ap₂, ◌∙◌}
use mathlib.Core.Bool.{Bool, true, false}
use mathlib.Core.List.{List, [], ◌∷◌, ◌++◌}
use lib.ListN.{length, take, drop, get_or, set, length-drop, take-append-drop, drop_of_length-le}
use lib.Seq.{sets, drop-drop}
use Rattle.text.specs.Same.{same}
use Rattle.text.proofs.Trimming.{at_next}
use Rattle.text.proofs.Comparing.{same_self, same_eq}
use Rattle.listing.specs.Keys.{bytes_of_word, words_of_key, word_of, first_words, key_of}
use Rattle.listing.proofs.Lows.{Low, low_first, low_take, low_drop}

-- ---- a word, a byte at a time
word_under : (s : List ℕ) (n : ℕ) → length s ≤ n → word_of s < 129 ^ n
unfolding word_of
word_under [] zero h = omega arith
word_under [] (suc n) h = let more : 0 < 129 ^ n = word_under [] n (omega arith) in omega arith
word_under (b ∷ s) zero h = absurd (omega arith)
word_under (b ∷ s) (suc n) h = let more = word_under s n (omega arith) in omega arith

pub word_fits : (s : List ℕ) → length s ≤ bytes_of_word → word_of s < 129 ^ 9
word_fits s h = word_under s 9 h

pub word_none : (s : List ℕ) → 0 ≡ word_of (drop (length s) s)
unfolding word_of
word_none s = let all : length s ≤ length s = omega arith in rw (drop_of_length-le s all)

word_next : (s : List ℕ) (k : ℕ) → k < length s → word_of (drop (k + 1) s) * 129 + get_or s k 0 % 128 + 1 ≡ word_of (drop k s)
unfolding word_of
word_next s k h = rw (at_next s k h)

pub word_back : (s : List ℕ) (k word : ℕ) → 0 < k → k ≤ length s → word ≡ word_of (drop k s)
    → word * 129 + get_or s (k - 1) 0 % 128 + 1 ≡ word_of (drop (k - 1) s)
word_back s k word some h e =
    let here : k ≡ k - 1 + 1 = omega arith in
    ap (λ (w : ℕ). w * 129 + get_or s (k - 1) 0 % 128 + 1) (e ∙ ap (λ (n : ℕ). word_of (drop n s)) here)
    ∙ word_next s (k - 1) (omega arith)

-- ---- a key, a word at a time
module _ (name d : List ℕ) (at q : ℕ) where
  pub key_next : q < words_of_key
      → sets (set d (at + q) (word_of (take 9 (drop (q * 9) name)))) (at + (q + 1)) (first_words (9 - (q + 1)) (drop ((q + 1) * 9) name))
      ≡ sets d (at + q) (first_words (9 - q) (drop (q * 9) name))
  unfolding first_words
  key_next h =
      let w = word_of (take 9 (drop (q * 9) name)) in
      let next : at + (q + 1) ≡ suc (at + q) = omega arith in
      let one : suc (9 - (q + 1)) ≡ 9 - q = omega arith in
      let bytes : (q + 1) * 9 ≡ q * 9 + 9 = omega arith in
      let later : drop ((q + 1) * 9) name ≡ drop 9 (drop (q * 9) name) =
      ap (λ (n : ℕ). drop n name) bytes ∙ sym (drop-drop 9 (q * 9) name) in
      ap₂ (λ (k : ℕ) (l : List ℕ). sets (set d (at + q) w) k (first_words (9 - (q + 1)) l)) next later
      ∙ ap (λ (n : ℕ). sets d (at + q) (first_words n (drop (q * 9) name))) one

  pub key-end : q ≤ words_of_key → words_of_key ≤ q → sets d (at + q) (first_words (9 - q) (drop (q * 9) name)) ≡ d
  unfolding first_words
  key-end h k =
      let none : 9 - q ≡ 0 = omega arith in
      ap (λ (n : ℕ). sets d (at + q) (first_words n (drop (q * 9) name))) none

-- ---- the words tell the bytes
word_tells : (s t : List ℕ) → Low s → Low t → word_of s ≡ word_of t → s ≡ t
unfolding word_of
word_tells [] [] p q e = refl
word_tells [] (b ∷ t) p q e = absurd (omega arith)
word_tells (a ∷ s) [] p q e = absurd (omega arith)
word_tells (a ∷ s) (b ∷ t) p q e =
    let l = low_first a s p in
    let m = low_first b t q in
    ap₂ ◌∷◌ (let one : a ≡ b = omega arith in one) (word_tells s t l.1 m.1 (omega arith))

words_tell : (n : ℕ) (s t : List ℕ) → length s ≤ n * bytes_of_word → length t ≤ n * bytes_of_word → Low s → Low t
    → first_words n s ≡ first_words n t → s ≡ t
unfolding first_words
words_tell zero [] [] h k p q e = refl
words_tell zero [] (b ∷ t) h k p q e = absurd (omega arith)
words_tell zero (a ∷ s) t h k p q e = absurd (omega arith)
words_tell (suc n) s t h k p q e =
    let first : take 9 s ≡ take 9 t = word_tells (take 9 s) (take 9 t) (low_take 9 s p) (low_take 9 t q) cc in
    let others : drop 9 s ≡ drop 9 t =
    words_tell n (drop 9 s) (drop 9 t) (omega (arith, length-drop 9 s)) (omega (arith, length-drop 9 t))
    (low_drop 9 s p) (low_drop 9 t q) cc in
    sym (take-append-drop 9 s) ∙ ap₂ ◌++◌ first others ∙ take-append-drop 9 t

length-words : (n : ℕ) (s : List ℕ) → length (first_words n s) ≡ n
unfolding first_words
length-words zero s = refl
length-words (suc n) s = ap suc (length-words n (drop 9 s))

pub length-key : (s : List ℕ) → length (key_of s) ≡ words_of_key
length-key s = length-words 9 s

pub same_key : (s t : List ℕ) → length s ≤ 80 → length t ≤ 80 → Low s → Low t → same (key_of s) (key_of t) ≡ same s t
same_key s t h k p q = go (same (key_of s) (key_of t)) refl (same s t) refl
  where
    go : (x : Bool) → same (key_of s) (key_of t) ≡ x → (y : Bool) → same s t ≡ y → x ≡ y
    go true d true e = refl
    go true d false e =
        let one = words_tell 9 s t (omega arith) (omega arith) p q (same_eq (key_of s) (key_of t) d) in
        sym (same_self s) ∙ ap (same s) one ∙ e
    go false d true e =
        let one = same_eq s t e in
        sym d ∙ ap (λ (l : List ℕ). same (key_of s) (key_of l)) (sym one) ∙ same_self (key_of s)
    go false d false e = refl
