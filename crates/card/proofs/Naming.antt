-- The name of a HIERARCH card, a byte at a time.
use Prim.Native.Nat.{ℕ, zero, suc, ◌+◌, ◌<◌, ◌≤◌}
use Prim.Native.Char.{code}
use native.Mathlib.Omega.{arith}
use mathlib.Core.Path.{◌≡◌, refl, sym, ap, subst, ◌∙◌}
use mathlib.Core.Bool.{Bool, true, false, true≢false}
use mathlib.Core.List.{List, [], ◌∷◌, ◌++◌, append_assoc, append-nil}
use borrow.Author.Tests.{lt-ltb, ltb-true}
use lib.Dec.{ltb}
use lib.ListN.{length, drop, get_or, set, drop_of_length-le}
use Rattle.text.specs.declared.Text.{Text}
use Rattle.text.specs.Bytes.{is_blank}
use Rattle.text.specs.Text.{size, padded, text_of}
use Rattle.text.proofs.Trimming.{at_next}
use Rattle.text.proofs.Texts.{padded-put, length-put}
use Rattle.card.specs.Keywords.{onto, name_pieces, stop_and, join_pieces, dotted_name}

-- what follows within a piece: the rest of it, and the pieces after it
abbrev onward : List (List ℕ) → List ℕ
onward [] = []
onward (p ∷ ps) = p ++ stop_and (join_pieces ps)

-- what is still to be put, where n bytes were put and a gap follows them or not
abbrev rest : Bool → ℕ → List ℕ → List ℕ
rest true n s = stop_and (join_pieces (name_pieces s))
rest false zero s = join_pieces (name_pieces s)
rest false (suc n) s = onward (name_pieces s)

-- ---- one byte
join_onto : (b : ℕ) (ps : List (List ℕ)) → join_pieces (onto b ps) ≡ b ∷ onward ps
unfolding join_pieces
join_onto b [] = refl
join_onto b (p ∷ ps) = refl

onward-onto : (b : ℕ) (ps : List (List ℕ)) → onward (onto b ps) ≡ b ∷ onward ps
unfolding join_pieces
onward-onto b [] = refl
onward-onto b (p ∷ ps) = refl

module _ (b : ℕ) (s : List ℕ) where
  -- a blank opens a gap behind what was put
  blank_next : (gap : Bool) (n : ℕ) → (gap ≡ true → 0 < n) → is_blank b ≡ true → rest (ltb 0 n) n s ≡ rest gap n (b ∷ s)
  unfolding name_pieces join_pieces
  blank_next true zero some e = absurd (let h : 0 < 0 = some refl in omega arith)
  blank_next true (suc n) some e = rw (lt-ltb 0 (suc n) (omega arith), e)
  blank_next false zero some e = rw e
  blank_next false (suc n) some e = rw (lt-ltb 0 (suc n) (omega arith), e)

  -- any other byte is put, behind a full stop where there is a gap
  stop_next : (n : ℕ) → is_blank b ≡ false → rest true n (b ∷ s) ≡ code "." ∷ b ∷ onward (name_pieces s)
  unfolding name_pieces
  stop_next n e = rw (e, join_onto b (name_pieces s))

  plain_next : (n : ℕ) → is_blank b ≡ false → rest false n (b ∷ s) ≡ b ∷ onward (name_pieces s)
  unfolding name_pieces
  plain_next zero e = rw (e, join_onto b (name_pieces s))
  plain_next (suc n) e = rw (e, onward-onto b (name_pieces s))

abbrev spare : Bool → ℕ
spare true = 1
spare false = 0

-- ---- where the loop stands
pub record Named (s bytes : List ℕ) (n : ℕ) (gap : Bool) (i : ℕ) : Type 0 where
  pub v : List ℕ
  pub within : i ≤ length s
  pub fewer : length v + spare gap ≤ i
  pub some : gap ≡ true → 0 < n
  pub held : bytes ≡ padded size v
  pub count : n ≡ length v
  pub left : v ++ rest gap n (drop i s) ≡ dotted_name s

pub start : (s bytes : List ℕ) → bytes ≡ padded size [] → Named s bytes 0 false 0
start s bytes e =
    let none : false ≡ true → 0 < 0 = λ u. absurd (true≢false (sym u)) in
    record { v = []; within = omega arith; fewer = omega arith; some = none; held = e; count = refl; left = refl }

module _ {s bytes : List ℕ} {n : ℕ} {gap : Bool} {i : ℕ} (N : Named s bytes n gap i) where
  pub at_end : length s ≤ i → ◌≡◌ {A = Text} (record { bytes = bytes; len = n }) (text_of (dotted_name s))
  unfolding name_pieces join_pieces
  at_end h =
      let ends = sym (drop_of_length-le s h) in
      let all : N.v ≡ dotted_name s = sym (nothing gap n) ∙ ap (λ (t : List ℕ). N.v ++ rest gap n t) ends ∙ N.left in
      (λ j. record { bytes = N.held j; len = N.count j }) ∙ ap text_of all
    where
      nothing : (gap : Bool) (n : ℕ) → N.v ++ rest gap n [] ≡ N.v
      nothing true n = append-nil N.v
      nothing false zero = append-nil N.v
      nothing false (suc n) = append-nil N.v

  -- there is room for a full stop and a byte
  pub room : gap ≡ true → n + 1 ≤ i
  room e = let h : length N.v + 1 ≤ i = subst (λ (g : Bool). length N.v + spare g ≤ i) e N.fewer in omega (arith, N.count)

  pub room-one : n ≤ i
  room-one = omega (arith, N.count, N.fewer)

  module _ (more : i < length s) where
    -- what follows the byte at i within its piece
    abbrev later : List ℕ
    later = onward (name_pieces (drop (i + 1) s))

    -- what is still to be put at i, by whether a gap stands there
    abbrev behind : Bool → List ℕ
    behind x = rest x n (get_or s i 0 ∷ drop (i + 1) s)

    next : rest gap n (drop i s) ≡ rest gap n (get_or s i 0 ∷ drop (i + 1) s)
    next = ap (rest gap n) (at_next s i more)

    pub on_blank : is_blank (get_or s i 0) ≡ true → Named s bytes n (ltb 0 n) (i + 1)
    on_blank e =
        record {
          v = N.v;
          within = omega arith;
          fewer = spared (ltb 0 n);
          some = λ u. ltb-true 0 n u;
          held = N.held;
          count = N.count;
          left = ap (λ (t : List ℕ). N.v ++ t) (blank_next _ (drop (i + 1) s) gap n N.some e ∙ sym next) ∙ N.left;
        }
      where
        spared : (g : Bool) → length N.v + spare g ≤ i + 1
        spared true = omega (arith, N.fewer)
        spared false = omega (arith, N.fewer)

    pub on_stop : gap ≡ true → is_blank (get_or s i 0) ≡ false → length s ≤ size
        → Named s (set (set bytes n (code ".")) (n + 1) (get_or s i 0)) (n + 1 + 1) false (i + 1)
    on_stop g e small =
        let b = get_or s i 0 in
        let w = N.v ++ code "." ∷ [] in
        let here : length N.v + 1 ≤ i = subst (λ (x : Bool). length N.v + spare x ≤ i) g N.fewer in
        let long : length w ≡ length N.v + 1 = length-put N.v (code ".") in
        let longer : length (w ++ b ∷ []) ≡ length w + 1 = length-put w b in
        let at_n : n + 1 ≡ length w = omega (arith, N.count) in
        let stopped : set bytes n (code ".") ≡ padded size w = rw (N.held, N.count) (padded-put size N.v (code ".") (omega arith)) in
        record {
          v = w ++ b ∷ [];
          within = omega arith;
          fewer = omega arith;
          some = λ u. absurd (true≢false (sym u));
          held =
              ap (λ (k : ℕ). set (set bytes n (code ".")) k b) at_n
              ∙ ap (λ (l : List ℕ). set l (length w) b) stopped
              ∙ padded-put size w b (omega arith);
          count = omega (arith, N.count);
          left =
              ap (λ (k : ℕ). (w ++ b ∷ []) ++ rest false k (drop (i + 1) s)) (let k : n + 1 + 1 ≡ suc (n + 1) = omega arith in k)
              ∙ append_assoc w (b ∷ []) later
              ∙ append_assoc N.v (code "." ∷ []) (b ∷ later)
              ∙ ap (λ (t : List ℕ). N.v ++ t) (sym (next ∙ ap behind g ∙ stop_next b (drop (i + 1) s) n e))
              ∙ N.left;
        }

    pub on_plain : gap ≡ false → is_blank (get_or s i 0) ≡ false → length s ≤ size
        → Named s (set bytes n (get_or s i 0)) (n + 1) gap (i + 1)
    on_plain g e small =
        let b = get_or s i 0 in
        let long : length (N.v ++ b ∷ []) ≡ length N.v + 1 = length-put N.v b in
        subst (λ (x : Bool). Named s (set bytes n b) (n + 1) x (i + 1)) (sym g)
        (record {
          v = N.v ++ b ∷ [];
          within = omega arith;
          fewer = omega (arith, N.fewer);
          some = λ u. absurd (true≢false (sym u));
          held = rw (N.held, N.count) (padded-put size N.v b (omega (arith, N.fewer)));
          count = omega (arith, N.count);
          left =
              ap (λ (k : ℕ). (N.v ++ b ∷ []) ++ rest false k (drop (i + 1) s)) (let k : n + 1 ≡ suc n = omega arith in k)
              ∙ append_assoc N.v (b ∷ []) later
              ∙ ap (λ (t : List ℕ). N.v ++ t) (sym (next ∙ ap behind g ∙ plain_next b (drop (i + 1) s) n e))
              ∙ N.left;
        })
