-- A text of printable bytes that is its own value text, a byte at a time.
use Rattle.std.specs.Prelude.{None, Option, Some}
use Prim.Native.Nat.{ℕ, suc, ◌+◌, ◌<◌, ◌≤◌}
use Prim.Native.Char.{code}
use native.Mathlib.Numerals.{add-one}
use native.Mathlib.Omega.{arith}
use mathlib.Core.Path.{◌≡◌, refl, sym, ap, subst, ◌∙◌}
use mathlib.Core.Bool.{Bool, true, false, cond}
use mathlib.Core.List.{List, [], ◌∷◌, ◌++◌, append_assoc, append-nil, head-eq_of_cons-eq, tail-eq_of_cons-eq}
use borrow.Author.Tests.{eqb-true, eqb-false}
use lib.Dec.{eqb}
use lib.ListN.{length, take, drop, get_or, drop_of_length-le, length-drop}
use lib.Seq.{take-suc, take_all, drop-cons}
use Rattle.splitting.specs.declared.Quoting.{Quoting}
use Rattle.splitting.specs.declared.Quoting.TheVariants.{Outside, Inside, Closed}
use Rattle.splitting.specs.declared.Slash.TheVariants.{At, Nowhere}
use Rattle.text.specs.Bytes.{are_printable, shown}
use Rattle.text.specs.Place.{place_from, place_of}
use Rattle.text.proofs.Printing.{printable_at}
use Rattle.splitting.specs.Scan.{byte_class, ends, puts, move, put_before, after, scan_from}
use Rattle.splitting.specs.Scanned.{Passed}
use Rattle.splitting.proofs.Scanning.{moved, class_quote, inside-other}

pub begin : (s : List ℕ) → Passed s Outside 0
begin s = record { within = omega arith; left = refl }

module _ {s : List ℕ} {q : Quoting} {i : ℕ} (P : Passed s q i) where
  pub at_end : length s ≤ i → scan_from Outside s 0 ≡ record { place = Nowhere; value = s }
  unfolding scan_from
  at_end h =
      sym P.left
      ∙ ap (λ (l : List ℕ). put_before (take i s) (scan_from q l i)) (drop_of_length-le s h)
      ∙ ap (λ (v : List ℕ). record { place = Nowhere; value = v }) (append-nil (take i s) ∙ take_all i s h)

  module _ (more : i < length s) where
    pub at_slash : move q (byte_class (get_or s i 0)) ≡ ends → scan_from Outside s 0 ≡ record { place = At i; value = take i s }
    unfolding after
    at_slash e =
        sym P.left
        ∙ ap (put_before (take i s)) (moved s q i more ends e)
        ∙ ap (λ (v : List ℕ). record { place = At i; value = v }) (append-nil (take i s))

    pub passed : are_printable s ≡ true → (r : Quoting) → move q (byte_class (get_or s i 0)) ≡ puts r → Passed s r (i + 1)
    unfolding after shown
    passed all r e =
        let b = get_or s i 0 in
        let rest = scan_from r (drop (i + 1) s) (i + 1) in
        let longer : take (i + 1) s ≡ take i s ++ b ∷ [] = ap (λ (k : ℕ). take k s) (add-one i) ∙ take-suc s i 0 more in
        let stays : shown b ≡ b = rw (printable_at s i more all) in
        record {
          within = omega arith;
          left =
              ap (λ (v : List ℕ). record { place = rest.place; value = v ++ rest.value }) longer
              ∙ ap (λ (v : List ℕ). record { place = rest.place; value = v }) (append_assoc (take i s) (b ∷ []) rest.value)
              ∙ ap (λ (x : ℕ). put_before (take i s) (put_before (x ∷ []) rest)) (sym stays)
              ∙ ap (put_before (take i s)) (sym (moved s q i more (puts r) e))
              ∙ P.left;
        }

-- ---- the quote that closes a string, of which the bytes from a place on are left
module _ (s : List ℕ) (all : are_printable s ≡ true) (from : ℕ) where
  -- all bytes up to the quote, if there is one, were put
  abbrev pub Behind : Option ℕ → Type 0
  Behind (Some k) = Passed s Closed (from + k + 1)
  Behind None = Passed s Inside (length s)

  at_quote : {i c : ℕ} → i < length s → get_or s i 0 ≡ c → c ≡ code "'" → Passed s Inside i → Passed s Closed (i + 1)
  at_quote more here e P = passed P more all Closed (ap (move Inside) (class_quote (here ∙ e)))

  at_other : {i c : ℕ} → i < length s → get_or s i 0 ≡ c → (c ≡ code "'" → ⊥) → Passed s Inside i → Passed s Inside (i + 1)
  at_other more here e P = passed P more all Inside (inside-other (λ q. e (sym here ∙ q)) Inside refl)

  pub to_quote : (r : List ℕ) (k : ℕ) → drop (from + k) s ≡ r → Passed s Inside (from + k) → Behind (place_from (code "'") r k)
  unfolding place_from
  to_quote [] k e P =
      let end : from + k ≡ length s = omega (arith, P.within, ap length e, length-drop (from + k) s) in
      subst (λ (i : ℕ). Passed s Inside i) end P
  to_quote (c ∷ r) k e P =
      let more : from + k < length s = omega (arith, P.within, ap length e, length-drop (from + k) s) in
      let both = sym (drop-cons s (from + k) 0 more) ∙ e in
      let up : suc (from + k) ≡ from + suc k = omega arith in
      let next = sym (ap (λ (i : ℕ). drop i s) up) ∙ tail-eq_of_cons-eq both in
      go (eqb c (code "'")) refl more (head-eq_of_cons-eq both) (λ (Q : Passed s Inside (from + suc k)). to_quote r (suc k) next Q)
    where
      go : (t : Bool) → eqb c (code "'") ≡ t → from + k < length s → get_or s (from + k) 0 ≡ c
          → (Passed s Inside (from + suc k) → Behind (place_from (code "'") r (suc k)))
          → Behind (cond t (Some k) (place_from (code "'") r (suc k)))
      go true q more here on = at_quote more here (eqb-true c (code "'") q) P
      go false q more here on =
          let up : from + k + 1 ≡ from + suc k = omega arith in
          on (subst (λ (i : ℕ). Passed s Inside i) up (at_other more here (eqb-false c (code "'") q) P))

  pub behind_quote : {t : List ℕ} {p q : Option ℕ} → Passed s Inside from → t ≡ drop from s → p ≡ place_of (code "'") t → p ≡ q → Behind q
  behind_quote {t = t} P e f g =
      let start : from + 0 ≡ from = omega arith in
      let P₀ = subst (λ (i : ℕ). Passed s Inside i) (sym start) P in
      subst Behind (sym (f ∙ ap (place_of (code "'")) e) ∙ g) (to_quote (drop from s) 0 (ap (λ (i : ℕ). drop i s) start) P₀)
