-- The scan of what was written.
use Prim.Native.Nat.{ℕ, suc, ◌+◌}
use Prim.Native.Char.{code}
use native.Mathlib.Omega.{arith}
use mathlib.Core.Path.{◌≡◌, refl, sym, ap, ◌∙◌}
use mathlib.Core.Bool.{Bool, true, false}
use mathlib.Core.List.{List, [], ◌∷◌, ◌++◌, append_assoc}
use borrow.Author.Tests.{eqb-true, eqb-false}
use lib.Dec.{eqb}
use lib.ListN.{length}
use Rattle.text.specs.Bytes.{ascii, is_printable, shown, every}
use Rattle.text.proofs.Texts.{length-put}
use Rattle.splitting.specs.declared.Quoting.{Quoting}
use Rattle.splitting.specs.declared.Quoting.TheVariants.{Outside, Inside, Closed}
use Rattle.splitting.specs.Scan.{byte_class, puts, move, Scan, put_before, after, scan_from}
use Rattle.splitting.proofs.Scanning.{inside-other}
use Rattle.writing.specs.Pieces.{doubled, quoted}
use Rattle.writing.specs.Rules.{is_name_byte}
use Rattle.rereading.proofs.Endings.{every_first, every_rest, shown-printable}
use Rattle.rereading.proofs.Names.{name_class, name-printable}

-- a byte that is put
puts_byte : (q r : Quoting) (b : ℕ) (s : List ℕ) (i : ℕ) → is_printable b ≡ true → move q (byte_class b) ≡ puts r
    → scan_from q (b ∷ s) i ≡ put_before (b ∷ []) (scan_from r s (suc i))
unfolding scan_from after
puts_byte q r b s i e m = rw (m, shown-printable b e)

-- two quotes inside a string are put as one
two_quotes : (s : List ℕ) (i : ℕ)
    → scan_from Inside (code "'" ∷ code "'" ∷ s) i ≡ put_before (ascii "'") (scan_from Inside s (suc (suc i)))
unfolding scan_from after byte_class shown is_printable
two_quotes s i = refl

abbrev Passed : List ℕ → List ℕ → ℕ → ℕ → Type 0
Passed s t i j = scan_from Inside (doubled s ++ t) i ≡ put_before s (scan_from Inside t j)

inside_turn : (b : ℕ) (s t : List ℕ) (i j : ℕ) → is_printable b ≡ true → length (doubled (b ∷ s)) + i ≡ j
    → ((k : ℕ) → length (doubled s) + k ≡ j → Passed s t k j) → Passed (b ∷ s) t i j
unfolding doubled
inside_turn b s t i j e n later = go (eqb b (code "'")) refl
  where
    go : (u : Bool) → eqb b (code "'") ≡ u → Passed (b ∷ s) t i j
    go true d =
        let m : length (code "'" ∷ code "'" ∷ doubled s) + i ≡ j = rw d at n in
        let is : b ≡ code "'" = eqb-true b (code "'") d in
        rw (d, is) (two_quotes (doubled s ++ t) i ∙ ap (put_before (ascii "'")) (later (suc (suc i)) (omega arith)))
    go false d =
        let m : length (b ∷ doubled s) + i ≡ j = rw d at n in
        rw d (puts_byte Inside Inside b (doubled s ++ t) i e (inside-other (eqb-false b (code "'") d) Inside refl)
        ∙ ap (put_before (b ∷ [])) (later (suc i) (omega arith)))

-- inside a string, doubled quotes are put once and every other byte as it is
inside-doubled : (s t : List ℕ) (i j : ℕ) → every is_printable s ≡ true → length (doubled s) + i ≡ j → Passed s t i j
unfolding doubled
inside-doubled [] t i j e n = ap (scan_from Inside t) (let alike : i ≡ j = omega arith in alike)
inside-doubled (b ∷ s) t i j e n =
    inside_turn b s t i j (every_first is_printable b s e) n (λ k m. inside-doubled s t k j (every_rest is_printable b s e) m)

-- a text that a scan from outside passes: it puts v, and leaves the state q
abbrev pub Passes : List ℕ → List ℕ → Quoting → Type 0
Passes t v q = (r : List ℕ) → scan_from Outside (t ++ r) 0 ≡ put_before v (scan_from q r (length t))

open_quote : (s : List ℕ) → scan_from Outside (code "'" ∷ s) 0 ≡ put_before (ascii "'") (scan_from Inside s 1)
unfolding scan_from after byte_class shown is_printable
open_quote s = refl

close_quote : (s : List ℕ) (i : ℕ) → scan_from Inside (code "'" ∷ s) i ≡ put_before (ascii "'") (scan_from Closed s (suc i))
unfolding scan_from after byte_class shown is_printable
close_quote s i = refl

put_both : (a b : List ℕ) (r : Scan) → put_before a (put_before b r) ≡ put_before (a ++ b) r
put_both a b r = ap (λ (l : List ℕ). record { place = r.place; value = l }) (sym (append_assoc a b r.value))

-- a string between its quotes
abbrev pub within : List ℕ → List ℕ
within s = code "'" ∷ (s ++ ascii "'")

-- a written string is passed, the closing quote is behind, and what is put is the string between its quotes
pub quoted_passes : (s : List ℕ) → every is_printable s ≡ true → Passes (quoted s) (within s) Closed
quoted_passes s e r =
    let end = length (doubled s) + 1 in
    let n : suc end ≡ length (quoted s) = ap suc (sym (length-put (doubled s) (code "'"))) in
    ap (λ (l : List ℕ). scan_from Outside (code "'" ∷ l) 0) (append_assoc (doubled s) (ascii "'") r)
    ∙ open_quote (doubled s ++ code "'" ∷ r)
    ∙ ap (put_before (ascii "'")) (inside-doubled s (code "'" ∷ r) 1 end e refl)
    ∙ ap (λ (x : Scan). put_before (ascii "'") (put_before s x)) (close_quote r end)
    ∙ ap (put_before (ascii "'")) (put_both s (ascii "'") (scan_from Closed r (suc end)))
    ∙ ap (λ (k : ℕ). put_before (within s) (scan_from Closed r k)) n

outside_names : (s r : List ℕ) (i j : ℕ) → every is_name_byte s ≡ true → length s + i ≡ j
    → scan_from Outside (s ++ r) i ≡ put_before s (scan_from Outside r j)
outside_names [] r i j e n = ap (scan_from Outside r) (let alike : i ≡ j = omega arith in alike)
outside_names (b ∷ s) r i j e n =
    let here : is_name_byte b ≡ true = every_first is_name_byte b s e in
    puts_byte Outside Outside b (s ++ r) i (name-printable b here) (ap (move Outside) (name_class b here))
    ∙ ap (put_before (b ∷ [])) (outside_names s r (suc i) j (every_rest is_name_byte b s e) (omega arith))

-- so is a text of name bytes, as it is
pub names_pass : (s : List ℕ) → every is_name_byte s ≡ true → Passes s s Outside
names_pass s e r = outside_names s r 0 (length s) e (omega arith)
