-- Tests of every byte and of the last, and trimming by them.
use Prim.Native.Nat.{ℕ, zero, suc, ◌+◌, ◌-◌, ◌<◌, ◌≤◌}
use Prim.Native.Char.{code}
use native.Mathlib.Omega.{arith}
use mathlib.Core.Path.{◌≡◌, refl, ap, ◌∙◌}
use mathlib.Core.Bool.{Bool, true, false, ◌||◌}
use mathlib.Core.List.{List, [], ◌∷◌, ◌++◌, map}
use borrow.Author.Tests.{eq-eqb, ne_eqb, lt-leb, leb-true}
use lib.Dec.{eqb, leb}
use lib.ListN.{length, replicate, get_or}
use lib.Seq.{get_or_at, take_at}
use Rattle.laws.proofs.Truths.{and_both}
use Rattle.text.specs.Bytes.{is_space, is_blank, is_printable, shown, line_feed, tab, form_feed, carriage_return, every}
use Rattle.text.specs.Trim.{trim_start, trim_end, trim, cons_trimmed}
use Rattle.text.specs.Ends.{stem, ends_with}
use Rattle.text.proofs.Texts.{length-put}
use Rattle.card.specs.Keywords.{has_high, first_high}

-- ---- every byte
module _ (p : ℕ → Bool) where
  pub every_first : (b : ℕ) (s : List ℕ) → every p (b ∷ s) ≡ true → p b ≡ true
  unfolding every
  every_first b s e = (and_both (p b) (every p s) e).0

  pub every_rest : (b : ℕ) (s : List ℕ) → every p (b ∷ s) ≡ true → every p s ≡ true
  unfolding every
  every_rest b s e = (and_both (p b) (every p s) e).1

  pub every_append : (s t : List ℕ) → every p s ≡ true → every p t ≡ true → every p (s ++ t) ≡ true
  unfolding every
  every_append [] t e d = d
  every_append (b ∷ s) t e d = rw (every_first b s e, every_append s t (every_rest b s e) d)

pub every_weaker : (p q : ℕ → Bool) → ((b : ℕ) → p b ≡ true → q b ≡ true) → (s : List ℕ)
    → every p s ≡ true → every q s ≡ true
unfolding every
every_weaker p q f [] e = refl
every_weaker p q f (b ∷ s) e = rw (f b (every_first p b s e), every_weaker p q f s (every_rest p b s e))

-- ---- printable bytes are shown as they are, are below 128, and of them only the space is blank
module _ (b : ℕ) (e : is_printable b ≡ true) where
  pub shown-printable : shown b ≡ b
  unfolding shown
  shown-printable = rw e

  printable-least : (code " ") ≤ b
  unfolding is_printable
  printable-least = leb-true (code " ") b (and_both (leb (code " ") b) (leb b (code "~")) e).0

  printable-most : b ≤ code "~"
  unfolding is_printable
  printable-most = leb-true b (code "~") (and_both (leb (code " ") b) (leb b (code "~")) e).1

  pub blank_printable : is_blank b ≡ is_space b
  unfolding is_blank is_space
  blank_printable =
      let least : (code " ") ≤ b = printable-least in
      let control : (m : ℕ) → m < code " " → eqb b m ≡ false = λ m h. ne_eqb b m (λ x. let y : b ≡ m = x in omega arith) in
      rw (
        control tab (omega arith),
        control line_feed (omega arith),
        control form_feed (omega arith),
        control carriage_return (omega arith),
      )
      (or-none (eqb b (code " ")))
    where
      or-none : (u : Bool) → (u || false) ≡ u
      or-none true = refl
      or-none false = refl

pub shown_all : (s : List ℕ) → every is_printable s ≡ true → map shown s ≡ s
shown_all [] e = refl
shown_all (b ∷ s) e = rw (shown-printable b (every_first is_printable b s e), shown_all s (every_rest is_printable b s e))

pub low_all : (s : List ℕ) → every is_printable s ≡ true → has_high s ≡ false
unfolding has_high
low_all [] e = refl
low_all (b ∷ s) e =
    let most : b ≤ code "~" = printable-most b (every_first is_printable b s e) in
    rw (lt-leb first_high b (omega arith), low_all s (every_rest is_printable b s e))

pub every-spaces : (n : ℕ) → every is_printable (replicate n (code " ")) ≡ true
unfolding every is_printable
every-spaces zero = refl
every-spaces (suc n) = every-spaces n

-- ---- the last byte

-- the last byte passes a test
unfoldable pub last_is : (ℕ → Bool) → List ℕ → Bool
last_is p [] = false
last_is p (b ∷ []) = p b
last_is p (b ∷ c ∷ s) = last_is p (c ∷ s)

last_byte : (p : ℕ → Bool) (b : ℕ) (s : List ℕ) → p (get_or (b ∷ s) (length (b ∷ s) - 1) 0) ≡ last_is p (b ∷ s)
unfolding last_is
last_byte p b [] = refl
last_byte p b (c ∷ s) =
    let x : suc (suc (length s)) - 1 ≡ suc (length s) = omega arith in
    let y : suc (length s) - 1 ≡ length s = omega arith in
    rw x (rw y at (last_byte p c s))

-- the last byte is b, which is not 0
ends_with_lem : (b : ℕ) → eqb 0 b ≡ false → (s : List ℕ) → ends_with b s ≡ last_is (λ (x : ℕ). eqb x b) s
unfolding ends_with last_is
ends_with_lem b e [] = e
ends_with_lem b e (x ∷ s) = last_byte (λ (y : ℕ). eqb y b) x s

-- it is a space
pub ends_space : (s : List ℕ) → ends_with (code " ") s ≡ last_is is_space s
unfolding is_space
ends_space s = ends_with_lem (code " ") refl s

-- ---- a byte put at the end
module _ (s : List ℕ) (b : ℕ) where
  last-place : length s ≡ length (s ++ b ∷ []) - 1
  last-place = let long : length (s ++ b ∷ []) ≡ length s + 1 = length-put s b in omega arith

  pub stem-behind : stem (s ++ b ∷ []) ≡ s
  unfolding stem
  stem-behind = take_at s (b ∷ []) _ last-place

  pub ends_behind : ends_with b (s ++ b ∷ []) ≡ true
  unfolding ends_with
  ends_behind = ap (λ (x : ℕ). eqb x b) (get_or_at s b [] 0 _ last-place) ∙ eq-eqb b b refl

-- ---- trimming by the last byte
module _ (p : ℕ → Bool) where
  pub last-behind : (s : List ℕ) (b : ℕ) (t : List ℕ) → last_is p (s ++ b ∷ t) ≡ last_is p (b ∷ t)
  unfolding last_is
  last-behind [] b t = refl
  last-behind (a ∷ []) b t = refl
  last-behind (a ∷ c ∷ s) b t = last-behind (c ∷ s) b t

  cons-some : (t : Bool) (b c : ℕ) (s : List ℕ) → cons_trimmed t b (c ∷ s) ≡ b ∷ c ∷ s
  unfolding cons_trimmed
  cons-some true b c s = refl
  cons-some false b c s = refl

  -- nothing goes at an end that does not pass the test
  pub end_kept : (s : List ℕ) → last_is p s ≡ false → trim_end p s ≡ s
  unfolding trim_end last_is cons_trimmed
  end_kept [] e = refl
  end_kept (b ∷ []) e = rw e
  end_kept (b ∷ c ∷ s) e = ap (cons_trimmed (p b) b) (end_kept (c ∷ s) e) ∙ cons-some (p b) b c s

  -- bytes that pass it go behind such an end
  end-padded : (s : List ℕ) (n b : ℕ) → p b ≡ true → last_is p s ≡ false → trim_end p (s ++ replicate n b) ≡ s
  unfolding trim_end last_is cons_trimmed
  end-padded [] zero b y e = refl
  end-padded [] (suc n) b y e = rw (y, end-padded [] n b y e)
  end-padded (a ∷ []) n b y e = rw (e, end-padded [] n b y refl)
  end-padded (a ∷ c ∷ s) n b y e = ap (cons_trimmed (p a) a) (end-padded (c ∷ s) n b y e) ∙ cons-some (p a) a c s

  start-padded : (n b : ℕ) (s : List ℕ) → p b ≡ true → trim_start p (replicate n b ++ s) ≡ trim_start p s
  unfolding trim_start
  start-padded zero b s y = refl
  start-padded (suc n) b s y = rw (y, start-padded n b s y)

  -- a text between such bytes, where neither its first nor its last passes the test
  pub trim-padded : (n m b c : ℕ) (s : List ℕ) → p b ≡ true → p c ≡ false → last_is p (c ∷ s) ≡ false
      → trim p (replicate n b ++ ((c ∷ s) ++ replicate m b)) ≡ c ∷ s
  unfolding trim trim_start
  trim-padded n m b c s y x e = ap (trim_end p) (start-padded n b ((c ∷ s) ++ replicate m b) y ∙ rw x) ∙ end-padded (c ∷ s) m b y e

-- where two tests agree on every byte, they agree on the last
pub last_agrees : (r p q : ℕ → Bool) → ((b : ℕ) → r b ≡ true → p b ≡ q b) → (s : List ℕ) → every r s ≡ true
    → last_is p s ≡ last_is q s
unfolding last_is
last_agrees r p q f [] e = refl
last_agrees r p q f (b ∷ []) e = f b (every_first r b [] e)
last_agrees r p q f (b ∷ c ∷ s) e = last_agrees r p q f (c ∷ s) (every_rest r b (c ∷ s) e)

-- where no byte passes it, the last does not
pub last_none : (p q : ℕ → Bool) → ((b : ℕ) → p b ≡ true → q b ≡ false) → (s : List ℕ) → every p s ≡ true
    → last_is q s ≡ false
unfolding last_is
last_none p q f [] e = refl
last_none p q f (b ∷ []) e = f b (every_first p b [] e)
last_none p q f (b ∷ c ∷ s) e = last_none p q f (c ∷ s) (every_rest p b (c ∷ s) e)
