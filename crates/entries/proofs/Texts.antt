-- Texts joined in scratch.
use Prim.Native.Nat.{ℕ, ◌+◌, ◌-◌, ◌*◌, ◌/◌, ◌<◌, ◌≤◌}
use native.Mathlib.Nat.{zero-add}
use native.Mathlib.Omega.{arith}
use mathlib.Core.Path.{◌≡◌, refl, sym, ap, ◌∙◌}
use mathlib.Core.Bool.{Bool, true, false, cond}
use mathlib.Core.List.{List, [], ◌∷◌, ◌++◌}
use lib.ListN.{length, take, length-take}
use lib.Seq.{sets, take-take, length-take-le}
use Rattle.refusal.specs.declared.Fault.{Fault}
use Rattle.text.specs.Bytes.{is_space}
use Rattle.text.specs.Trim.{trim_end, cons_trimmed}
use Rattle.text.specs.Text.{bytes_of}
use Rattle.text.specs.Ends.{stem}
use Rattle.text.proofs.Trimming.{end_shorter}
use Rattle.text.proofs.Laying.{take-sets}
use Rattle.numbers.specs.declared.Value.{Value}
use Rattle.numbers.specs.declared.Value.TheVariants.{String}
use Rattle.card.specs.declared.CardRead.{CardRead}
use Rattle.roles.specs.declared.Role.{Role as Told}
use Rattle.roles.specs.declared.Role.TheVariants.{Entry, More, Neutral, Last}
use Rattle.roles.specs.Roles.{Words, neutral, refused, has_text, has_digits, held_of, role_in}
use Rattle.roles.specs.Cards.{role_no}
use Rattle.joining.specs.Words.{ends_open, adds_nothing, join_text}
use Rattle.finding.specs.declared.Stop.{Stop}
use Rattle.finding.specs.Finding.{stop_at}
use Rattle.entries.specs.declared.NoEntry.TheVariants as E
use Rattle.refusal.specs.declared.Refusal.TheVariants as R
use Rattle.refusal.specs.Numbers.{fault_of}
use Rattle.entries.specs.declared.Reach.{Reach}
use Rattle.entries.specs.declared.Reach.TheVariants.{On, Ended, Met}
use Rattle.entries.specs.declared.TextHeld.{TextHeld}
use Rattle.entries.specs.Halves.{Sought, stops, missing, holds, no_value, value_left, value_laid, value_in}
use Rattle.entries.specs.Passes.{words_at, string_at, text_by, reach_by}
use Rattle.entries.specs.Passes.{IsOpenAt, IsWide, NextText, JoinedTexts}
use Rattle.entries.proofs.Numbered.{string_unmet, string-whole, string-met}
use Rattle.entries.proofs.Joining.{open_some, words_by, Going, Ends, begin, text_open, on_card}

-- what trimming at the end leaves is a front
end-taken : (p : ℕ → Bool) (s : List ℕ) → take (length (trim_end p s)) s ≡ trim_end p s
unfolding trim_end cons_trimmed
end-taken p [] = refl
end-taken p (b ∷ s) = go (p b) (trim_end p s) (end-taken p s)
  where
    go : (t : Bool) (r : List ℕ) → take (length r) s ≡ r → take (length (cons_trimmed t b r)) (b ∷ s) ≡ cons_trimmed t b r
    go true [] e = refl
    go true (c ∷ r) e = ap (λ (l : List ℕ). b ∷ l) e
    go false r e = ap (λ (l : List ℕ). b ∷ l) e

-- the n bytes without the last
stem-taken : (d : List ℕ) (n : ℕ) → 0 < n → n ≤ length d → stem (take n d) ≡ take (n - 1) d
unfolding stem
stem-taken d n more h = ap (λ (k : ℕ). take (k - 1) (take n d)) (length-take-le n d h) ∙ take-take (n - 1) n d (omega arith)

module _ (d t : List ℕ) (n : ℕ) (more : 0 < n) (inside : n ≤ length d) where
  pub joined-cut : adds_nothing t ≡ true → take (length (trim_end is_space (take (n - 1) d))) d ≡ join_text (take n d) t
  unfolding join_text
  joined-cut e =
      let m = n - 1 in
      let short : length (trim_end is_space (take m d)) ≤ m = omega (arith, end_shorter is_space (take m d), length-take m d) in
      sym (take-take (length (trim_end is_space (take m d))) m d short) ∙ end-taken is_space (take m d)
      ∙ ap (trim_end is_space) (sym (stem-taken d n more inside)) ∙ rw e

  pub joined-put : n - 1 + length t ≤ length d → adds_nothing t ≡ false
      → take (n - 1 + length t) (sets d (n - 1) t) ≡ join_text (take n d) t
  unfolding join_text
  joined-put room e = take-sets t d (n - 1) room ∙ ap (λ (l : List ℕ). l ++ t) (sym (stem-taken d n more inside)) ∙ rw e

-- ---- a card that is not a CONTINUE card is passed, or lets no more be joined
abbrev pub text_held : ℕ → Reach → TextHeld
text_held n reach = record { length = n; reach = reach }

module _ (j n : ℕ) (texts : List ℕ) where
  pub passed : NextText neutral j n (text_held n On) texts texts
  passed = record { text = refl; reach = refl; short = omega arith }

  pub refusing : (f : Fault) → NextText (refused f) j n (text_held n (Met (stop_at f j))) texts texts
  refusing f = record { text = refl; reach = refl; short = omega arith }

  pub ended : (t : Told) → (t ≡ More → ⊥) → (t ≡ Neutral → ⊥) → (s : CardRead) → NextText (role_in t s) j n (text_held n Ended) texts texts
  ended (Entry v joins) m e s = record { text = refl; reach = refl; short = omega arith }
  ended More m e s = absurd (m refl)
  ended Neutral m e s = absurd (e refl)
  ended Last m e s = record { text = refl; reach = refl; short = omega arith }

-- ---- the text's loop: the text of the words stands in scratch
pub record TextGoing (h : List ℕ) (i : ℕ) (held : TextHeld) (texts : List ℕ) (j : ℕ) : Type 0 where
  pub w : Words
  pub going : Going h i w held.reach j
  pub text : take held.length texts ≡ w.text
  pub short : held.length ≤ 81 * j

-- it begins with the text of card i
pub begin_text : {h : List ℕ} {i : ℕ} (s texts : List ℕ) {n : ℕ} → IsOpenAt h i → IsWide h texts → s ≡ (words_at h i).text
    → length s ≤ 80 → n ≡ length s
    → TextGoing h i (text_held n On) (sets texts 0 s) (i + 1)
begin_text {h} {i} s texts {n} open_at wide is small count =
    let room : 0 + length s ≤ length texts = omega (arith, open_at.card) in
    record {
      w = words_at h i;
      going = begin open_at;
      text =
          ap (λ (k : ℕ). take k (sets texts 0 s)) (count ∙ sym (zero-add (length s))) ∙ take-sets s texts 0 room ∙ is;
      short = omega arith;
    }

module _ {h : List ℕ} {i : ℕ} {held : TextHeld} {texts : List ℕ} {j : ℕ} (wide : IsWide h texts) (G : TextGoing h i held texts j) where
  pub joined_texts : Ends h i G.w held.reach → JoinedTexts h i held texts
  joined_texts E =
      record {
        met = E.met;
        text = λ d. G.text ∙ ap (λ (w : Words). w.text) (E.words d);
        within = omega (arith, G.short, G.going.within);
      }

  module _ (on : held.reach ≡ On) (next : j < length h / 80) where
    -- there is an &, and room for one more card
    pub some-text : 0 < held.length
    some-text = open_some texts held.length (ap ends_open G.text ∙ text_open G.going on)

    pub text_room_lem : held.length + 79 ≤ length texts
    text_room_lem = omega (arith, G.short)

    pub on_text : {r : TextHeld} {texts₁ : List ℕ} → NextText (role_no h j) j held.length r texts texts₁
        → TextGoing h i r texts₁ (j + 1)
    on_text N =
        let role = role_no h j in
        let text = N.text ∙ ap (text_by role) G.text in
        record {
          w = words_by role G.w;
          going = on_card G.going on next (N.reach ∙ ap (λ (s : List ℕ). reach_by role j (ends_open s)) text);
          text = text;
          short = omega (arith, G.short, N.short);
        }

-- ---- the answers
-- nothing is read where there is no entry
pub stopped-value : (s : Stop) (text : List ℕ) → value_left (no_value (E.Header s) 0) text ≡ value_in (stops s) text
unfolding value_in
stopped-value s text = refl

pub missing-value : (text : List ℕ) → value_left (no_value (E.Refused (fault_of R.NameNotFound)) 0) text ≡ value_in missing text
unfolding value_in
missing-value text = refl

-- the text of an open string, and the refused card that is met
module _ {h : List ℕ} {i : ℕ} {r : TextHeld} {texts : List ℕ} (J : JoinedTexts h i r texts) (text : List ℕ) where
  pub string-laid : ((s : Stop) → r.reach ≡ Met s → ⊥)
      → value_laid String [] (take r.length texts) text ≡ value_in (string_at h i) text
  unfolding value_in
  string-laid o =
      ap (λ (s : List ℕ). value_laid String [] s text) (J.text (string_unmet h i r.reach J.met o))
      ∙ ap (λ (x : Sought). value_in x text) (sym (string-whole h i r.reach J.met o))

  pub string_refused_lem : (s : Stop) → r.reach ≡ Met s → value_left (no_value (E.Header s) 0) text ≡ value_in (string_at h i) text
  string_refused_lem s e = stopped-value s text ∙ ap (λ (x : Sought). value_in x text) (sym (string-met h i r.reach J.met s e))

-- the text of an entry to which nothing is joined
pub own_laid : (v : Value) (joins : Bool) (p : CardRead) (text : List ℕ)
    → value_laid v (cond (has_digits v) (bytes_of p.text) []) (cond (has_text v) (bytes_of p.text) []) text
    ≡ value_in (holds (held_of v joins p)) text
unfolding value_in
own_laid v joins p text = refl
