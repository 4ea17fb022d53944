-- Comments joined in scratch, and what is answered of them.
use Rattle.std.specs.Prelude.{None, Some, Err, Ok}
use Prim.Native.Nat.{ℕ, suc, ◌+◌, ◌*◌, ◌-◌, ◌/◌, ◌<◌, ◌≤◌}
use native.Mathlib.Nat.{zero-add}
use native.Mathlib.Omega.{arith}
use mathlib.Core.Path.{◌≡◌, refl, sym, ap, ap₂, subst, ◌∙◌}
use mathlib.Core.Bool.{Bool, true, false, cond}
use mathlib.Core.List.{List, [], ◌∷◌}
use borrow.Author.Tests.{le-leb}
use lib.ListN.{length, take}
use lib.Seq.{sets}
use Rattle.refusal.specs.declared.Fault.{Fault}
use Rattle.refusal.specs.declared.Refusal.TheVariants as R
use Rattle.refusal.specs.Numbers.{fault_of}
use Rattle.text.specs.Bytes.{line_feed}
use Rattle.text.specs.Text.{size, bytes_of}
use Rattle.text.proofs.Laying.{take-sets}
use Rattle.card.specs.declared.CardRead.{CardRead}
use Rattle.roles.specs.declared.Role.{Role as Told}
use Rattle.roles.specs.declared.Role.TheVariants.{Entry, More, Neutral, Last}
use Rattle.roles.specs.Roles.{Comment, Words, Held, Role, more, neutral, last, refused, comment_read, role_in}
use Rattle.roles.specs.Cards.{role_no}
use Rattle.joining.specs.Words.{ends_open, join_comment}
use Rattle.finding.specs.declared.Stop.{Stop}
use Rattle.finding.specs.Finding.{stop_at}
use Rattle.entries.specs.declared.NoEntry.TheVariants as E
use Rattle.entries.specs.declared.Reach.{Reach}
use Rattle.entries.specs.declared.Reach.TheVariants.{On, Ended, Met}
use Rattle.entries.specs.declared.CommentHeld.{CommentHeld}
use Rattle.entries.specs.Halves.{Sought, stops, missing, holds, comment_left, comment_half, comment_laid, comment_in}
use Rattle.entries.specs.Passes.{span, words_at, met_at, string_at}
use Rattle.entries.specs.Passes.{text_by, comment_by, reach_by, ampersands, opens_by}
use Rattle.entries.specs.Passes.{IsOpenAt, IsWide, BeginsWith, longest_joined, reached_by, comment_held, NextComment, JoinedComments}
use Rattle.entries.proofs.Ampersands.{ampersands-few, open_counted, joined_counts, joined_open}
use Rattle.entries.proofs.Numbered.{string_unmet, string-whole, string-met}
use Rattle.entries.proofs.Joining.{words_by, Going, Ends, begin, text_open, on_card}

-- ---- a comment in the lent buffer
pub laid_none : (comment : List ℕ) → comment_left (comment_half (Ok false) 0) comment ≡ comment_laid None comment
laid_none comment = rw (le-leb 0 (length comment) (omega arith))

-- ---- a comment put in scratch behind another, and alone
module _ (d c : List ℕ) where
  pub put-behind : (n : ℕ) → n + 1 + length c ≤ length d
      → Some (take (n + 1 + length c) (sets (sets d n (line_feed ∷ [])) (n + 1) c)) ≡ join_comment (Some (take n d)) (Some c)
  unfolding join_comment
  put-behind n h =
      let next : n + 1 ≡ suc n = omega arith in
      let all : n + 1 + length c ≡ n + suc (length c) = omega arith in
      ap₂ (λ (m k : ℕ). Some (take m (sets (sets d n (line_feed ∷ [])) k c))) all next
      ∙ ap Some (take-sets (line_feed ∷ c) d n (omega arith))

  front : length c ≤ length d → take (length c) (sets d 0 c) ≡ c
  front h = ap (λ (k : ℕ). take k (sets d 0 c)) (sym (zero-add (length c))) ∙ take-sets c d 0 (omega arith)

  pub put_alone : length c ≤ length d → Some (take (length c) (sets d 0 c)) ≡ join_comment None (Some c)
  unfolding join_comment
  put_alone h = ap Some (front h)

-- ---- card j behind an open text and its comment
-- one that is not joined leaves them as they stand
module _ (held : CommentHeld) (j : ℕ) (comments : List ℕ) where
  stays : (role : Role) (reach : Reach) → ((s : List ℕ) → text_by role s ≡ s) → ((k : Comment) → comment_by role k ≡ k)
      → ((opened : Bool) → reach ≡ reach_by role j opened)
      → NextComment role j held (reached_by held reach) comments comments
  stays role reach same same-comment goes =
      record {
        comment = sym (same-comment (comment_held held comments));
        text = λ s opened e. (ap (ampersands 0) (same s) ∙ e, goes (ends_open (text_by role s)));
        short = omega arith;
        few = omega arith;
      }

  pub passed : NextComment neutral j held (reached_by held On) comments comments
  passed = stays neutral On (λ s. refl) (λ k. refl) (λ b. refl)

  pub refusing : (f : Fault) → NextComment (refused f) j held (reached_by held (Met (stop_at f j))) comments comments
  refusing f = stays (refused f) (Met (stop_at f j)) (λ s. refl) (λ k. refl) (λ b. refl)

  -- an entry or END
  pub ended : (t : Told) → (t ≡ More → ⊥) → (t ≡ Neutral → ⊥) → (p : CardRead)
      → NextComment (role_in t p) j held (reached_by held Ended) comments comments
  ended (Entry v joins) m e p = stays (role_in (Entry v joins) p) Ended (λ s. refl) (λ k. refl) (λ b. refl)
  ended More m e p = absurd (m refl)
  ended Neutral m e p = absurd (e refl)
  ended Last m e p = stays last Ended (λ s. refl) (λ k. refl) (λ b. refl)

-- a CONTINUE card
pub comment_stays : (k : Comment) → k ≡ join_comment k None
unfolding join_comment
comment_stays None = refl
comment_stays (Some c) = refl

module _ (held : CommentHeld) (j : ℕ) {comments : List ℕ} (t : List ℕ) (fits : length t ≤ size) {k : ℕ} {reach : Reach}
    (count : k ≡ ampersands (held.ampersands - 1) t) (goes : reach ≡ cond (opens_by k t) On Ended) where
  pub more-joined : (c : Comment) {r : CommentHeld} {comments₁ : List ℕ} → r.ampersands ≡ k → r.reach ≡ reach
      → comment_held r comments₁ ≡ join_comment (comment_held held comments) c → span r.comment ≤ span held.comment + 81
      → NextComment (more t c) j held r comments comments₁
  more-joined c same same-reach joined short =
      record {
        comment = joined;
        text = λ s opened e.
            let left : ampersands (ampersands 0 s - 1) t ≡ k = ap (λ (n : ℕ). ampersands (n - 1) t) e ∙ sym count in (
              joined_counts s t opened ∙ left ∙ sym same,
              same-reach ∙ goes ∙ ap (λ (b : Bool). cond b On Ended) (sym (joined_open s t opened ∙ ap (λ (n : ℕ). opens_by n t) left)),
            );
        short = short;
        few = omega (arith, same, count, ampersands-few (held.ampersands - 1) t);
      }

-- ---- the comment's loop: the comment of the words stands in scratch, and the ampersands at the end of their text are known
pub record Keeping (h : List ℕ) (i : ℕ) (held : CommentHeld) (comments : List ℕ) (j : ℕ) : Type 0 where
  pub w : Words
  pub going : Going h i w held.reach j
  pub text : ampersands 0 w.text ≡ held.ampersands
  pub comment : comment_held held comments ≡ w.comment
  pub short : span held.comment ≤ 81 * j
  pub few : held.ampersands ≤ 80 * j

module _ {h : List ℕ} {i : ℕ} (open_at : IsOpenAt h i) (comments₀ : List ℕ) (wide : IsWide h comments₀) where
  -- card i alone
  pub keep : {part : CardRead} → BeginsWith part (words_at h i) → length (bytes_of part.text) ≤ size
      → {held : CommentHeld} {comments : List ℕ} → held.ampersands ≡ ampersands 0 (bytes_of part.text)
      → comment_held held comments ≡ join_comment None (comment_read part.comment) → span held.comment ≤ 81 → held.reach ≡ On
      → Keeping h i held comments (i + 1)
  unfolding join_comment
  keep {part} B fits {held} {comments} count first few on =
      record {
        w = words_at h i;
        going = subst (λ (r : Reach). Going h i (words_at h i) r (i + 1)) (sym on) (begin open_at);
        text = sym (count ∙ ap (ampersands 0) B.text);
        comment = first ∙ B.comment;
        short = omega (arith, few);
        few = omega (arith, count, ampersands-few 0 (bytes_of part.text));
      }

  module _ {held : CommentHeld} {comments : List ℕ} {j : ℕ} (K : Keeping h i held comments j) where
    -- what the next card asks for
    module _ (on : held.reach ≡ On) (next : j < length h / 80) where
      opened : ends_open K.w.text ≡ true
      opened = text_open K.going on

      pub some_left : 0 < held.ampersands
      some_left = omega (arith, open_counted K.w.text opened, K.text)

      pub few-left : held.ampersands ≤ longest_joined
      few-left = omega (arith, K.few, open_at.few)

      pub room : length comments ≡ length comments₀ → span held.comment + 81 ≤ length comments
      room same = omega (arith, K.short, wide)

      pub keep_on : {r : CommentHeld} {comments₁ : List ℕ} → NextComment (role_no h j) j held r comments comments₁
          → Keeping h i r comments₁ (j + 1)
      keep_on N =
          let role = role_no h j in
          let told = N.text K.w.text opened K.text in
          record {
            w = words_by role K.w;
            going = on_card K.going on next told.1;
            text = told.0;
            comment = N.comment ∙ ap (comment_by role) K.comment;
            short = omega (arith, N.short, K.short);
            few = omega (arith, N.few, K.few);
          }

    -- where no card is left, or none is joined
    pub kept : length comments ≡ length comments₀ → Ends h i K.w held.reach → JoinedComments h i held comments
    kept same E =
        record {
          met = E.met;
          comment = λ (d : met_at h i ≡ None). K.comment ∙ ap (λ (w : Words). w.comment) (E.words d);
          within = omega (arith, K.short, K.going.within, wide);
        }

-- ---- the answers
-- nothing is read where there is no entry
pub stopped-comment : (s : Stop) (comment : List ℕ)
    → comment_left (comment_half (Err (E.Header s)) 0) comment ≡ comment_in (stops s) comment
unfolding comment_in
stopped-comment s comment = refl

pub missing-comment : (comment : List ℕ)
    → comment_left (comment_half (Err (E.Refused (fault_of R.NameNotFound))) 0) comment ≡ comment_in missing comment
unfolding comment_in
missing-comment comment = refl

pub held-laid : (v : Held) (comment : List ℕ) → comment_laid v.words.comment comment ≡ comment_in (holds v) comment
unfolding comment_in
held-laid v comment = refl

-- the comment of an open string, and the refused card that is met
module _ {h : List ℕ} {i : ℕ} {end : CommentHeld} {comments : List ℕ} (J : JoinedComments h i end comments) (comment : List ℕ) where
  pub string-laid : ((s : Stop) → end.reach ≡ Met s → ⊥)
      → comment_laid (comment_held end comments) comment ≡ comment_in (string_at h i) comment
  unfolding comment_in
  string-laid o =
      ap (λ (k : Comment). comment_laid k comment) (J.comment (string_unmet h i end.reach J.met o))
      ∙ ap (λ (x : Sought). comment_in x comment) (sym (string-whole h i end.reach J.met o))

  pub string_refused_lem : (s : Stop) → end.reach ≡ Met s
      → comment_left (comment_half (Err (E.Header s)) 0) comment ≡ comment_in (string_at h i) comment
  string_refused_lem s e =
      stopped-comment s comment
      ∙ ap (λ (x : Sought). comment_in x comment) (sym (string-met h i end.reach J.met s e))
