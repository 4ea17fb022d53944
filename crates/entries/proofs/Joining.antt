-- Open words, and the cards that are joined to them, one by one. Text and comment are joined in two loops that stand alike to these words.
use Rattle.std.specs.Prelude.{Option, None, Some}
use Prim.Native.Nat.{ℕ, zero, suc, ◌+◌, ◌/◌, ◌<◌, ◌≤◌}
use native.Mathlib.Numerals.{add-one}
use native.Mathlib.Omega.{arith}
use mathlib.Core.Path.{◌≡◌, refl, sym, ap, ◌∙◌}
use mathlib.Core.Bool.{Bool, true, false, cond, true≢false}
use mathlib.Core.List.{List, [], ◌∷◌}
use lib.ListN.{length, take, drop}
use Rattle.laws.proofs.Truths.{and_both, and_false}
use Rattle.text.specs.Ends.{ends_with}
use Rattle.roles.specs.Roles.{Words, Role, entry, more, neutral, last, refused}
use Rattle.roles.specs.Cards.{role_no, roles_of}
use Rattle.roles.proofs.Cards.{roles_from, roles_past}
use Rattle.joining.specs.Words.{ends_open, opens, join_text, join_words}
use Rattle.joining.specs.Lookup.{join_on}
use Rattle.joining.proofs.Answers.{join_on_shut}
use Rattle.finding.specs.declared.Stop.{Stop}
use Rattle.entries.specs.declared.Reach.{Reach}
use Rattle.entries.specs.declared.Reach.TheVariants.{On, Ended, Met}
use Rattle.entries.specs.Answers.{met_on}
use Rattle.entries.specs.Passes.{words_at, joined_words, met_at, text_by, comment_by, reach_by, stop_in, IsOpenAt}

-- ---- open texts and words
-- a text that is open is not empty
pub open_some : (s : List ℕ) (n : ℕ) → ends_open (take n s) ≡ true → 0 < n
unfolding ends_open ends_with
open_some s zero e = absurd (true≢false (sym e))
open_some s (suc n) e = omega arith

opens-joins : (w : Words) → opens w ≡ true → w.joins ≡ true
unfolding opens
opens-joins w e = (and_both w.joins (ends_open w.text) e).0

opens-text : (w : Words) → opens w ≡ true → ends_open w.text ≡ true
unfolding opens
opens-text w e = (and_both w.joins (ends_open w.text) e).1

text-opens : (w : Words) → w.joins ≡ true → ends_open w.text ≡ true → opens w ≡ true
unfolding opens
text-opens w d e = rw (d, e)

text_shut : (w : Words) → ends_open w.text ≡ false → opens w ≡ false
unfolding opens
text_shut w e = and_false w.joins (ends_open w.text) e

-- ---- what joining comes to
-- nothing is met where nothing is joined
pub met_shut : (w : Words) → opens w ≡ false → (h : List Role) (j : ℕ) → met_on w h j ≡ None
unfolding met_on
met_shut w e [] j = refl
met_shut w e (entry n v ∷ h) j = refl
met_shut w e (more t c ∷ h) j = rw e
met_shut w e (neutral ∷ h) j = met_shut w e h (suc j)
met_shut w e (last ∷ h) j = refl
met_shut w e (refused f ∷ h) j = rw e

-- words, or the refused card that was met
pub data Joint : Type 0 where
  whole : Words → Joint
  met : Stop → Joint

abbrev pub joint_by : Option Stop → Words → Joint
joint_by None w = whole w
joint_by (Some s) w = met s

abbrev joint : Words → List Role → ℕ → Joint
joint w h j = joint_by (met_on w h j) (join_on w h)

-- where more may be joined, the cards from number j on are
abbrev pub at_reach : Reach → Words → List Role → ℕ → Joint
at_reach On w h j = joint w h j
at_reach Ended w h j = whole w
at_reach (Met s) w h j = met s

joint_shut : (w : Words) → opens w ≡ false → (h : List Role) (j : ℕ) → joint w h j ≡ whole w
joint_shut w e h j = ap (λ (m : Option Stop). joint_by m (join_on w h)) (met_shut w e h j) ∙ ap whole (join_on_shut w e h)

-- the words and the refused card, by what joining comes to
joint_whole : (m : Option Stop) (w v : Words) → whole w ≡ joint_by m v → (m ≡ None) × (w ≡ v)
joint_whole None w v e = (refl, cc)
joint_whole (Some s) w v e = (cc, cc)

joint_met : (m : Option Stop) (s : Stop) (v : Words) → met s ≡ joint_by m v → m ≡ Some s
joint_met None s v e = cc
joint_met (Some t) s v e = let same : s ≡ t = cc in ap (λ (u : Stop). Some u) (sym same)

unmet : (s : Stop) → Some s ≡ None → ⊥
unmet s e = let z : ◌≡◌ {A = ℕ} 0 1 = cc in omega arith

-- ---- one card behind open words
abbrev pub words_by : Role → Words → Words
words_by role w = record { text = text_by role w.text; comment = comment_by role w.comment; joins = w.joins }

-- whether more may be joined then
abbrev pub reach_of : Role → ℕ → Words → Reach
reach_of role j w = reach_by role j (ends_open (text_by role w.text))

module _ (w : Words) (opened : opens w ≡ true) where
  still_open : (r : Role) (j : ℕ) → reach_of r j w ≡ On → opens (words_by r w) ≡ true
  still_open (entry n v) j e = cc
  still_open (more t c) j e = text-opens (words_by (more t c) w) (opens-joins w opened) (go (ends_open (join_text w.text t)) e)
    where
      go : (b : Bool) → cond b On Ended ≡ On → b ≡ true
      go true d = refl
      go false d = cc
  still_open neutral j e = opened
  still_open last j e = cc
  still_open (refused f) j e = opened

  one_more : (r : Role) (h : List Role) (j : ℕ) → joint w (r ∷ h) j ≡ at_reach (reach_of r j w) (words_by r w) h (suc j)
  unfolding join_on met_on join_words
  one_more (entry n v) h j = refl
  one_more (more t c) h j = rw opened (go (ends_open next.text) refl)
    where
      next : Words
      next = words_by (more t c) w

      go : (b : Bool) → ends_open next.text ≡ b → joint next h (suc j) ≡ at_reach (cond b On Ended) next h (suc j)
      go true e = refl
      go false e = joint_shut next (text_shut next e) h (suc j)
  one_more neutral h j = refl
  one_more last h j = refl
  one_more (refused f) h j = rw opened

-- ---- where a loop over the cards behind card i stands: what is left of them is joined to the words as they stand
pub record Going (h : List ℕ) (i : ℕ) (w : Words) (reach : Reach) (j : ℕ) : Type 0 where
  pub past : i < j
  pub within : j ≤ length h / 80
  pub going : reach ≡ On → opens w ≡ true
  pub left : at_reach reach w (drop j (roles_of h)) j ≡ joint_by (met_at h i) (joined_words h i)

-- where it ends: the words are those of card i with all that is joined to it, or a refused card was met
pub record Ends (h : List ℕ) (i : ℕ) (w : Words) (reach : Reach) : Type 0 where
  pub met : stop_in reach ≡ met_at h i
  pub words : met_at h i ≡ None → w ≡ joined_words h i

-- it begins behind card i
pub begin : {h : List ℕ} {i : ℕ} → IsOpenAt h i → Going h i (words_at h i) On (i + 1)
begin {h} {i} open_at =
    record {
      past = omega arith;
      within = omega (arith, open_at.card);
      going = λ _. open_at.opened;
      left = ap (λ (k : ℕ). joint (words_at h i) (drop (i + 1) (roles_of h)) k) (add-one i);
    }

module _ {h : List ℕ} {i : ℕ} {w : Words} {reach : Reach} {j : ℕ} (G : Going h i w reach j) where
  by_reach : (r : Reach) → reach ≡ r → at_reach r w (drop j (roles_of h)) j ≡ joint_by (met_at h i) (joined_words h i)
  by_reach r e = sym (ap (λ (x : Reach). at_reach x w (drop j (roles_of h)) j) e) ∙ G.left

  -- the text is open while more may be joined
  pub text_open : reach ≡ On → ends_open w.text ≡ true
  text_open on = opens-text w (G.going on)

  -- the next card
  pub on_card : {r : Reach} → reach ≡ On → j < length h / 80 → r ≡ reach_of (role_no h j) j w
      → Going h i (words_by (role_no h j) w) r (j + 1)
  on_card {r} on next goes =
      let role = role_no h j in
      let then = words_by role w in
      let all = drop (j + 1) (roles_of h) in
      record {
        past = omega (arith, G.past);
        within = omega arith;
        going = λ (e : r ≡ On). still_open w (G.going on) role j (sym goes ∙ e);
        left =
            ap (λ (k : ℕ). at_reach r then all k) (add-one j)
            ∙ ap (λ (x : Reach). at_reach x then all (suc j)) goes
            ∙ sym (one_more w (G.going on) role all j)
            ∙ ap (λ (l : List Role). joint w l j) (sym (roles_from h j next))
            ∙ by_reach On on;
      }

  -- all is joined, or a refused card was met
  whole_ends : whole w ≡ joint_by (met_at h i) (joined_words h i) → stop_in reach ≡ None → Ends h i w reach
  whole_ends e d =
      let is = joint_whole (met_at h i) w (joined_words h i) e in
      record { met = d ∙ sym is.0; words = λ _. is.1 }

  met_ends : (s : Stop) → reach ≡ Met s → Ends h i w reach
  met_ends s e =
      let is = joint_met (met_at h i) s (joined_words h i) (by_reach (Met s) e) in
      record { met = ap stop_in e ∙ sym is; words = λ (d : met_at h i ≡ None). absurd (unmet s (sym is ∙ d)) }

  -- no more cards are there
  pub at_end : length h / 80 ≤ j → Ends h i w reach
  unfolding join_on met_on
  at_end p = go reach refl
    where
      go : (r : Reach) → reach ≡ r → Ends h i w reach
      go On e = whole_ends (sym (ap (λ (l : List Role). joint w l j) (roles_past h j p)) ∙ by_reach On e) (ap stop_in e)
      go Ended e = whole_ends (by_reach Ended e) (ap stop_in e)
      go (Met s) e = met_ends s e
