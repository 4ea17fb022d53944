-- Names, and what a name is answered when another name's cards are left out.
use Rattle.std.specs.Prelude.{Option, None, Some}
use Prim.Native.Nat.{ℕ}
use mathlib.Core.Path.{◌≡◌, refl, sym, ◌∙◌}
use mathlib.Core.Bool.{Bool, true, false, cond}
use mathlib.Core.List.{List, [], ◌∷◌}
use Rattle.text.specs.Same.{same}
use Rattle.text.proofs.Comparing.{same_eq}
use Rattle.roles.specs.Roles.{Held}
use Rattle.joining.specs.Lookup.{or_else, if_same}
use Rattle.joining.specs.Belonging.{Effect, gives, nothing, stops, bears}

-- ---- what the effects of a header's cards answer a name: the last that bears it
abbrev pub value_for : List ℕ → Effect → Option Held
value_for n (gives e) = if_same e.name n e.value
value_for n nothing = None
value_for n stops = None

unfoldable pub answer : List ℕ → List Effect → Option Held
answer n [] = None
answer n (f ∷ fs) = or_else (answer n fs) (value_for n f)

-- those that do not bear K
abbrev pub others : List ℕ → List Effect → List Effect
others k [] = []
others k (f ∷ fs) = cond (bears k f) (others k fs) (f ∷ others k fs)

pub or-none : (v : Option Held) → or_else v None ≡ v
or-none None = refl
or-none (Some v) = refl

module _ (k : List ℕ) where
  -- what bears K says nothing of another name
  silent : (n : List ℕ) → (k ≡ n → ⊥) → (f : Effect) → bears k f ≡ true → value_for n f ≡ None
  silent n other (gives e) b = go (same e.name n) refl
    where
      go : (u : Bool) → same e.name n ≡ u → cond (same e.name n) (Some e.value) None ≡ None
      go true d = absurd (other (sym (same_eq e.name k b) ∙ same_eq e.name n d))
      go false d = rw d
  silent n other nothing b = refl
  silent n other stops b = refl

  pub answer-others : (n : List ℕ) → (k ≡ n → ⊥) → (fs : List Effect) → answer n (others k fs) ≡ answer n fs
  unfolding answer
  answer-others n other [] = refl
  answer-others n other (f ∷ fs) = go (bears k f) refl (answer-others n other fs)
    where
      go : (b : Bool) → bears k f ≡ b → answer n (others k fs) ≡ answer n fs
          → answer n (cond (bears k f) (others k fs) (f ∷ others k fs)) ≡ or_else (answer n fs) (value_for n f)
      go true d h = rw (d, silent n other f d, or-none) h
      go false d h = rw (d, h)

  -- and K itself is not found among them
  pub answer_gone : (fs : List Effect) → answer k (others k fs) ≡ None
  unfolding answer
  answer_gone [] = refl
  answer_gone (f ∷ fs) = go (bears k f) refl (answer_gone fs)
    where
      unanswered : (f : Effect) → bears k f ≡ false → value_for k f ≡ None
      unanswered (gives e) d = rw d
      unanswered nothing d = refl
      unanswered stops d = refl

      go : (b : Bool) → bears k f ≡ b → answer k (others k fs) ≡ None
          → answer k (cond (bears k f) (others k fs) (f ∷ others k fs)) ≡ None
      go true d h = rw d h
      go false d h = rw (d, h) (unanswered f d)
