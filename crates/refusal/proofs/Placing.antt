-- Answers with the column beside a refusal.
use Rattle.std.specs.Prelude.{Option, Result, Ok, Err}
use Prim.Native.Nat.{ℕ}
use mathlib.Core.Path.{◌≡◌, refl, ap}
use Rattle.refusal.specs.declared.Fault.{Fault}
use Rattle.refusal.specs.declared.Refusal.{Refusal}
use Rattle.refusal.specs.Numbers.{placed, answer_placed}

-- a refusal, if it is one, is one of those
abbrev pub RefusedBy : {A : Type 0} → (Fault → Type 0) → Result A Fault → Type 0
RefusedBy P (Ok a) = Unit {0}
RefusedBy P (Err x) = P x

-- two columns that agree on a refusal place it alike
pub placed_alike : (f g : Refusal → Option ℕ) (x : Fault) → f x.why ≡ g x.why → placed f x ≡ placed g x
placed_alike f g x e = ap (λ (y : Option ℕ). record { why = x.why; column = y }) e

-- and two that agree on all refusals of an answer
pub answer_alike : {A : Type 0} (f g : Refusal → Option ℕ) (P : Fault → Type 0) → ((x : Fault) → P x → f x.why ≡ g x.why)
    → (a : Result A Fault) → RefusedBy P a → answer_placed f a ≡ answer_placed g a
answer_alike f g P e (Ok a) h = refl
answer_alike f g P e (Err x) h = ap Err (placed_alike f g x (e x h))

-- what holds of those refusals holds of others that they imply
pub refused-weaker : {A : Type 0} (P Q : Fault → Type 0) → ((x : Fault) → P x → Q x) → (a : Result A Fault) → RefusedBy P a → RefusedBy Q a
refused-weaker P Q w (Ok a) h = tt
refused-weaker P Q w (Err x) h = w x h
