-- Demand 3 for the number of cards that bear a name, proved: a card of K is no entry of another name, and all other cards are equal.
use Prim.Native.Nat.{ℕ, suc}
use mathlib.Core.Path.{◌≡◌, refl, sym, ap, ◌∙◌}
use mathlib.Core.Bool.{Bool, true, false, cond, true≢false}
use mathlib.Core.List.{List, [], ◌∷◌}
use Rattle.text.specs.Same.{same}
use Rattle.text.proofs.Comparing.{same_eq}
use Rattle.roles.specs.Roles.{Role, entry, more, neutral, last, refused}
use Rattle.roles.specs.Cards.{roles_of}
use Rattle.joining.specs.Belonging.{Open, ended, idle, held, does, bears}
use Rattle.agreeing.specs.Firsts.{times_borne}
use Rattle.agreeing.proofs.Times.{times-at_place}
use Rattle.demands.specs.Times.{times_in, TimesIsolation, TimesIsolationToEnd, TimesKept}
use Rattle.demands.proofs.Ending.{to_end_lem, Twin, done, both, even}
use Rattle.demands.proofs.Isolated.{twin, throughout}

module _ (name : List ℕ) where
  -- nothing behind END counts
  times_to_end : (h : List Role) → times_borne name (to_end_lem h) ≡ times_borne name h
  unfolding times_borne to_end_lem
  times_to_end [] = refl
  times_to_end (entry n v ∷ h) = ap (λ (x : ℕ). cond (same n name) (suc x) x) (times_to_end h)
  times_to_end (more t c ∷ h) = times_to_end h
  times_to_end (neutral ∷ h) = times_to_end h
  times_to_end (last ∷ h) = refl
  times_to_end (refused f ∷ h) = times_to_end h

  -- a card before two headers that bear the name equally often
  pub one-before : (c : Role) (g h : List Role) → times_borne name g ≡ times_borne name h
      → times_borne name (c ∷ g) ≡ times_borne name (c ∷ h)
  unfolding times_borne
  one-before (entry n v) g h e = ap (λ (x : ℕ). cond (same n name) (suc x) x) e
  one-before (more t c) g h e = e
  one-before neutral g h e = e
  one-before last g h e = refl
  one-before (refused f) g h e = e

  module _ (k : List ℕ) (other : k ≡ name → ⊥) where
    named_other : (n : List ℕ) (x : ℕ) → same n k ≡ true → cond (same n name) (suc x) x ≡ x
    named_other n x b = go (same n name) refl
      where
        go : (u : Bool) → same n name ≡ u → cond u (suc x) x ≡ x
        go true d = absurd (other (sym (same_eq n k b) ∙ same_eq n name d))
        go false d = refl

    -- a card of K does not count
    own_passed : (q : Open) (c : Role) (h : List Role) → bears k (does q c) ≡ true → times_borne name (c ∷ h) ≡ times_borne name h
    unfolding times_borne
    own_passed ended c h b = absurd (true≢false (sym b))
    own_passed idle (entry n v) h b = named_other n (times_borne name h) b
    own_passed (held e) (entry n v) h b = named_other n (times_borne name h) b
    own_passed idle (more t c) h b = refl
    own_passed (held e) (more t c) h b = refl
    own_passed idle neutral h b = refl
    own_passed (held e) neutral h b = refl
    own_passed idle last h b = absurd (true≢false (sym b))
    own_passed (held e) last h b = absurd (true≢false (sym b))
    own_passed idle (refused f) h b = refl
    own_passed (held e) (refused f) h b = refl

    twin_times : {q r : Open} {g h : List Role} → Twin k q r g h → times_borne name g ≡ times_borne name h
    twin_times done = refl
    twin_times (both {q} {r} {c} {d} {g} {h} a b t) = own_passed q c g a ∙ twin_times t ∙ sym (own_passed r d h b)
    twin_times (even {q} {r} {c} {d} {g} {h} is e t) =
        ap (λ (x : Role). times_borne name (x ∷ g)) is ∙ one-before d g h (twin_times t)

pub times_isolation_to_end : TimesIsolationToEnd
times_isolation_to_end g h k a b but name other =
    sym (times_to_end name (roles_of g)) ∙ twin_times name k other (twin g h k a b but) ∙ times_to_end name (roles_of h)

pub times_isolation : TimesIsolation
times_isolation = throughout times_in times_isolation_to_end

pub times-kept : TimesKept
times-kept g h k a b but name other i j s t =
    times-at_place g a.end a.accepted name i s
    ∙ times_isolation_to_end g h k a b but name (λ (e : k ≡ name). other (sym e))
    ∙ sym (times-at_place h b.end b.accepted name j t)
