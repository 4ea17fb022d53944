-- What a name is answered, by what each card does: the last effect that bears the name.
use Rattle.std.specs.Prelude.{Option, None, Some}
use Prim.Native.Nat.{ℕ}
use mathlib.Core.Path.{◌≡◌, refl, sym, ap, ◌∙◌}
use mathlib.Core.Bool.{Bool, true, false, cond}
use mathlib.Core.List.{List, [], ◌∷◌}
use Rattle.text.specs.Same.{same}
use Rattle.joining.specs.Words.{opens}
use Rattle.roles.specs.Roles.{Words, Held, Role, entry, more, neutral, last, refused}
use Rattle.joining.specs.Lookup.{is_open, joined, or_else, if_same, join_on, whole, lookup}
use Rattle.joining.specs.Belonging.{Entry, Open, ended, idle, held, gives, leaves, effects}
use Rattle.joining.proofs.Names.{answer, or-none}

-- nothing is joined to a value that is not open
pub join_on_shut : (w : Words) → opens w ≡ false → (h : List Role) → join_on w h ≡ w
unfolding join_on
join_on_shut w e [] = refl
join_on_shut w e (entry n v ∷ h) = refl
join_on_shut w e (more t c ∷ h) = rw e
join_on_shut w e (neutral ∷ h) = join_on_shut w e h
join_on_shut w e (last ∷ h) = refl
join_on_shut w e (refused f ∷ h) = join_on_shut w e h

pub or_assoc : (u v w : Option Held) → or_else (or_else u v) w ≡ or_else u (or_else v w)
or_assoc None v w = refl
or_assoc (Some u) v w = refl

-- an answer for a name stands in the way of an earlier one for it
or_same : (m n : List ℕ) (v w : Held) → or_else (if_same m n v) (if_same m n w) ≡ if_same m n v
or_same m n v w = go (same m n)
  where
    go : (u : Bool) → or_else (cond u (Some v) None) (cond u (Some w) None) ≡ cond u (Some v) None
    go true = refl
    go false = refl

after-end : (n : List ℕ) (h : List Role) → answer n (effects ended h) ≡ None
unfolding effects answer
after-end n [] = refl
after-end n (c ∷ h) = rw (after-end n h)

module _ (n : List ℕ) where
  -- what an entry that was just given comes to with what follows, where q stands open then
  Comes : Entry → Open → List Role → Type 0
  Comes e q h =
      or_else (answer n (effects q h)) (if_same e.name n e.value) ≡ or_else (lookup n h) (if_same e.name n (whole e.value h))

  -- where nothing is open, and where an open entry is held
  Both : List Role → Type 0
  Both h = (answer n (effects idle h) ≡ lookup n h) × ((e : Entry) → is_open e.value ≡ true → Comes e (held e) h)

  given : (h : List Role) → Both h → (q : Open) (e : Entry) → Comes e (leaves q (gives e)) h
  unfolding Comes Both
  given h both q e = go (is_open e.value) refl
    where
      go : (u : Bool) → is_open e.value ≡ u → Comes e (cond (is_open e.value) (held e) idle) h
      go true o = rw o (both.1 e o)
      go false o = rw (o, both.0, join_on_shut e.value.words o h)

  both : (h : List Role) → Both h
  unfolding Comes Both effects answer lookup join_on
  both [] = (refl, λ e o. refl)
  both (entry m v ∷ h) =
      let here = given h (both h) idle (record { name = m; value = v }) in
      (here, λ e o. ap (λ (x : Option Held). or_else x (if_same e.name n e.value)) here)
  both (more t c ∷ h) = (
    or-none _ ∙ (both h).0,
    λ e o.
        let d : Entry = record { name = e.name; value = joined e.value t c } in
        or_assoc (answer n (effects (leaves idle (gives d)) h)) (if_same e.name n d.value) (if_same e.name n e.value)
        ∙ ap (or_else (answer n (effects (leaves idle (gives d)) h))) (or_same e.name n d.value e.value)
        ∙ given h (both h) idle d
        ∙ rw o,
  )
  both (neutral ∷ h) = (or-none _ ∙ (both h).0, λ e o. rw or-none ((both h).1 e o))
  both (last ∷ h) = (rw (after-end n h), λ e o. rw (after-end n h))
  both (refused f ∷ h) = (or-none _ ∙ (both h).0, λ e o. rw or-none ((both h).1 e o))

  pub by_effects : (h : List Role) → lookup n h ≡ answer n (effects idle h)
  unfolding Both
  by_effects h = sym (both h).0
