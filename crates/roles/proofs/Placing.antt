-- The role of a card with the column beside its refusal, and without.
use Rattle.std.specs.Prelude.{Err, Ok, Option, Result}
use Prim.Native.Nat.{ℕ}
use mathlib.Core.Path.{◌≡◌, refl, sym, ◌∙◌}
use mathlib.Core.List.{List}
use Rattle.refusal.specs.declared.Refusal.{Refusal}
use Rattle.refusal.specs.Numbers.{placed, answer_placed}
use Rattle.roles.specs.declared.Role.{Role as Told}
use Rattle.roles.specs.declared.Role.TheVariants.{Entry, More, Neutral, Last}
use Rattle.card.specs.declared.CardRead.{CardRead}
use Rattle.card.specs.Columns.{column_of}
use Rattle.card.specs.Cards.{unplaced_of, card_of}
use Rattle.roles.specs.Roles.{Held, Role, entry, more, neutral, last, refused, role_by, role_in, role_read, role_of}
use Rattle.refusal.specs.declared.Fault.{Fault}

-- a role with the column beside a refusal
abbrev pub role_placed_lem : (Refusal → Option ℕ) → Role → Role
role_placed_lem f (entry n v) = entry n v
role_placed_lem f (more t c) = more t c
role_placed_lem f neutral = neutral
role_placed_lem f last = last
role_placed_lem f (refused x) = refused (placed f x)

pub role_placed : (f : Refusal → Option ℕ) (r : Result CardRead Fault) → role_read (answer_placed f r) ≡ role_placed_lem f (role_read r)
role_placed f (Err x) = refl
role_placed f (Ok r) = go (role_by r.card)
  where
    go : (t : Told) → role_in t r ≡ role_placed_lem f (role_in t r)
    go (Entry v joins) = refl
    go More = refl
    go Neutral = refl
    go Last = refl

-- the role of a card is that of the card without its column, and the column beside it
pub role_is-placed : (c : List ℕ) → role_of c ≡ role_placed_lem (column_of c) (role_read (unplaced_of c))
unfolding card_of
role_is-placed c = role_placed (column_of c) (unplaced_of c)

-- an entry is one without the column too
entry-placed : (f : Refusal → Option ℕ) (x : Role) (m : List ℕ) (v : Held) → role_placed_lem f x ≡ entry m v → x ≡ entry m v
entry-placed f (entry n w) m v e = e
entry-placed f (more t c) m v e = cc
entry-placed f neutral m v e = cc
entry-placed f last m v e = cc
entry-placed f (refused x) m v e = cc

pub entry-unplaced : (c m : List ℕ) (v : Held) → role_of c ≡ entry m v → role_read (unplaced_of c) ≡ entry m v
entry-unplaced c m v e = entry-placed (column_of c) (role_read (unplaced_of c)) m v (sym (role_is-placed c) ∙ e)
