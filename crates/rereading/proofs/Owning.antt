-- Cards that belong to one name, one behind another, and leave nothing open.
use Prim.Native.Nat.{ℕ}
use mathlib.Core.Path.{◌≡◌, refl}
use mathlib.Core.Bool.{false}
use mathlib.Core.List.{List, [], ◌∷◌}
use Rattle.roles.specs.Roles.{Held, Role, entry}
use Rattle.joining.specs.Lookup.{is_open}
use Rattle.joining.specs.Belonging.{Entry, Open, ended, idle, held, gives, does, leaves}

-- what roles do where q stands open: each gives an entry of the name, and nothing is open behind them
pub data Owns (name : List ℕ) : Open → List Role → Type 0 where
  at_end : Owns name idle []
  gives_one : {q : Open} {r : Role} {rs : List Role} (e : Entry) → does q r ≡ gives e → e.name ≡ name
      → Owns name (leaves q (gives e)) rs → Owns name q (r ∷ rs)

module _ (name : List ℕ) where
  -- before END, a card that bears an entry gives it
  pub bears-entry : (q : Open) → (q ≡ ended → ⊥) → (v : Held)
      → does q (entry name v) ≡ gives (record { name = name; value = v })
  bears-entry ended on v = absurd (on refl)
  bears-entry idle on v = refl
  bears-entry (held e) on v = refl

  -- one entry that stays shut
  pub owns_one : (v : Held) → is_open v ≡ false → (q : Open) → (q ≡ ended → ⊥) → Owns name q (entry name v ∷ [])
  owns_one v o q on = gives_one {q = q} {rs = []} (record { name = name; value = v }) (bears-entry q on v) refl (rw o at_end)
