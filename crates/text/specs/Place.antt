-- The first place of a byte in a text.
use Rattle.std.specs.Prelude.{ℕ, suc, cond, List, [], ◌∷◌, eqb, None, Option, Some}

-- in a text whose first byte stands at place i
unfoldable pub place_from : ℕ → List ℕ → ℕ → Option ℕ
place_from b [] i = None
place_from b (c ∷ s) i = cond (eqb c b) (Some i) (place_from b s (suc i))

abbrev pub place_of : ℕ → List ℕ → Option ℕ
place_of b s = place_from b s 0
