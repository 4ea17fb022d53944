-- An answer and what is left, both the same.
use mathlib.Core.Path.{◌≡◌}
use Rattle.one_answer.specs.OneAnswer.{pair_of}

pub both : {A B : Type 0} {a b : A} {c d : B} → a ≡ b → c ≡ d → pair_of a c ≡ pair_of b d
both e f = λ j. record { answer = e j; lent = f j }
