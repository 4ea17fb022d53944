-- What the C boundary asks to be written, in numbers, and what it answers.
use Rattle.std.specs.Prelude.{ℕ, ◌≡◌, Bool, cond, not, List, eqb, ℤ, Err, Ok, Result}
use Rattle.laws.specs.Lending.{Lent}
use Rattle.refusal.specs.Numbers.{number_of}
use Rattle.numbers.specs.declared.Size.TheVariants.{Finite, Infinite, Nan}
use Rattle.numbers.specs.declared.Value.{Value}
use Rattle.numbers.specs.declared.Value.TheVariants.{Integer, Float, Logical, String, Undefined, Invalid}
use Rattle.writing.specs.Block.{WriteOutcome}
use Rattle.refusal.specs.declared.Fault.{Fault}

-- a number that stands for a truth: 0 is false, any other true
abbrev pub is_set : ℕ → Bool
is_set n = not (eqb n 0)

-- the value of a kind with its flag and number, as `valueTold` tells them; a kind that there is not counts as invalid
unfoldable pub value_asked : ℕ → Bool → ℤ → Value
value_asked kind flag number =
    cond (eqb kind 1) (Integer number)
    (cond (eqb kind 2) (Float flag (Finite number))
    (cond (eqb kind 3) (Float flag Infinite)
    (cond (eqb kind 4) (Float flag Nan)
    (cond (eqb kind 5) (Logical flag)
    (cond (eqb kind 6) String
    (cond (eqb kind 7) Undefined
    Invalid))))))

-- an answer, and the lent block and count after it
pub record WrittenOutcome : Type 0 where
  pub answer : ℕ
  pub block : List ℕ
  pub count : ℕ

-- 0, with the number of cards; or the refusal's number, and the count stays as it was
abbrev pub written_told : Result ℕ Fault → List ℕ → ℕ → WrittenOutcome
written_told (Ok n) block count = record { answer = 0; block = block; count = n }
written_told (Err fault) block count = record { answer = number_of fault.why; block = block; count = count }

-- what writing leaves: `write` says what is written with the lent block, and r is the answer
abbrev pub WriteLeft : (List ℕ → WriteOutcome) → Lent (List ℕ) → Lent ℕ → ℕ → Type 0
WriteLeft write block count r =
    let x = write block.was in
    ◌≡◌ {A = WrittenOutcome}
    (record { answer = r; block = block.left; count = count.left })
    (written_told x.answer x.block count.was)
