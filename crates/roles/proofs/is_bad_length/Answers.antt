-- `roles::is_bad_length` meets its contract, test by test.
use Prim.Native.Nat.{ℕ, ◌%◌}
use mathlib.Core.Path.{◌≡◌}
use mathlib.Core.Bool.{true}
use borrow.Author.Tests.{eq-eqb, ne_eqb}
use lib.Dec.{ltb}
use Rattle.roles.specs.Cards.{is_bad_length}
use Rattle.roles.proofs.is_bad_length.Goals as goal

empty : (n : ℕ) → n ≡ 0 → true ≡ is_bad_length n
unfolding is_bad_length
empty n e = rw (eq-eqb n 0 e)

uneven : (n : ℕ) → (n ≡ 0 → ⊥) → (n % 80 ≡ 0 → ⊥) → true ≡ is_bad_length n
unfolding is_bad_length
uneven n some e = rw (ne_eqb n 0 some, ne_eqb (n % 80) 0 e)

even : (n : ℕ) → (n ≡ 0 → ⊥) → n % 80 ≡ 0 → ltb 57600 n ≡ is_bad_length n
unfolding is_bad_length
even n some e = rw (ne_eqb n 0 some, eq-eqb (n % 80) 0 e)

pub returns-then-n-eq0 : goal.returns-then-n-eq0
returns-then-n-eq0 c = empty c.args.n c.if-n-eq0.true

pub returns-then-n-ne0 : goal.returns-then-n-ne0
returns-then-n-ne0 c = uneven c.args.n c.if-n-eq0.false c.if-n-ne0.true

pub returns : goal.returns
returns c = even c.args.n c.if-n-eq0.false c.if-n-ne0.false
