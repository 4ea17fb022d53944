-- What writing answers and leaves, case by case.
use Rattle.std.specs.Prelude.{Err, Ok, Result}
use Prim.Native.Nat.{ℕ, ◌<◌, ◌≤◌}
use mathlib.Core.Path.{◌≡◌, refl, sym, ap, ◌∙◌}
use mathlib.Core.Bool.{Bool, true, false, true≢false, ◌&&◌}
use mathlib.Core.List.{List}
use borrow.Author.Tests.{le-leb, lt-leb}
use lib.ListN.{length}
use lib.Seq.{sets}
use Rattle.laws.proofs.Truths.{and_both, and_false}
use Rattle.refusal.specs.declared.Refusal.TheVariants.{UnwritableName, UnwritableValue, BlockShort}
use Rattle.refusal.specs.Numbers.{fault_of}
use Rattle.numbers.specs.declared.Value.{Value}
use Rattle.roles.specs.Roles.{Comment}
use Rattle.writing.specs.Pieces.{text_room}
use Rattle.writing.specs.Written.{written_cards}
use Rattle.writing.specs.Rules.{is_name, is_short, is_comment, is_value, is_writable}
use Rattle.writing.specs.Block.{flat, put_cards, not_written, write_of}
use Rattle.writing.specs.Passes.{write_outcome, put_where}
use Rattle.writing.proofs.Plain.{comment_over}
use Rattle.refusal.specs.declared.Fault.{Fault}

module _ {w : Bool} (cards : List (List ℕ)) {block : List ℕ} {r : Result ℕ Fault} where
  -- the value may not be written
  pub put_refused : w ≡ false → r ≡ Err (fault_of UnwritableValue) → write_outcome r block ≡ put_where w cards block
  unfolding put_where
  put_refused e f = rw e (ap (λ (a : Result ℕ Fault). write_outcome a block) f)

  -- the block is shorter than the cards
  pub put-short : w ≡ true → length block < length (flat cards) → r ≡ Err (fault_of BlockShort)
      → write_outcome r block ≡ put_where w cards block
  unfolding put_where put_cards
  put-short e h f = rw (e, lt-leb (length (flat cards)) (length block) h) (ap (λ (a : Result ℕ Fault). write_outcome a block) f)

-- a kind that is never written
pub kind_refused : {v : Value} (name text : List ℕ) (c : Comment) {block : List ℕ} {kind : Value} {r : Result ℕ Fault} → v ≡ kind
    → is_value kind text c ≡ false → r ≡ Err (fault_of UnwritableValue)
    → write_outcome r block ≡ put_where (is_value v text c) (written_cards v name text c) block
kind_refused name text c e never f = put_refused _ (ap (λ (k : Value). is_value k text c) e ∙ never) f

-- the cards are put
pub put_written : {w : Bool} (cards : List (List ℕ)) (block : List ℕ) {n : ℕ} {left : List ℕ} → w ≡ true
    → length (flat cards) ≤ length block → n ≡ length cards → left ≡ sets block 0 (flat cards)
    → write_outcome (Ok n) left ≡ put_where w cards block
unfolding put_where put_cards
put_written cards block e h n b = rw (e, le-leb (length (flat cards)) (length block) h) (λ j. write_outcome (Ok (n j)) (b j))

-- ---- the name, then the comment, then the value

module _ (name : List ℕ) (v : Value) (text : List ℕ) (c : Comment) (block : List ℕ) where
  pub name-refused : is_name name ≡ false → write_of name v text c block ≡ not_written UnwritableName block
  unfolding write_of
  name-refused e = rw e

  pub value_refused_lem : is_name name ≡ true → (is_short text_room c && is_comment c) ≡ false
      → write_of name v text c block ≡ not_written UnwritableValue block
  unfolding write_of is_writable
  value_refused_lem e f = rw (e, unwritable (is_short text_room c) refl (is_comment c) refl)
    where
      unwritable : (t : Bool) → is_short text_room c ≡ t → (u : Bool) → is_comment c ≡ u
          → (is_comment c && is_value v text c) ≡ false
      unwritable t p false q = rw q
      unwritable false p true q = and_false (is_comment c) (is_value v text c) (comment_over v text c p)
      unwritable true p true q = absurd (true≢false (sym (rw (p, q)) ∙ f))

  pub value-put : is_name name ≡ true → (is_short text_room c && is_comment c) ≡ true
      → put_where (is_value v text c) (written_cards v name text c) block ≡ write_of name v text c block
  unfolding write_of is_writable put_where
  value-put e f = rw (e, (and_both (is_short text_room c) (is_comment c) f).1)
