-- A text that is made visible piece by piece.
use Prim.Native.Nat.{ℕ, ◌+◌, ◌-◌, ◌*◌, ◌≤◌}
use native.Mathlib.Omega.{arith}
use mathlib.Core.Path.{◌≡◌, refl, sym, ap, subst, ◌∙◌}
use mathlib.Core.Bool.{Bool, true, false}
use mathlib.Core.List.{List, [], ◌∷◌, ◌++◌, append_assoc}
use lib.ListN.{length, take, length-append, length-take}
use Rattle.text.specs.Bytes.{line_feed}
use Rattle.text.specs.Ends.{stem}
use Rattle.escaping.specs.Escaping.{escaped_byte, escaped}
use Rattle.escaping.proofs.Showing.{byte-few}
use Rattle.std.specs.Prelude.{Result, Ok}
use Rattle.output.specs.declared.Cut.{Cut}
use Rattle.output.specs.Shown.{printed_line, IsWhole}

-- two texts, one behind the other
pub escaped-append : (s t : List ℕ) → escaped (s ++ t) ≡ escaped s ++ escaped t
unfolding escaped
escaped-append [] t = refl
escaped-append (b ∷ s) t =
    ap (λ (r : List ℕ). escaped_byte b ++ r) (escaped-append s t) ∙ sym (append_assoc (escaped_byte b) (escaped s) (escaped t))

-- a text becomes four times as long at most
pub escaped-few : (s : List ℕ) → length (escaped s) ≤ 4 * length s
unfolding escaped
escaped-few [] = omega arith
escaped-few (b ∷ s) = omega (arith, length-append (escaped_byte b) (escaped s), byte-few b, escaped-few s)

-- what is left of a text, counted with the piece at its front
pub piece_counted : (left part rest : List ℕ) → left ≡ part ++ rest
    → length (escaped left) ≡ length (escaped part) + length (escaped rest)
piece_counted left part rest e =
    ap (λ (l : List ℕ). length (escaped l)) e ∙ ap length (escaped-append part rest) ∙ length-append (escaped part) (escaped rest)

-- behind the last byte nothing is left
pub nothing_left : length (escaped []) ≡ 0
unfolding escaped
nothing_left = refl

-- how many bytes a text has that was written whole
pub counted : {r : Result ℕ Cut} {n : ℕ} (s : List ℕ) → r ≡ Ok n → IsWhole r s → n ≡ length s
counted s e w = subst (λ (x : Result ℕ Cut). IsWhole x s) e w

-- how many bytes stand before a line's feed, where that part was made visible
pub before_feed : {r : Result ℕ Cut} {n k : ℕ} {s : List ℕ} (line : List ℕ) → r ≡ Ok n → IsWhole r (escaped s) → s ≡ take k line
    → k ≡ length line - 1 → n ≡ length (escaped (take (length line - 1) line))
before_feed {s = s} line is whole part end =
    counted (escaped s) is whole ∙ ap (λ (l : List ℕ). length (escaped l)) (part ∙ ap (λ (i : ℕ). take i line) end)

-- a line that is shown is at most four times as long and a byte
pub line-few : (t : Bool) (line : List ℕ) → length (printed_line t line) ≤ 4 * length line + 1
unfolding printed_line stem
line-few false line = omega arith
line-few true line =
    omega (
      arith,
      length-append (escaped (take (length line - 1) line)) (line_feed ∷ []),
      escaped-few (take (length line - 1) line),
      length-take (length line - 1) line,
    )

-- a line as it stands
pub plain_line_lem : (t : Bool) (line : List ℕ) → t ≡ false → printed_line t line ≡ line
unfolding printed_line
plain_line_lem t line e = rw e

-- a line made visible, and its line feed
pub visible_line : (t : Bool) (line : List ℕ) {n : ℕ} → t ≡ true → n ≡ length (escaped (take (length line - 1) line))
    → n + 1 ≡ length (printed_line t line)
unfolding printed_line stem
visible_line t line e is = rw e (omega (arith, is, length-append (escaped (take (length line - 1) line)) (line_feed ∷ [])))
