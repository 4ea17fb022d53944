-- `splitting::split` meets its contract: the text without its blanks is taken apart, and lengths say where it begins.
use Prim.Native.Nat.{ℕ, ◌-◌, ◌≤◌}
use native.Mathlib.Omega.{arith}
use mathlib.Core.Path.{◌≡◌, ◌∙◌, ap, ap₂}
use mathlib.Core.List.{List}
use lib.ListN.{length, drop, length-drop}
use Rattle.text.specs.Bytes.{is_space, is_blank}
use Rattle.text.specs.Trim.{trim_start, trim_end, trim}
use Rattle.text.specs.Text.{size}
use Rattle.text.proofs.Trimming.{start_shorter, shorter, end_twice, space_blank}
use Rattle.splitting.specs.Columns.{first_byte}
use Rattle.splitting.specs.Scanned.{first_of, halves_at}
use Rattle.splitting.proofs.Splitting.{first_by_lengths, byte-within, halves_placed_lem}
use borrow.Author.Rules.{rules}
use Rattle.splitting.proofs.split.Goals as goal

few : (from : ℕ) (card : List ℕ) → length card ≡ size → length (drop from card) ≤ size - from
few from card long = omega (arith, length-drop from card, long)

-- the blanks at the front cut, then those at the end
trims : (t : List ℕ) {a b c : List ℕ} → a ≡ trim_start is_blank t → b ≡ trim_end is_space a → c ≡ trim_end is_blank b → c ≡ trim is_blank t
unfolding trim
trims t d e f = f ∙ ap (trim_end is_blank) (e ∙ ap (trim_end is_space) d) ∙ end_twice is_blank is_space space_blank (trim_start is_blank t)

-- where it begins
begins : (from : ℕ) (t : List ℕ) {first : ℕ} {raw rest : List ℕ} → raw ≡ t → rest ≡ trim_start is_blank t
    → first ≡ first_of from (length raw) (length rest) → first ≡ first_byte from t
begins from t r s f = f ∙ ap₂ (first_of from) (ap (length {A = ℕ}) r) (ap (length {A = ℕ}) s) ∙ first_by_lengths from t

pub first_byte-first-requires : goal.first_byte-first-requires
first_byte-first-requires c =
    let from = c.args.from in
    let card = c.args.card.now in
    let long : length card ≡ size = search rules in
    let raw = c.rest_of-raw.ensures in
    let all = ap (length {A = ℕ}) raw in
    let left = ap (length {A = ℕ}) (c.trim_start-rest.ensures ∙ ap (trim_start is_blank) raw) in
    (omega (arith, all, left, start_shorter is_blank (drop from card)), omega (arith, all, few from card long))

pub halves_of-halves-requires : goal.halves_of-halves-requires
halves_of-halves-requires c =
    let from = c.args.from in
    let card = c.args.card.now in
    let given = drop from card in
    let long : length card ≡ size = search rules in
    let raw = c.rest_of-raw.ensures in
    let rest = c.trim_start-rest.ensures ∙ ap (trim_start is_blank) raw in
    let short = ap (length {A = ℕ}) (trims given rest c.trim_end.ensures c.trim_end-2.ensures) in
    let low = byte-within from given (few from card long) 0 in (
      omega (arith, short, shorter is_blank given, few from card long),
      λ some. omega (arith, begins from given raw rest c.first_byte-first.ensures, low (omega (arith, short, some))),
    )

pub returns : goal.returns
returns c =
    let from = c.args.from in
    let given = drop from c.args.card.now in
    let raw = c.rest_of-raw.ensures in
    let rest = c.trim_start-rest.ensures ∙ ap (trim_start is_blank) raw in
    let first = begins from given raw rest c.first_byte-first.ensures in
    let halves =
    c.halves_of-halves.ensures
    ∙ ap₂ halves_at first (trims given rest c.trim_end.ensures c.trim_end-2.ensures)
    ∙ halves_placed_lem from given in
    λ j. record { first = first j; halves = halves j }
