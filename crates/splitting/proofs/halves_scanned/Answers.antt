-- `splitting::halves_scanned` meets its contract: the scan says where, and the parts are trimmed and copied.
use Rattle.std.specs.Prelude.{Some, None, Ok, Err}
use Prim.Native.Nat.{ℕ, ◌+◌}
use native.Mathlib.Numerals.{add-one}
use native.Mathlib.Omega.{arith}
use mathlib.Core.Path.{◌≡◌, ◌∙◌, ap, sym, subst}
use mathlib.Core.List.{List, map}
use lib.ListN.{length, drop}
use Rattle.text.specs.Bytes.{is_space, shown}
use Rattle.text.specs.Trim.{trim_end}
use Rattle.text.specs.Text.{text_of, bytes_of}
use Rattle.text.proofs.Trimming.{take_rest}
use Rattle.splitting.specs.declared.Slash.{Slash}
use Rattle.splitting.specs.declared.Slash.TheVariants.{At, Nowhere, Bad}
use Rattle.splitting.specs.declared.Scanned.{Scanned}
use Rattle.splitting.specs.Scanned.{scanned_of, halves_at}
use Rattle.splitting.proofs.Splitting.{Below, scanned_within, parts_from, parts_found}
use Rattle.splitting.proofs.halves_scanned.Goals as goal

-- the place that an arm knows lies within the text
below : (s : List ℕ) (f : Scanned) (p : Slash) → f ≡ scanned_of s → f.slash ≡ p → Below (length s) p
below s f p e is = subst (Below (length s)) is (scanned_within s f e).1

-- the parts at the place that an arm knows are those of the text
by : (first : ℕ) (s : List ℕ) (f : Scanned) (p : Slash) → f ≡ scanned_of s → f.slash ≡ p
    → parts_from first p s (bytes_of f.value) ≡ halves_at first s
by first s f p e is = ap (λ (x : Slash). parts_from first x s (bytes_of f.value)) (sym is) ∙ parts_found first s f e

pub overflow_add-i : goal.overflow_add-i
overflow_add-i c =
    let h = below c.args.s.now c.scan-found.result (At c.in-At.i) c.scan-found.ensures c.in-At.is in
    omega (arith, h, c.requires.0)

pub slice_bounds-comment_of-count : goal.slice_bounds-comment_of-count
slice_bounds-comment_of-count c =
    let h = below c.args.s.now c.scan-found.result (At c.in-At.i) c.scan-found.ensures c.in-At.is in
    omega (arith, h)

pub slice_bounds-comment_of-start : goal.slice_bounds-comment_of-start
slice_bounds-comment_of-start c =
    let h = below c.args.s.now c.scan-found.result (At c.in-At.i) c.scan-found.ensures c.in-At.is in
    omega (arith, h)

pub overflow_add-first : goal.overflow_add-first
overflow_add-first c =
    let h = below c.args.s.now c.scan-found.result (Bad c.in-Bad.i) c.scan-found.ensures c.in-Bad.is in
    omega (arith, h, c.requires.0, c.requires.1 (omega (arith, h)))

pub returns-in-At : goal.returns-in-At
returns-in-At c =
    let a = c.args in
    let s = a.s.now in
    let i = c.in-At.i in
    let behind = take_rest s (i + 1) ∙ ap (λ (k : ℕ). drop k s) (add-one i) in
    let comment = c.comment_of.ensures ∙ ap (λ (l : List ℕ). text_of (trim_end is_space (map shown l))) behind in
    (λ j. Ok (record { value = c.spaces_off-value.ensures j; comment = Some (comment j) }))
    ∙ by a.first s c.scan-found.result (At i) c.scan-found.ensures c.in-At.is

pub returns-in-Nowhere : goal.returns-in-Nowhere
returns-in-Nowhere c =
    (λ j. Ok (record { value = c.spaces_off-value.ensures j; comment = None }))
    ∙ by c.args.first c.args.s.now c.scan-found.result Nowhere c.scan-found.ensures c.in-Nowhere.is

pub returns-in-Bad : goal.returns-in-Bad
returns-in-Bad c =
    (λ j. Err (c.fault_at.ensures j))
    ∙ by c.args.first c.args.s.now c.scan-found.result (Bad c.in-Bad.i) c.scan-found.ensures c.in-Bad.is
