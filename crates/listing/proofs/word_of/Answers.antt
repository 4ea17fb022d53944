-- `listing::word_of` meets its contract: the word so far is that of the bytes from k on, and it fits.
use Prim.Native.Nat.{ℕ, ◌+◌, ◌*◌, ◌-◌, ◌%◌, ◌^◌, ◌<◌, ◌≤◌}
use native.Mathlib.Omega.{arith}
use mathlib.Core.Path.{◌≡◌}
use mathlib.Core.List.{List}
use lib.ListN.{length, drop, get_or, length-drop}
use Rattle.listing.specs.Keys.{bytes_of_word, word_of}
use Rattle.listing.proofs.Keying.{word_fits, word_none, word_back}
use Rattle.listing.proofs.word_of.Goals as goal

-- the next word fits
next-fits : (s : List ℕ) (k word : ℕ) → 0 < k → k ≤ length s → length s ≤ bytes_of_word → word ≡ word_of (drop k s)
    → word * 129 + get_or s (k - 1) 0 % 128 + 1 < 129 ^ 9
next-fits s k word some within few e =
    omega (
      arith,
      word_back s k word some within e,
      word_fits (drop (k - 1) s) (omega (arith, length-drop (k - 1) s, few)),
    )

pub loop-k-init : goal.loop-k-init
loop-k-init c = (omega arith, word_none c.args.piece.now)

pub overflow_mul-word : goal.overflow_mul-word
overflow_mul-word c =
    let l = c.loop-k in
    let some : 0 < l.k = omega (arith, c.loop-k-test.true) in
    record { fits = omega (arith, next-fits c.args.piece.now l.k l.word some l.invariant.0 c.requires l.invariant.1) }

pub overflow_add-word : goal.overflow_add-word
overflow_add-word c =
    let l = c.loop-k in
    let some : 0 < l.k = omega (arith, c.loop-k-test.true) in
    record { fits = omega (arith, next-fits c.args.piece.now l.k l.word some l.invariant.0 c.requires l.invariant.1) }

pub overflow_add-word-in-loop-k : goal.overflow_add-word-in-loop-k
overflow_add-word-in-loop-k c =
    let l = c.loop-k in
    let some : 0 < l.k = omega (arith, c.loop-k-test.true) in
    record { fits = omega (arith, next-fits c.args.piece.now l.k l.word some l.invariant.0 c.requires l.invariant.1) }

pub loop-k-preserved : goal.loop-k-preserved
loop-k-preserved c =
    let l = c.loop-k in
    (omega (arith, l.invariant.0), word_back c.args.piece.now l.k l.word (omega (arith, c.loop-k-test.true)) l.invariant.0 l.invariant.1)
