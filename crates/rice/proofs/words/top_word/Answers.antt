-- `rice::words::top_word`: the one of the code word is counted with its bits, and taken off as the scale. Assumes nothing.
use native.Mathlib.Omega.{arith}
use lib.Count.{leading_le}
use Rattle.rice.proofs.Cutting.{xor_small, sum_fits, scale_within, word_told}
use Rattle.rice.proofs.words.top_word.Goals as goal

pub overflow_sub-used : goal.overflow_sub-used
overflow_sub-used c = omega (arith, xor_small _ (leading_le 64 c.args.w))

pub overflow_add-value : goal.overflow_add-value
overflow_add-value c =
    let a = c.args in
    record { fits = sum_fits a.w a.fs a.most a.scale c.ranges.w.fits c.requires.0 c.requires.1 c.requires.2 }

pub overflow_sub-value : goal.overflow_sub-value
overflow_sub-value c =
    let a = c.args in
    scale_within a.w a.fs a.most a.scale c.ranges.w.fits c.requires.0 c.requires.1 c.requires.2

pub returns : goal.returns
returns c =
    let a = c.args in
    word_told a.w a.fs a.most a.scale c.ranges.w.fits c.requires.0 c.requires.1 c.requires.2
