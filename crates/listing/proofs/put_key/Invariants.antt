-- The words that are left, stored behind those that are, give all.
use Rattle.std.proofs.Common.{◌≡◌, ◌+◌, ◌-◌, ◌*◌, length, drop}
use lib.Seq.{sets}
use Rattle.listing.specs.Keys.{first_words, key_of}
use Rattle.listing.proofs.put_key.Given as goal

abbrev pub invariant-loop-q : goal.invariant-loop-q
invariant-loop-q l =
    (length l.keys ≡ length l.fn.keys)
    × (sets l.keys (l.at + l.q) (first_words (9 - l.q) (drop (l.q * 9) l.name)) ≡ sets l.fn.keys l.at (key_of l.name))
