-- `roles::card_at` meets its contract: the card with a number is the piece of 80 bytes with that number, or else the blank one.
use Rattle.std.proofs.Common.{◌≡◌, ◌+◌, ◌*◌, ◌/◌, ◌<◌, ◌≤◌, ℕ, zero, suc, Bool, true, false, List, length, take, drop, slice_index_or, Bor}
use Rattle.std.proofs.Common.{refl, ap, ◌∙◌, arith}
use Rattle.std.specs.Prelude.{Option, Some, None, ltb, replicate}
use Rattle.std.specs.Option.{unwrap_or, option_map}
use Rattle.std.specs.Simd.{first_chunks}
use lib.Seq.{drop-drop}
use borrow.Author.Tests.{ltb-true, ltb-false}
use Prim.Native.Char.{code}
use Rattle.card.specs.Cards.{card_of}
use Rattle.roles.specs.Cards.{card_at}
use Rattle.roles.proofs.card_at.Goals as goal

-- a piece by its number, and what stands in its place where there is none
piece-here : (n i : ℕ) (h d : List ℕ) → i < n → slice_index_or (first_chunks 80 n h) i d ≡ take 80 (drop (i * 80) h)
piece-here zero i h d p = absurd (omega arith)
piece-here (suc n) zero h d p = refl
piece-here (suc n) (suc i) h d p =
    let bytes : 80 + i * 80 ≡ suc i * 80 = omega arith in
    piece-here n i (drop 80 h) d (omega arith) ∙ ap (take 80) (drop-drop (i * 80) 80 h ∙ ap (λ (k : ℕ). drop k h) bytes)

piece-past : (n i : ℕ) (h d : List ℕ) → n ≤ i → slice_index_or (first_chunks 80 n h) i d ≡ d
piece-past zero i h d p = refl
piece-past (suc n) zero h d p = absurd (omega arith)
piece-past (suc n) (suc i) h d p = piece-past n i (drop 80 h) d (omega arith)

lent : (r : Option (Bor (List ℕ))) (d : Bor (List ℕ)) → (unwrap_or r d).now ≡ unwrap_or (option_map (λ (x : Bor (List ℕ)). x.now) r) d.now
lent None d = refl
lent (Some x) d = refl

abbrev blank : List ℕ
blank = replicate 80 (code " ")

piece : (h : List ℕ) (i : ℕ) → card_of (slice_index_or (first_chunks 80 (length h / 80) h) i blank) ≡ card_at h i
unfolding card_at
piece h i = go (ltb i (length h / 80)) refl
  where
    go : (t : Bool) → ltb i (length h / 80) ≡ t → card_of (slice_index_or (first_chunks 80 (length h / 80) h) i blank) ≡ card_at h i
    go true e = ap card_of (piece-here (length h / 80) i h blank (ltb-true i (length h / 80) e)) ∙ rw e
    go false e = ap card_of (piece-past (length h / 80) i h blank (ltb-false i (length h / 80) e)) ∙ rw e

pub returns : goal.returns
returns c =
    let h = c.args.header.now in
    c.read_card.ensures
    ∙ ap card_of (ap (λ (x : Bor (List ℕ)). x.now) c.unwrap_or.ensures ∙ lent c.get.result _
    ∙ c.get.ensures.lookup.4 (omega arith) _
    ∙ ap (λ (l : List (List ℕ)). slice_index_or l c.args.i blank) c.as_chunks.ensures.front)
    ∙ piece h c.args.i
