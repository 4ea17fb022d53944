-- The block after writing: the cards stand at its front, and what follows them stays.
use Rattle.std.specs.Prelude.{Err, Ok, Result}
use Prim.Native.Nat.{ℕ, ◌*◌}
use native.Mathlib.Omega.{arith}
use mathlib.Core.Path.{◌≡◌, refl, sym, ap, ap₂, ◌∙◌}
use mathlib.Core.Bool.{Bool, true, false, cond}
use mathlib.Core.List.{List, ◌∷◌, ◌++◌, append_assoc}
use borrow.Author.Tests.{leb-true}
use lib.Dec.{leb}
use lib.ListN.{length, take, drop, length-append}
use lib.Seq.{take_at, drop_at, sets, length-sets}
use Rattle.laws.proofs.Truths.{false≢true}
use Rattle.refusal.specs.declared.Refusal.{Refusal}
use Rattle.text.specs.Text.{size}
use Rattle.text.proofs.Laying.{sets-front}
use Rattle.roles.specs.Cards.{cards_in}
use Rattle.writing.specs.Written.{written_cards}
use Rattle.writing.specs.Rules.{is_name, is_writable}
use Rattle.writing.specs.Block.{flat, WriteOutcome, not_written, put_cards, write_of}
use Rattle.rereading.specs.ReadsBack.{AtFront, BlockHolds}
use Rattle.rereading.proofs.Lists.{All, no_more, also}
use Rattle.rereading.proofs.Lengths.{IsWhole, written-whole}
use Rattle.refusal.specs.declared.Refusal.TheVariants as R
use Rattle.refusal.specs.declared.Fault.{Fault}

-- ---- whole cards, one after another
pub flat-long : {cs : List (List ℕ)} → All IsWhole cs → length (flat cs) ≡ length cs * size
unfolding flat
flat-long no_more = refl
flat-long (also {x} {l} h w) =
    length-append x (flat l) ∙ (let later : length (flat l) ≡ length l * size = flat-long w in omega arith)

-- they are read card by card, whatever follows
pub cards-front : {cs : List (List ℕ)} → All IsWhole cs → (r : List ℕ) → cards_in (length cs) (flat cs ++ r) ≡ cs
unfolding cards_in flat
cards-front no_more r = refl
cards-front (also {x} {l} h w) r =
    let apart : (x ++ flat l) ++ r ≡ x ++ (flat l ++ r) = append_assoc x (flat l) r in
    ap₂ ◌∷◌ (ap (take size) apart ∙ take_at x (flat l ++ r) size h)
    (ap (λ (s : List ℕ). cards_in (length l) (drop size s)) apart ∙ ap (cards_in (length l)) (drop_at x (flat l ++ r) size h)
    ∙ cards-front w r)

-- ---- what was answered tells what was done

abbrev is_count : Result ℕ Fault → Bool
is_count (Ok n) = true
is_count (Err f) = false

abbrev count_of : Result ℕ Fault → ℕ
count_of (Ok n) = n
count_of (Err f) = 0

-- where cards are answered, nothing was refused
passed : (u : Bool) (o : WriteOutcome) (why : Refusal) (block : List ℕ) (n : ℕ) → (cond u o (not_written why block)).answer ≡ Ok n
    → (u ≡ true) × (o.answer ≡ Ok n)
passed true o why block n e = (refl, e)
passed false o why block n e = absurd (false≢true (ap is_count e))

pub block-holds : BlockHolds
unfolding write_of put_cards
block-holds name v text c block n e =
    let cs = written_cards v name text c in
    let (named, on) = passed (is_name name) _ R.UnwritableName block n e in
    let (allowed, put) = passed (is_writable v text c) _ R.UnwritableValue block n on in
    let (enough, wrote) = passed (leb (length (flat cs)) (length block)) _ R.BlockShort block n put in
    holds named allowed enough (ap count_of wrote)
  where
    holds : is_name name ≡ true → is_writable v text c ≡ true
        → leb (length (flat (written_cards v name text c))) (length block) ≡ true → length (written_cards v name text c) ≡ n
        → AtFront name v text c block (write_of name v text c block).block n
    holds named allowed enough count =
        let cs = written_cards v name text c in
        let w : All IsWhole cs = written-whole name named text c v allowed in
        let new : (write_of name v text c block).block ≡ sets block 0 (flat cs) = rw (named, allowed, enough) in
        let behind = drop (length (flat cs)) block in
        let shape : (write_of name v text c block).block ≡ flat cs ++ behind =
        new ∙ sets-front (flat cs) block (leb-true (length (flat cs)) (length block) enough) in
        let end : length (flat cs) ≡ n * size = flat-long w ∙ ap (λ (k : ℕ). k * size) count in
        record {
          may = record { named = named; allowed = allowed };
          front = ap₂ cards_in (sym count) shape ∙ cards-front w behind;
          rest = ap (drop (n * size)) shape ∙ drop_at (flat cs) behind (n * size) end ∙ ap (λ (k : ℕ). drop k block) end;
          length-kept = ap length new ∙ length-sets block 0 (flat cs);
        }
