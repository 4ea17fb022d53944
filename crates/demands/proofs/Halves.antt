-- Demands 2 and 3 for the two halves: both are given by what the header holds for their reader, and so is the answer of both at once.
use Rattle.std.specs.Prelude.{Err, Ok}
use Prim.Native.Nat.{ℕ}
use mathlib.Core.Path.{◌≡◌, refl, sym, ap, ◌∙◌}
use mathlib.Core.Bool.{Bool, true, false, cond, not, ◌&&◌, ◌||◌, true≢false}
use mathlib.Core.List.{List}
use lib.Dec.{leb, ltb}
use lib.ListN.{length}
use lib.Seq.{sets}
use borrow.Author.Tests.{leb-true, leb-false, le-ltb, lt-ltb}
use Rattle.refusal.specs.declared.Refusal.TheVariants as R
use Rattle.refusal.specs.Numbers.{fault_of}
use Rattle.text.specs.Text.{text_of}
use Rattle.roles.specs.Roles.{Held}
use Rattle.entries.specs.declared.NoEntry.TheVariants as N
use Rattle.entries.specs.Answers.{LookupOutcome, left_by, is_there, bytes_in, found_as, untouched, written, lookup_of, entry_of}
use Rattle.entries.specs.Halves.{Sought, stops, missing, holds, named, numbered}
use Rattle.entries.specs.Halves.{ValueOutcome, value_left, no_value, value_in}
use Rattle.entries.specs.Halves.{CommentOutcome, comment_left, comment_half, comment_in}
use Rattle.listing.specs.Listing.{place_of_value, place_of_comment}
use Rattle.agreeing.proofs.Both.{both_in, lookup_both, entry_both}
use Rattle.demands.specs.Halves.{is_short, is_comment_short, pair_of, Halves, LookupHalves, EntryHalves}
use Rattle.demands.specs.Halves.{ValueIsolation, CommentIsolation, ValueIsolationToEnd, CommentIsolationToEnd}
use Rattle.demands.specs.Halves.{ValuesKept, CommentsKept}
use Rattle.demands.proofs.Isolated.{sought_to_end, sought_isolated, sought_kept}

-- ---- the pair of halves

-- n bytes do not fit into m exactly where m is less
too_long : (n m : ℕ) → not (leb n m) ≡ ltb m n
too_long n m = go (leb n m) refl
  where
    go : (b : Bool) → leb n m ≡ b → not b ≡ ltb m n
    go true e = sym (le-ltb m n (leb-true n m e))
    go false e = sym (lt-ltb m n (leb-false n m e))

-- an entry that is there
module _ (v : Held) where
  abbrev s : List ℕ
  s = v.words.text

  abbrev c : List ℕ
  c = bytes_in v.words.comment

  -- the three answers, by whether text and comment fit
  abbrev value_by : Bool → List ℕ → ValueOutcome
  value_by b text =
      cond b
      (value_left (record { answer = Ok v.value; digits = text_of v.digits; text = length s }) (sets text 0 s))
      (value_left (no_value (N.Refused (fault_of R.BufferShort)) (length s)) text)

  abbrev comment_by_lem : Bool → List ℕ → CommentOutcome
  comment_by_lem d lent =
      cond d
      (comment_left (comment_half (Ok (is_there v.words.comment)) (length c)) (sets lent 0 c))
      (comment_left (comment_half (Err (N.Refused (fault_of R.BufferShort))) (length c)) lent)

  abbrev both_by : Bool → List ℕ → List ℕ → LookupOutcome
  both_by b text lent =
      cond b (left_by (found_as v) (sets text 0 s) (sets lent 0 c)) (untouched (N.Refused (fault_of R.BufferShort)) text lent)

  paired_by : (text lent : List ℕ) (b d : Bool) → is_short (value_by b text).answer.answer ≡ false
      → is_comment_short (comment_by_lem d lent).answer.answer ≡ false
      → pair_of (value_by b text) (comment_by_lem d lent) ≡ both_by (b && d) text lent
  paired_by text lent true true x y = refl
  paired_by text lent true false x y = absurd (true≢false y)
  paired_by text lent false d x y = absurd (true≢false x)

  short_by : (text lent : List ℕ) (b d : Bool) → is_short (both_by (b && d) text lent).answer.answer
      ≡ (is_short (value_by b text).answer.answer || is_comment_short (comment_by_lem d lent).answer.answer)
  short_by text lent true true = refl
  short_by text lent true false = refl
  short_by text lent false d = refl

  value-short : (b : Bool) (text : List ℕ) → is_short (value_by b text).answer.answer ≡ not b
  value-short true text = refl
  value-short false text = refl

  comment-short : (b : Bool) (lent : List ℕ) → is_comment_short (comment_by_lem b lent).answer.answer ≡ not b
  comment-short true lent = refl
  comment-short false lent = refl

  text_room_by : (text again : List ℕ) (b : Bool) → is_short (value_by b text).answer.answer ≡ true
      → is_short (value_by (leb (length s) (length again)) again).answer.answer ≡ ltb (length again) (value_by b text).answer.text
  text_room_by text again true x = absurd (true≢false (sym x))
  text_room_by text again false x = value-short (leb (length s) (length again)) again ∙ too_long (length s) (length again)

  comment-room_by : (lent again : List ℕ) (b : Bool) → is_comment_short (comment_by_lem b lent).answer.answer ≡ true
      → is_comment_short (comment_by_lem (leb (length c) (length again)) again).answer.answer
      ≡ ltb (length again) (comment_by_lem b lent).answer.comment
  comment-room_by lent again true x = absurd (true≢false (sym x))
  comment-room_by lent again false x = comment-short (leb (length c) (length again)) again ∙ too_long (length c) (length again)

-- whatever the header holds
halves_in : (x : Sought) → Halves (both_in x) (value_in x) (comment_in x)
unfolding value_in comment_in written
halves_in (stops s) =
    record {
      paired = λ text lent a b. refl;
      short = λ text lent. refl;
      text_room_lem = λ text again e. absurd (true≢false (sym e));
      comment-room = λ lent again e. absurd (true≢false (sym e));
    }
halves_in missing =
    record {
      paired = λ text lent a b. refl;
      short = λ text lent. refl;
      text_room_lem = λ text again e. absurd (true≢false (sym e));
      comment-room = λ lent again e. absurd (true≢false (sym e));
    }
halves_in (holds v) =
    record {
      paired = λ text lent. paired_by v text lent (leb (length (s v)) (length text)) (leb (length (c v)) (length lent));
      short = λ text lent. short_by v text lent (leb (length (s v)) (length text)) (leb (length (c v)) (length lent));
      text_room_lem = λ text again. text_room_by v text again (leb (length (s v)) (length text));
      comment-room = λ lent again. comment-room_by v lent again (leb (length (c v)) (length lent));
    }

-- and so where it is known what both give at once
halves_of : (both : List ℕ → List ℕ → LookupOutcome) (x : Sought)
    → ((text comment : List ℕ) → both text comment ≡ both_in x text comment) → Halves both (value_in x) (comment_in x)
halves_of both x is =
    let in-x : Halves (both_in x) (value_in x) (comment_in x) = halves_in x in
    record {
      paired = λ text lent a b. in-x.paired text lent a b ∙ sym (is text lent);
      short = λ text lent. ap (λ (o : LookupOutcome). is_short o.answer.answer) (is text lent) ∙ in-x.short text lent;
      text_room_lem = in-x.text_room_lem;
      comment-room = in-x.comment-room;
    }

pub lookup-halves : LookupHalves
lookup-halves h name = halves_of (lookup_of h name) (named h name) (lookup_both h name)

pub entry-halves : EntryHalves
entry-halves h i = halves_of (entry_of h i) (numbered h i) (entry_both h i)

-- ---- isolation

pub value_isolation_to_end : ValueIsolationToEnd
value_isolation_to_end text g h k a b but name other =
    ap (λ (x : Sought). value_in x text) (sought_to_end g h k a b but name other)

pub comment_isolation_to_end : CommentIsolationToEnd
comment_isolation_to_end comment g h k a b but name other =
    ap (λ (x : Sought). comment_in x comment) (sought_to_end g h k a b but name other)

pub value_isolation : ValueIsolation
value_isolation text g h k a b long places cards name other =
    ap (λ (x : Sought). value_in x text) (sought_isolated g h k a b long places cards name other)

pub comment_isolation : CommentIsolation
comment_isolation comment g h k a b long places cards name other =
    ap (λ (x : Sought). comment_in x comment) (sought_isolated g h k a b long places cards name other)

pub values_kept : ValuesKept
unfolding place_of_value
values_kept text g h k a b but name other i j s t =
    ap (λ (x : Sought). value_in x text) (sought_kept g h k a b but name other i j s t)

pub comments_kept : CommentsKept
unfolding place_of_comment
comments_kept comment g h k a b but name other i j s t =
    ap (λ (x : Sought). comment_in x comment) (sought_kept g h k a b but name other i j s t)
