-- The line of the name at a place: what is read there, and that it fits.
use Rattle.std.specs.Prelude.{Ok, Err, Result, Option}
use Rattle.std.proofs.lemmas.List.{get_or-map}
use Prim.Native.Nat.{ℕ, zero, suc, ◌+◌, ◌/◌, ◌≤◌, ◌<◌}
use native.Mathlib.Nat.{add_assoc}
use native.Mathlib.Omega.{arith}
use mathlib.Core.Path.{◌≡◌, sym, ap, subst, ◌∙◌}
use mathlib.Core.List.{List, [], ◌∷◌, ◌++◌}
use borrow.Author.Tests.{le-leb}
use lib.ListN.{length, get_or, take, length-append, length-map}
use lib.Seq.{sets, length-take-le}
use Rattle.refusal.specs.declared.Fault.{Fault}
use Rattle.text.specs.Text.{text_of, bytes_of}
use Rattle.card.specs.declared.CardRead.{CardRead}
use Rattle.card.specs.Cards.{card_of}
use Rattle.roles.specs.declared.Role.{Role as Told}
use Rattle.roles.specs.declared.Role.TheVariants as T
use Rattle.roles.specs.Roles.{Held, Role, entry, neutral, role_by, role_in, role_read}
use Rattle.roles.specs.Cards.{roles_of, card_no, card_at}
use Rattle.roles.proofs.Cards.{role_count, role_is}
use Rattle.roles.proofs.Counting.{card-here}
use Rattle.joining.specs.Lookup.{lookup}
use Rattle.finding.specs.Finding.{header_of}
use Rattle.entries.specs.declared.ValueHalf.{ValueHalf}
use Rattle.entries.specs.Halves.{Sought, held_in, value_left, value_in, value_numbered}
use Rattle.entries.proofs.Looking.{accepted_good}
use Rattle.listing.specs.Listing.{free, name_of, list_of}
use Rattle.listing.proofs.Lengths.{all_places}
use Rattle.lines.specs.Lines.{entry_line}
use Rattle.agreeing.specs.Firsts.{times_borne}
use Rattle.agreeing.specs.Agreeing.{PlaceTaken, FoundIn, names_listed}
use Rattle.agreeing.proofs.Agreed.{by_cards, sought_at_lem, each_taken, each_standing}
use Rattle.agreeing.proofs.Times.{times-at_place}
use Rattle.agreeing.proofs.Naming.{first-long, name_kth}
use Rattle.bounds.specs.Longest.{longest_text, Short}
use Rattle.bounds.proofs.Joined.{each_short}
use Rattle.printing.specs.Output.{line_for, name_lines, in_order}

-- a value that was found
abbrev pub half_of : Held → ValueHalf
half_of v = record { answer = Ok v.value; digits = text_of v.digits; text = length v.words.text }

-- ---- lines one behind the other
pub in_order_next : (ls : List (List ℕ)) (k : ℕ) → k < length ls
    → length (in_order (take (k + 1) ls)) ≡ length (in_order (take k ls)) + length (get_or ls k [])
unfolding in_order
in_order_next [] k p = absurd (omega arith)
in_order_next (l ∷ ls) zero p = omega (arith, length-append l [])
in_order_next (l ∷ ls) (suc k) p =
    let number : suc k + 1 ≡ suc (k + 1) = omega arith in
    let next : in_order (take (suc k + 1) (l ∷ ls))
    ≡ l ++ in_order (take (k + 1) ls) = ap (λ (n : ℕ). in_order (take n (l ∷ ls))) number in
    ap length next
    ∙ length-append l (in_order (take (k + 1) ls))
    ∙ ap (λ (n : ℕ). length l + n) (in_order_next ls k (omega arith))
    ∙ sym (add_assoc (length l) (length (in_order (take k ls))) (length (get_or ls k [])))
    ∙ ap (λ (n : ℕ). n + length (get_or ls k [])) (sym (length-append l (in_order (take k ls))))

-- ---- a card that is an entry is read, and bears its name
abbrev pub BearsName : List ℕ → Result CardRead Fault → Type 0
BearsName n (Ok r) = bytes_of r.name ≡ n
BearsName n (Err f) = ⊥

entry_named : (t : Told) (r : CardRead) (n : List ℕ) (v : Held) → role_in t r ≡ entry n v → bytes_of r.name ≡ n
entry_named (T.Entry w joins) r n v e = cc
entry_named T.More r n v e = cc
entry_named T.Neutral r n v e = cc
entry_named T.Last r n v e = cc

entry_read : (a : Result CardRead Fault) (n : List ℕ) (v : Held) → role_read a ≡ entry n v → BearsName n a
entry_read (Ok r) n v e = entry_named (role_by r.card) r n v e
entry_read (Err f) n v e = absurd (let z : ◌≡◌ {A = ℕ} 0 1 = cc in omega arith)

inside : (rs : List Role) (i : ℕ) (n : List ℕ) (v : Held) → get_or rs i neutral ≡ entry n v → i < length rs
inside [] i n v e = absurd (let z : ◌≡◌ {A = ℕ} 0 1 = cc in omega arith)
inside (r ∷ rs) zero n v e = omega arith
inside (r ∷ rs) (suc i) n v e = omega (arith, inside rs i n v e)

card-named : (h : List ℕ) (i : ℕ) (n : List ℕ) (v : Held) → get_or (roles_of h) i neutral ≡ entry n v
    → BearsName n (card_at h i)
card-named h i n v e =
    let within : i < length h / 80 = omega (arith, inside (roles_of h) i n v e, role_count h) in
    subst (BearsName n) (sym (card-here h i within)) (entry_read (card_of (card_no h i)) n v (sym (role_is h i within) ∙ e))

-- ---- the name at place k of an accepted header
module _ (h : List ℕ) (end : ℕ) (a : header_of h ≡ Ok end) where
  -- its arrays have a number for each name, and so a place
  pub last-long : (list_of h).count ≤ length (list_of h).last
  last-long = let all = all_places h in omega (arith, all.last, all.few)

  pub times_long : (list_of h).count ≤ length (list_of h).times
  times_long = let all = all_places h in omega (arith, all.times, all.few)

  pub few-names : (list_of h).count ≤ 720
  few-names = (all_places h).few

  -- a line for each name
  abbrev lined : List ℕ → List ℕ
  lined n = line_for n (lookup n (roles_of h)) (times_borne n (roles_of h))

  pub as_many : length (name_lines h) ≡ (list_of h).count
  as_many =
      let firsts = take (list_of h).count (list_of h).first in
      let named : ℕ → List ℕ = λ i. name_of (get_or (roles_of h) i neutral) in
      length-map (names_listed h) lined
      ∙ length-map firsts named
      ∙ length-take-le (list_of h).count (list_of h).first (first-long h end a)

  module _ (k : ℕ) (p : k < (list_of h).count) where
    pub taken : PlaceTaken h k
    taken = each_taken h end a k p

    abbrev pub name : List ℕ
    name = taken.name

    pub found : FoundIn h name
    found = each_standing h end a name (record { place = k; stands = taken.stands })

    abbrev pub value : Held
    value = found.held

    short : Short value
    short = each_short h name value (accepted_good h end a) found.is

    -- the place's first card bears the name
    pub first-named : BearsName name (card_at h (get_or (list_of h).first k free))
    first-named = card-named h (get_or (list_of h).first k free) name taken.stands.held taken.stands.bears

    -- the value of the entry at its last card is read whole where the buffer is wide
    pub read_whole : (text : List ℕ) → longest_text ≤ length text
        → value_numbered h (get_or (list_of h).last k free) text ≡ value_left (half_of value) (sets text 0 value.words.text)
    unfolding value_in
    read_whole text wide =
        ap (λ (x : Sought). value_in x text)
        (sought_at_lem h end a name k taken.stands ∙ by_cards h end a name ∙ ap held_in found.is)
        ∙ rw (le-leb (length value.words.text) (length text) (omega (arith, short.text)))

    -- the line is one of the header's
    pub line-is : get_or (name_lines h) k []
        ≡ entry_line name value.value value.digits value.words.text (times_borne name (roles_of h))
    line-is =
        let names-long : k < length (names_listed h) = omega (arith, p, as_many, length-map (names_listed h) lined) in
        get_or-map lined (names_listed h) k [] [] names-long
        ∙ ap lined (name_kth h end a name k taken.stands)
        ∙ ap (λ (o : Option Held). line_for name o (times_borne name (roles_of h))) found.is

    -- and the number at the place is its own
    pub number_is : get_or (list_of h).times k 0 ≡ times_borne name (roles_of h)
    number_is = times-at_place h end a name k taken.stands

    -- a text that fits its buffer
    pub text-fits : length value.words.text ≤ longest_text
    text-fits = short.text
