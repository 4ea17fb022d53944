-- Where written cards take the places of the name's old ones, which stand together, every other name is answered and borne as before,
-- and the name reads back and is borne once.
use Rattle.std.specs.Prelude.{Err, Result}
use Prim.Native.Nat.{ℕ, ◌/◌, ◌<◌, ◌≤◌}
use native.Mathlib.Omega.{arith}
use mathlib.Core.Path.{◌≡◌, sym, ap, ap₂, subst, ◌∙◌}
use mathlib.Core.Bool.{false, cond}
use mathlib.Core.List.{List, [], map}
use lib.ListN.{length, get_or}
use Rattle.refusal.specs.declared.Refusal.TheVariants as R
use Rattle.refusal.specs.Numbers.{fault_of}
use Rattle.numbers.specs.declared.Value.{Value}
use Rattle.roles.specs.Roles.{Comment, role_of}
use Rattle.roles.specs.Cards.{cards_of, roles_of, is_bad_length}
use Rattle.roles.proofs.Cards.{card_count_lem, role_count, role_is}
use Rattle.joining.specs.Belonging.{idle}
use Rattle.finding.specs.Finding.{stop_at, header_of}
use Rattle.writing.specs.Written.{written_cards}
use Rattle.demands.specs.Demands.{IsAccepted, is_of}
use Rattle.demands.proofs.Isolated.{isolation, sought_isolated}
use Rattle.demands.proofs.Times.{times_isolation}
use Rattle.rereading.specs.ReadsBack.{MayWrite, StandIn}
use Rattle.rereading.proofs.Owning.{Owns}
use Rattle.rereading.proofs.Answering.{written_owned, written_once}
use Rattle.rereading.proofs.Counting.{few-cards}
use Rattle.rereading.proofs.Headers.{reads-back, halves-read-back}
use Rattle.replacing.specs.Replacing.{Replaces, Together, Replacing}
use Rattle.replacing.proofs.Walking.{Begins, same-places, same-header, stands, times_begun}
use Rattle.replacing.proofs.Choosing.{its_within, Grouped, begins}
use Rattle.finding.specs.declared.Stop.{Stop}

-- cards that stand together have only commentary between them
together : (k g : List ℕ) → Together k g → Grouped k role_of idle (cards_of g)
together k g t p x y l u a b c =
    let within : y < length (roles_of g) = its_within k idle (roles_of g) y b in
    role_is g x (omega (arith, role_count g)) ∙ t.between p x y l u a b c

module _ (k : List ℕ) (v : Value) (text : List ℕ) (c : Comment) (may : MayWrite k v text c) (g h : List ℕ) (t : Together k g)
    (r : Replaces k g h (written_cards v k text c)) where
  abbrev new : List (List ℕ)
  new = written_cards v k text c

  counted : length (cards_of h) ≡ length (cards_of g)
  counted = card_count_lem h ∙ ap (λ (n : ℕ). n / 80) r.long ∙ sym (card_count_lem g)

  -- both headers, card by card
  begun : Begins k idle (roles_of g) (roles_of h) (map role_of new)
  begun =
      subst (λ (l : List (List ℕ)). Begins k idle (roles_of g) (roles_of h) (map role_of l)) r.taken
      (begins k role_of idle (cards_of g) (cards_of h) counted r.kept (together k g t)
      (λ q on. subst (λ (l : List (List ℕ)). Owns k q (map role_of l)) (sym r.taken)
      (written_owned k may.named text c q on v may.allowed))
      (subst (λ (l : List (List ℕ)). 1 ≤ length l) (sym r.taken) (few-cards k v text c may).0))

  -- END stands at the same card
  accepts : IsAccepted g → IsAccepted h
  unfolding header_of
  accepts a =
      let bad = Err (stop_at (fault_of R.HeaderLength) 0) in
      record {
        end = a.end;
        accepted = ap₂ (λ (n : ℕ) (x : Result ℕ Stop). cond (is_bad_length n) bad x) r.long (sym (same-header k begun 0)) ∙ a.accepted;
      }

  standing : StandIn h k new
  standing =
      let s = stands k begun in
      record { before = s.before; behind = s.behind; order = s.order; reached = s.reached; latest = s.latest }

pub replacing : Replacing
replacing k v text c may g h a t r =
    let b = accepts k v text c may g h t r a in
    let places : (p : ℕ) → is_of k g p ≡ is_of k h p = same-places k (begun k v text c may g h t r) in
    let counts : length (cards_of g) ≡ length (cards_of h) = sym (counted k v text c may g h t r) in
    let cards : (p : ℕ) → is_of k g p ≡ false → get_or (cards_of g) p [] ≡ get_or (cards_of h) p [] = λ p e. sym (r.kept p e) in
    let stand = standing k v text c may g h t r in
    record {
      accepted = b;
      places = places;
      others = isolation g h k a b counts places cards;
      back = reads-back k v text c may h b stand;
      others-named = sought_isolated g h k a b counts places cards;
      back-named = halves-read-back k v text c may h b stand;
      others-times = times_isolation g h k a b counts places cards;
      once = times_begun k (begun k v text c may g h t r) ∙ written_once k may.named text c v may.allowed;
    }
