-- What is written reads back within a header: other cards before, commentary between, and no later card of the name.
use Rattle.std.specs.Prelude.{Option, Some}
use Prim.Native.Nat.{ℕ}
use mathlib.Core.Path.{◌≡◌, refl, sym, ap, ap₂, ◌∙◌}
use mathlib.Core.Bool.{true, cond}
use mathlib.Core.List.{List, [], ◌∷◌, ◌++◌, map}
use Rattle.laws.proofs.Truths.{false≢true}
use Rattle.numbers.specs.declared.Value.{Value}
use Rattle.roles.specs.Roles.{Comment, Words, Held, Role, entry, more, neutral, last, refused, role_of}
use Rattle.roles.specs.Cards.{roles_of}
use Rattle.joining.specs.Words.{opens, join_words}
use Rattle.joining.specs.Lookup.{join_on, or_else, if_same, lookup}
use Rattle.entries.specs.Halves.{holds, held_in}
use Rattle.agreeing.proofs.Agreed.{by_cards}
use Rattle.agreeing.proofs.Both.{both_told}
use Rattle.writing.specs.Written.{written_cards, held_for}
use Rattle.rereading.specs.ReadsBack.{MayWrite, spoken, goes_on, StandIn, ReadsBack, HalvesReadBack}
use Rattle.rereading.proofs.Answering.{written_back}

-- ---- commentary counts for nothing
join_spoken : (w : Words) (h : List Role) → join_on w (spoken h) ≡ join_on w h
unfolding join_on spoken
join_spoken w [] = refl
join_spoken w (entry n v ∷ h) = refl
join_spoken w (more t c ∷ h) = ap (λ (x : Words). cond (opens w) x w) (join_spoken (join_words w t c) h)
join_spoken w (neutral ∷ h) = join_spoken w h
join_spoken w (last ∷ h) = refl
join_spoken w (refused f ∷ h) = join_spoken w h

pub lookup-spoken : (n : List ℕ) (h : List Role) → lookup n (spoken h) ≡ lookup n h
unfolding lookup spoken
lookup-spoken n [] = refl
lookup-spoken n (entry m v ∷ h) =
    let held-so : Words → Held = λ w. record { value = v.value; digits = v.digits; words = w } in
    ap₂ (λ (x : Option Held) (w : Words). or_else x (if_same m n (held-so w))) (lookup-spoken n h) (join_spoken v.words h)
lookup-spoken n (more t c ∷ h) = lookup-spoken n h
lookup-spoken n (neutral ∷ h) = lookup-spoken n h
lookup-spoken n (last ∷ h) = refl
lookup-spoken n (refused f ∷ h) = lookup-spoken n h

-- an answer stays behind other cards, where none of them is END
pub lookup-behind : (n : List ℕ) (b h : List Role) (v : Held) → goes_on b ≡ true → lookup n h ≡ Some v
    → lookup n (b ++ h) ≡ Some v
unfolding lookup goes_on
lookup-behind n [] h v g e = e
lookup-behind n (entry m w ∷ b) h v g e = rw (lookup-behind n b h v g e)
lookup-behind n (more t c ∷ b) h v g e = lookup-behind n b h v g e
lookup-behind n (neutral ∷ b) h v g e = lookup-behind n b h v g e
lookup-behind n (last ∷ b) h v g e = absurd (false≢true g)
lookup-behind n (refused f ∷ b) h v g e = lookup-behind n b h v g e

-- ---- roles of a header in which the written cards stand in order
pub answered_among : (name : List ℕ) (v : Value) (text : List ℕ) (c : Comment) → MayWrite name v text c
    → (h : List ℕ) → StandIn h name (written_cards v name text c) → lookup name (roles_of h) ≡ Some (held_for v text c)
answered_among name v text c may h stand =
    sym (lookup-spoken name (roles_of h)) ∙ ap (lookup name) stand.order
    ∙ lookup-behind name stand.before (map role_of (written_cards v name text c) ++ stand.behind) (held_for v text c) stand.reached
    (written_back name may.named text c stand.behind stand.latest v may.allowed)

pub halves-read-back : HalvesReadBack
halves-read-back name v text c may h accepted stand =
    by_cards h accepted.end accepted.accepted name ∙ ap held_in (answered_among name v text c may h stand)

pub reads-back : ReadsBack
reads-back name v text c may h accepted stand lent-text lent-comment =
    both_told lent-text lent-comment h name (holds (held_for v text c)) (halves-read-back name v text c may h accepted stand)
