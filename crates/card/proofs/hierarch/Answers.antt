-- `card::hierarch` meets its contract: by where the = stands, and by whether a name stands before it.
use Rattle.std.proofs.Common.{◌≡◌, ◌+◌, ◌≤◌, ℕ, List, [], ◌∷◌, length, take, drop, length-drop, refl, sym, ap, ◌∙◌, arith, rules}
use Rattle.std.specs.Prelude.{Err, None, Option, Result, Some}
use Prim.Native.Char.{code}
use mathlib.Core.Bool.{true}
use Rattle.refusal.specs.declared.Fault.{Fault}
use Rattle.refusal.specs.declared.Refusal.TheVariants as R
use Rattle.refusal.specs.Numbers.{fault_of, answer_placed}
use Rattle.text.specs.declared.Text.{Text}
use Rattle.text.specs.Place.{place_of}
use Rattle.text.specs.Text.{size, text_of}
use Rattle.text.proofs.Finding.{found_within}
use Rattle.value.specs.Values.{value_of, value_from}
use Rattle.card.specs.declared.CardRead.{CardRead}
use Rattle.card.specs.Keywords.{dotted_name}
use Rattle.card.specs.Columns.{equals_of, behind, column_in}
use Rattle.card.specs.Cards.{of_value, named, by_equals, hierarch_of}
use Rattle.card.proofs.Placing.{nameless_in, named_in}
use Rattle.card.proofs.hierarch.Goals as goal

-- a card with the column beside its refusal
abbrev columned : List ℕ → Result CardRead Fault → Result CardRead Fault
columned c r = answer_placed (column_in (behind (equals_of c)) c) r

nameless : (n raw : List ℕ) → length n ≡ 0 → ◌≡◌ {A = Result CardRead Fault} (Err (fault_of R.NoName)) (named n raw)
nameless [] raw e = refl
nameless (b ∷ n) raw e = absurd (omega arith)

with-name : (n raw : List ℕ) → (length n ≡ 0 → ⊥) → of_value true (text_of n) (value_of raw) ≡ named n raw
with-name [] raw e = absurd (e refl)
with-name (b ∷ n) raw e = refl

-- the place that is known gives the card
by : (c : List ℕ) (p : Option ℕ) → equals_of c ≡ p → by_equals p c ≡ hierarch_of c
unfolding hierarch_of
by c p e = ap (λ (x : Option ℕ). by_equals x c) (sym e)

-- the = as it is found in the part that is looked through
equals : (c t : List ℕ) {p q : Option ℕ} → p ≡ place_of (code "=") t → t ≡ drop 9 c → p ≡ q → equals_of c ≡ q
equals c t e is known = sym (e ∙ ap (place_of (code "=")) is) ∙ known

few : (c : List ℕ) (i : ℕ) → length c ≡ size → equals_of c ≡ Some i → i ≤ size
few c i long e = omega (arith, found_within (code "=") (drop 9 c) i e, length-drop 9 c)

-- the name before it
name-is : (c t u : List ℕ) (i : ℕ) {x : Text} → x ≡ text_of (dotted_name u) → u ≡ take i t → t ≡ drop 9 c
    → x ≡ text_of (dotted_name (take i (drop 9 c)))
name-is c t u i e part rest = e ∙ ap (λ (l : List ℕ). text_of (dotted_name l)) (part ∙ ap (take i) rest)

-- a value behind a name
valued : (c : List ℕ) (i : ℕ) {x : Text} → equals_of c ≡ Some i
    → x ≡ text_of (dotted_name (take i (drop 9 c))) → (x.len ≡ 0 → ⊥)
    → of_value true x (value_from (10 + i) (drop (10 + i) c)) ≡ columned c (hierarch_of c)
valued c i {x = x} e name some =
    let n = dotted_name (take i (drop 9 c)) in
    let long : length n ≡ 0 → ⊥ = λ h. some (ap (λ (t : Text). t.len) name ∙ h) in
    ap (λ (t : Text). of_value true t (value_from (10 + i) (drop (10 + i) c))) name
    ∙ named_in c i e (text_of n)
    ∙ ap (columned c) (with-name n (drop (10 + i) c) long ∙ by c (Some i) e)

pub returns-in_default : goal.returns-in_default
returns-in_default c =
    let s = c.args.card.now in
    ap Err c.fault_at.ensures ∙ ap (columned s) (by s None (equals s _ c.find_byte.ensures c.rest_of-rest.ensures c.in_default.is))

pub overflow_add-i : goal.overflow_add-i
overflow_add-i c =
    let s = c.args.card.now in
    let long : length s ≡ size = search rules in
    omega (arith, few s c.in-Some.i long (equals s _ c.find_byte.ensures c.rest_of-rest.ensures c.in-Some.is))

pub returns-then-name-eq0 : goal.returns-then-name-eq0
returns-then-name-eq0 c =
    let s = c.args.card.now in
    let i = c.in-Some.i in
    let e = equals s _ c.find_byte.ensures c.rest_of-rest.ensures c.in-Some.is in
    let name = name-is s _ _ i c.dotted_name-name.ensures c.first_of.ensures c.rest_of-rest.ensures in
    let none = sym (ap (λ (t : Text). t.len) name) ∙ c.if-name-eq0.true in
    ap Err c.fault_at-then-name-eq0.ensures
    ∙ nameless_in s i e
    ∙ ap (columned s) (nameless (dotted_name (take i (drop 9 s))) _ none ∙ by s (Some i) e)

pub overflow_add-i-2 : goal.overflow_add-i-2
overflow_add-i-2 c =
    let s = c.args.card.now in
    let long : length s ≡ size = search rules in
    omega (arith, few s c.in-Some.i long (equals s _ c.find_byte.ensures c.rest_of-rest.ensures c.in-Some.is))

pub returns : goal.returns
returns c =
    let s = c.args.card.now in
    let e = equals s _ c.find_byte.ensures c.rest_of-rest.ensures c.in-Some.is in
    let name = name-is s _ _ c.in-Some.i c.dotted_name-name.ensures c.first_of.ensures c.rest_of-rest.ensures in
    c.value_card.ensures ∙ valued s c.in-Some.i e name c.if-name-eq0.false
