-- A header's cards, by number.
use Rattle.std.proofs.lemmas.List.{drop-map}
use Prim.Native.Nat.{ℕ, zero, suc, ◌+◌, ◌*◌, ◌/◌, ◌<◌, ◌≤◌}
use native.Mathlib.Omega.{arith}
use mathlib.Core.Path.{◌≡◌, refl, sym, ap, ap₂, ◌∙◌}
use mathlib.Core.List.{List, [], ◌∷◌, map}
use lib.ListN.{length, take, drop, get_or, drop_of_length-le, length-map}
use lib.Seq.{drop-drop, get_or-drop}
use Rattle.roles.specs.Roles.{Role, neutral, role_of}
use Rattle.roles.specs.Cards.{cards_in, cards_of, card_no, role_no, roles_of}

-- the cards from number i on are those of what stands from byte 80 i on
cards_at : (n i : ℕ) (h : List ℕ) → i < n → drop i (cards_in n h) ≡ take 80 (drop (i * 80) h) ∷ drop (i + 1) (cards_in n h)
unfolding cards_in
cards_at zero i h p = absurd (omega arith)
cards_at (suc n) zero h p = refl
cards_at (suc n) (suc i) h p =
    let bytes : 80 + i * 80 ≡ suc i * 80 = omega arith in
    let number : suc (i + 1) ≡ suc i + 1 = omega arith in
    cards_at n i (drop 80 h) (omega arith)
    ∙ ap₂ ◌∷◌ (ap (take 80) (drop-drop (i * 80) 80 h ∙ ap (λ (k : ℕ). drop k h) bytes)) (ap (λ (k : ℕ). drop k (cards_in (suc n) h)) number)

cards_counted : (n : ℕ) (h : List ℕ) → length (cards_in n h) ≡ n
unfolding cards_in
cards_counted zero h = refl
cards_counted (suc n) h = ap suc (cards_counted n (drop 80 h))

module _ (h : List ℕ) where
  pub card_count_lem : length (cards_of h) ≡ length h / 80
  card_count_lem = cards_counted (length h / 80) h

  -- the cards from number i on, by the first of them
  pub cards_from : (i : ℕ) → i < length h / 80 → drop i (cards_of h) ≡ card_no h i ∷ drop (i + 1) (cards_of h)
  cards_from i p = cards_at (length h / 80) i h p

  -- behind the last there is none
  pub cards_past : (i : ℕ) → length h / 80 ≤ i → drop i (cards_of h) ≡ []
  cards_past i p =
      let long : length (cards_of h) ≤ i = omega (arith, card_count_lem) in
      drop_of_length-le (cards_of h) long

-- ---- the roles of a header's cards, by number
-- card i is the first of the cards from number i on
pub role_first : (roles : List Role) (i : ℕ) (r : Role) (rs : List Role) → drop i roles ≡ r ∷ rs → get_or roles i neutral ≡ r
role_first roles i r rs e =
    let z : i ≡ i + 0 = omega arith in
    ap (λ (k : ℕ). get_or roles k neutral) z ∙ sym (get_or-drop i roles 0 neutral) ∙ ap (λ (l : List Role). get_or l 0 neutral) e

module _ (h : List ℕ) where
  pub role_count : length (roles_of h) ≡ length h / 80
  role_count = length-map (cards_of h) role_of ∙ card_count_lem h

  -- the roles from number i on, by the first of them
  pub roles_from : (i : ℕ) → i < length h / 80 → drop i (roles_of h) ≡ role_no h i ∷ drop (i + 1) (roles_of h)
  roles_from i within =
      drop-map role_of i (cards_of h)
      ∙ ap (map role_of) (cards_from h i within)
      ∙ ap (λ (l : List Role). role_no h i ∷ l) (sym (drop-map role_of (i + 1) (cards_of h)))

  -- the role of card i
  pub role_is : (i : ℕ) → i < length h / 80 → get_or (roles_of h) i neutral ≡ role_no h i
  role_is i within = role_first (roles_of h) i (role_no h i) (drop (i + 1) (roles_of h)) (roles_from i within)

  -- behind the last there is none
  pub roles_past : (i : ℕ) → length h / 80 ≤ i → drop i (roles_of h) ≡ []
  roles_past i p = drop-map role_of i (cards_of h) ∙ ap (map role_of) (cards_past h i p)
