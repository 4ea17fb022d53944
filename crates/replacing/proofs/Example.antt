-- The conditions can be met: `goodOld` and `goodNew` of `Conditions` meet them.
use Rattle.std.specs.Prelude.{Ok, None}
use Prim.Native.Nat.{ℕ, zero, suc, ◌<◌}
use native.Mathlib.Omega.{arith}
use mathlib.Core.Path.{◌≡◌, refl, sym, ap, ◌∙◌}
use mathlib.Core.Bool.{Bool, true, false, true≢false}
use mathlib.Core.List.{List, [], ◌∷◌}
use lib.ListN.{get_or, get_or-map, get_or-eq_default}
use Rattle.text.specs.Bytes.{ascii, is_space, is_blank, is_printable, is_digit, shown, every}
use Rattle.text.specs.Trim.{trim_start, cons_trimmed, trim_end, trim}
use Rattle.text.specs.Same.{same}
use Rattle.text.specs.Ends.{stem, ends_with}
use Rattle.text.specs.Text.{filled}
use Rattle.splitting.specs.Scan.{scan_from, byte_class}
use Rattle.splitting.specs.Split.{split_of}
use Rattle.splitting.specs.Strings.{settled_of, opened, string_of}
use Rattle.numbers.specs.declared.Value.TheVariants.{String as Str}
use Rattle.value.specs.Values.{start_of, of_string, value_with, value_of}
use Rattle.card.specs.Keywords.{has_high, class_of}
use Rattle.card.specs.Cards.{other_of, unplaced_of, card_of}
use Rattle.roles.specs.Roles.{neutral}
use Rattle.roles.specs.Cards.{cards_in, cards_of, roles_of, role_no, is_bad_length}
use Rattle.joining.specs.Words.{ends_open, opens}
use Rattle.joining.specs.Belonging.{idle, nothing, effects, bears}
use Rattle.finding.specs.Finding.{header_from, header_of}
use Rattle.writing.specs.Pieces.{doubled, bytes_for, fitting, leftover, pieces_from}
use Rattle.writing.specs.Written.{name_front, written_cards}
use Rattle.writing.specs.Rules.{is_name_byte, is_name, ends_well, is_text, is_writable}
use Rattle.demands.specs.Demands.{is_of}
use Rattle.rereading.specs.ReadsBack.{MayWrite}
use Rattle.replacing.specs.Replacing.{chosen, marks_of, Replaces, Together, IsReplaced}
use Rattle.replacing.specs.Conditions.{padded_header, new_code, good_old, good_new}
use Rattle.replacing.proofs.Replaced.{replacing}

-- the name
abbrev k : List ℕ
k = ascii "K"

-- the header before and after
abbrev g : List ℕ
g = padded_header good_old

abbrev h : List ℕ
h = padded_header good_new

-- K's places in both
abbrev marks : List Bool
marks = false ∷ true ∷ false ∷ true ∷ false ∷ []

-- the string may be written
may : MayWrite k Str new_code None
unfolding is_name every is_name_byte is_digit class_of same is_writable is_text is_printable ends_well ends_with
may = record { named = refl; allowed = refl }

-- the header is accepted, these are K's places, and commentary stands between them
read : (header_of g ≡ Ok 4) × (marks_of k g ≡ marks) × (role_no g 2 ≡ neutral)
unfolding is_space is_blank is_printable shown trim_start cons_trimmed trim_end trim same stem ends_with filled scan_from byte_class
    split_of settled_of opened string_of start_of of_string value_with value_of has_high class_of other_of unplaced_of card_of cards_in
    is_bad_length header_from header_of effects opens ends_open
read = (refl, refl, refl)

mark_at : (p : ℕ) → is_of k g p ≡ get_or marks p false
mark_at p =
    sym (get_or-map (bears k) (effects idle (roles_of g)) p nothing) ∙ ap (λ (l : List Bool). get_or l p false) read.1

together : Together k g
together = record { between = between }
  where
    between : (p q r : ℕ) → p < q → q < r → is_of k g p ≡ true → is_of k g r ≡ true
        → is_of k g q ≡ false → role_no g q ≡ neutral
    between p zero r l u a b c = absurd (omega arith)
    between p (suc zero) r l u a b c = absurd (true≢false (sym (mark_at 1) ∙ c))
    between p (suc (suc zero)) r l u a b c = read.2
    between p (suc (suc (suc zero))) r l u a b c = absurd (true≢false (sym (mark_at 3) ∙ c))
    between p (suc (suc (suc (suc q)))) r l u a b c =
        absurd (true≢false (sym b ∙ mark_at r ∙ get_or-eq_default marks false {n = r} (omega arith)))

kept : (p : ℕ) → is_of k g p ≡ false → get_or (cards_of h) p [] ≡ get_or (cards_of g) p []
unfolding cards_in filled
kept zero e = refl
kept (suc zero) e = absurd (true≢false (sym (mark_at 1) ∙ e))
kept (suc (suc zero)) e = refl
kept (suc (suc (suc zero))) e = absurd (true≢false (sym (mark_at 3) ∙ e))
kept (suc (suc (suc (suc p)))) e = refl

replaces : Replaces k g h (written_cards Str k new_code None)
unfolding chosen cards_in filled doubled bytes_for fitting leftover pieces_from name_front
replaces = record { long = refl; kept = kept; taken = ap (λ (m : List Bool). chosen m (cards_of h)) read.1 }

-- so what is certain of such headers is certain of these
pub replaced : IsReplaced k Str new_code None g h
replaced = replacing k Str new_code None may g h (record { end = 4; accepted = read.0 }) together replaces
