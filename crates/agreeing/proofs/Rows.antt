-- Small headers, computed: the first cards, the last entries, and how many bear each name.
use Rattle.std.specs.Prelude.{None}
use Prim.Native.Nat.{ℕ}
use Prim.Native.Char.{code}
use Prim.Native.String.{String}
use mathlib.Core.Path.{◌≡◌, refl}
use mathlib.Core.Bool.{false}
use mathlib.Core.List.{List, [], ◌∷◌, map}
use Rattle.text.specs.Bytes.{ascii, is_space, is_blank, is_printable, shown}
use Rattle.text.specs.Trim.{trim_start, cons_trimmed, trim_end, trim}
use Rattle.text.specs.Same.{same}
use Rattle.text.specs.Ends.{ends_with}
use Rattle.text.specs.Place.{place_from}
use Rattle.text.specs.Text.{filled}
use Rattle.splitting.specs.Scan.{scan_from, byte_class}
use Rattle.splitting.specs.Split.{split_of}
use Rattle.splitting.specs.Strings.{opened, string_of}
use Rattle.numbers.specs.declared.Value.TheVariants.{Undefined}
use Rattle.value.specs.Values.{start_of, of_string, value_with, value_of}
use Rattle.card.specs.Keywords.{has_high, class_of, name_pieces, join_pieces}
use Rattle.card.specs.Cards.{other_of, continuation_of, is_within_quotes, quoted_card, extension_of, hierarch_of, unplaced_of, card_of}
use Rattle.roles.specs.Roles.{Held, Role, entry, more, neutral, last}
use Rattle.finding.specs.Finding.{last_from}
use Rattle.agreeing.specs.Firsts.{is_among, firsts_from, firsts_of, lasts_of, times_borne, times_of}
use Rattle.agreeing.specs.Times.{bearers_in, sum_of}

abbrev held : Held
held = record { value = Undefined; digits = []; words = record { text = []; comment = None; joins = false } }

abbrev bare : List ℕ → Role
bare name = entry name held

-- SIZE, a comment, KIT, SIZE again, KI, END, and SIZE and NEW behind it
abbrev roles : List Role
roles =
    bare (ascii "SIZE")
    ∷ neutral
    ∷ bare (ascii "KIT")
    ∷ bare (ascii "SIZE")
    ∷ bare (ascii "KI")
    ∷ last
    ∷ bare (ascii "SIZE")
    ∷ bare (ascii "NEW")
    ∷ []

pub firsts_row : firsts_of roles ≡ 0 ∷ 2 ∷ 4 ∷ []
unfolding firsts_from is_among same
firsts_row = refl

pub lasts_row : lasts_of roles ≡ 3 ∷ 2 ∷ 4 ∷ []
unfolding firsts_from is_among same last_from
lasts_row = refl

pub times-row : times_of roles ≡ 2 ∷ 1 ∷ 1 ∷ []
unfolding firsts_from is_among same times_borne
times-row = refl

pub sum_row : sum_of (times_of roles) ≡ 4
unfolding firsts_from is_among same times_borne sum_of
sum_row = refl

-- a value card, a comment, a HIERARCH card, a CONTINUE card, a refused card, an XTENSION card, END, and a value card behind it
pub bearers_row :
    bearers_in
    (map (λ (t : String). filled (code " ") 80 (ascii t))
    ("SIZE    = 'a&'"
    ∷ "COMMENT b"
    ∷ "HIERARCH KIT = 'c'"
    ∷ "CONTINUE  'd'"
    ∷ "SIZE    = 'e"
    ∷ "XTENSION= 'IMAGE'"
    ∷ "END"
    ∷ "SIZE    = 'f'"
    ∷ []))
    ≡ 3
unfolding is_space is_blank is_printable shown trim_start cons_trimmed trim_end trim same ends_with filled place_from scan_from
    byte_class split_of
    opened string_of start_of of_string value_with value_of has_high class_of name_pieces join_pieces other_of continuation_of
    is_within_quotes
    quoted_card extension_of hierarch_of unplaced_of card_of bearers_in
bearers_row = refl

-- no entry: no place
pub none_row : firsts_of (neutral ∷ more [] None ∷ last ∷ []) ≡ []
unfolding firsts_from
none_row = refl
