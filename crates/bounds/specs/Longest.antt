-- How long the text and the comment of an entry can be. A card has 72 bytes from byte 8 on, so its text and its comment have no more. A
-- header has 720 cards at most. Where one is joined to another, the & of the text before it goes, and a line feed stands between comments.
use Rattle.std.specs.Prelude.{ℕ, ◌+◌, ◌*◌, ◌≤◌, ◌≡◌, List, false, length, Some}
use Rattle.roles.specs.Roles.{Held}
use Rattle.roles.specs.Cards.{roles_of, is_bad_length}
use Rattle.joining.specs.Lookup.{lookup}
use Rattle.entries.specs.Answers.{bytes_in}

-- a card's bytes from byte 8 on
abbrev pub card_words : ℕ
card_words = 72

-- no text and no comment of an entry is longer
abbrev pub longest_text : ℕ
longest_text = 720 * 71 + 1

abbrev pub longest_remark : ℕ
longest_remark = 720 * 73

pub record Short (v : Held) : Type 0 where
  pub text : length v.words.text ≤ longest_text
  pub comment : length (bytes_in v.words.comment) ≤ longest_remark

-- whatever a name is answered is short
abbrev pub EachShort : Type 0
EachShort =
    (h name : List ℕ) (v : Held) → is_bad_length (length h) ≡ false → lookup name (roles_of h) ≡ Some v → Short v
