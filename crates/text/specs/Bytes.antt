-- The classes of bytes (SPECIFICATION 1), and bytes by their characters.
use Rattle.std.specs.Prelude.{ℕ, Bool, true, cond, ◌&&◌, ◌||◌, List, [], ◌∷◌, eqb, leb}
use Prim.Native.Char.{code}
use Prim.Native.String.{String, [] as none, ◌∷◌ as ◌then◌}

-- the bytes of a quoted text
abbrev pub ascii : String → List ℕ
ascii none = []
ascii (c then s) = code c ∷ ascii s

-- control bytes, which have no character
abbrev pub tab : ℕ
tab = 9

abbrev pub line_feed : ℕ
line_feed = 10

abbrev pub form_feed : ℕ
form_feed = 12

abbrev pub carriage_return : ℕ
carriage_return = 13

abbrev pub delete : ℕ
delete = 127

-- space
unfoldable pub is_space : ℕ → Bool
is_space b = eqb b (code " ")

-- space, tab, line feed, form feed, return
unfoldable pub is_blank : ℕ → Bool
is_blank b = eqb b (code " ") || (eqb b tab || (eqb b line_feed || (eqb b form_feed || eqb b carriage_return)))

-- the characters that the standard allows (4.1.1, 4.2.1.1)
unfoldable pub is_printable : ℕ → Bool
is_printable b = leb (code " ") b && leb b (code "~")

-- whether each byte passes a test
unfoldable pub every : (ℕ → Bool) → List ℕ → Bool
every p [] = true
every p (b ∷ s) = p b && every p s

-- whether each byte is such a character
unfoldable pub are_printable : List ℕ → Bool
are_printable [] = true
are_printable (b ∷ s) = is_printable b && are_printable s

-- 0 to 9
unfoldable pub is_digit : ℕ → Bool
is_digit b = leb (code "0") b && leb b (code "9")

-- 0
unfoldable pub is_zero : ℕ → Bool
is_zero b = eqb b (code "0")

-- a byte, or 127 where the standard does not allow it: a replaced byte
unfoldable pub shown : ℕ → ℕ
shown b = cond (is_printable b) b delete

-- a byte, or E where it is D (SPECIFICATION 7)
unfoldable pub d_to_e : ℕ → ℕ
d_to_e b = cond (eqb b (code "D")) (code "E") b
