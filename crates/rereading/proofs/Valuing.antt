-- The values that written texts read as.
use Rattle.std.specs.Prelude.{Ok, Option, Result}
use Prim.Native.Nat.{ℕ}
use Prim.Native.Char.{code}
use mathlib.Core.Path.{◌≡◌, refl, ap, ◌∙◌}
use mathlib.Core.Bool.{true, false}
use mathlib.Core.List.{List, [], ◌∷◌, ◌++◌}
use Rattle.refusal.specs.declared.Fault.{Fault}
use Rattle.text.specs.declared.Text.{Text}
use Rattle.text.specs.Bytes.{ascii, is_space, is_printable, every}
use Rattle.text.specs.Trim.{trim_end, cons_trimmed}
use Rattle.text.specs.Text.{text_of}
use Rattle.text.proofs.Texts.{bytes-text}
use Rattle.splitting.specs.declared.Halves.{Halves}
use Rattle.splitting.specs.Split.{split_of}
use Rattle.splitting.specs.Strings.{or_space, settled_of, reads, opened, string_of}
use Rattle.numbers.specs.declared.Value.TheVariants.{String}
use Rattle.value.specs.Values.{start_of, value_as, by_quotes, of_string, by_start, by_bytes, value_with, by_parts, value_of}
use Rattle.roles.specs.Roles.{Comment}
use Rattle.writing.specs.Pieces.{quoted, tail_of}
use Rattle.writing.specs.Rules.{is_comment}
use Rattle.rereading.proofs.Endings.{last_is, stem-behind, ends_behind, end_kept}
use Rattle.rereading.proofs.Scanning.{within}
use Rattle.rereading.proofs.Splitting.{texted, halves_of_lem, spaced, split_quoted}

-- ---- strings
-- what stands within quotes is read as it is, but for spaces at its end
pub string-within : (s : List ℕ) → string_of (within s) ≡ reads s
unfolding string_of opened
string-within s = rw (ends_behind s (code "'"), stem-behind s (code "'"))

-- nothing is lost of a text that does not end in a space
pub settled_kept : (s : List ℕ) → last_is is_space s ≡ false → settled_of s ≡ s
unfolding settled_of
settled_kept [] e = refl
settled_kept (b ∷ s) e = ap or_space (end_kept is_space (b ∷ s) e)

-- nor of one space
pub settled_space : settled_of (ascii " ") ≡ ascii " "
unfolding settled_of trim_end cons_trimmed is_space
settled_space = refl

-- ---- values, by the halves that were found

pub by_halves : (raw v : List ℕ) (c : Comment) → split_of raw ≡ halves_of_lem v c
    → value_of raw ≡ value_with (text_of v) raw (texted c)
unfolding value_of
by_halves raw v c e = ap (λ (h : Result Halves Fault). by_parts h raw) e

-- by the first byte of the value text
pub by_start_lem : (raw : List ℕ) (b : ℕ) (v : List ℕ) (c : Option Text)
    → value_with (text_of (b ∷ v)) raw c ≡ by_start (start_of b) (text_of (b ∷ v)) raw c
unfolding value_with
by_start_lem raw b v c = ap (λ (w : List ℕ). by_bytes w (text_of (b ∷ v)) raw c) (bytes-text (b ∷ v))

-- a written string is read as itself
pub value-quoted : (s : List ℕ) → every is_printable s ≡ true → settled_of s ≡ s → (n m : ℕ) (c : Comment)
    → is_comment c ≡ true
    → value_of (spaced n m (quoted s ++ tail_of c)) ≡ Ok (value_as String (text_of s) (texted c))
unfolding start_of of_string
value-quoted s e settles n m c y =
    let raw = spaced n m (quoted s ++ tail_of c) in
    by_halves raw (within s) c (split_quoted s e n m c y)
    ∙ by_start_lem raw (code "'") (s ++ ascii "'") (texted c)
    ∙ ap (λ (w : List ℕ). by_quotes (string_of w) (texted c)) (bytes-text (within s))
    ∙ ap (λ (r : Result Text Fault). by_quotes r (texted c)) (string-within s)
    ∙ ap (λ (w : List ℕ). Ok (value_as String (text_of w) (texted c))) settles
