-- Splitting what was written: the value text and the comment.
use Rattle.std.specs.Prelude.{None, Ok, Option, Result, Some}
use Prim.Native.Nat.{ℕ, suc, ◌+◌}
use Prim.Native.Char.{code}
use native.Mathlib.Omega.{arith}
use mathlib.Core.Path.{◌≡◌, refl, sym, ap, ap₂, ◌∙◌}
use mathlib.Core.Bool.{true, false, not}
use mathlib.Core.List.{List, [], ◌∷◌, ◌++◌, append-nil, map}
use borrow.Author.Tests.{not-true}
use lib.ListN.{length, replicate, drop}
use lib.Seq.{drop-append-add}
use Rattle.laws.proofs.Truths.{and_both}
use Rattle.refusal.specs.declared.Fault.{Fault}
use Rattle.text.specs.declared.Text.{Text}
use Rattle.text.specs.Bytes.{ascii, is_space, is_blank, is_printable, shown, every}
use Rattle.text.specs.Trim.{trim_end, trim}
use Rattle.text.specs.Ends.{ends_with}
use Rattle.text.specs.Text.{text_of}
use Rattle.splitting.specs.declared.Quoting.{Quoting}
use Rattle.splitting.specs.declared.Quoting.TheVariants.{Outside, Closed}
use Rattle.splitting.specs.declared.Slash.TheVariants.{At, Nowhere}
use Rattle.splitting.specs.declared.Halves.{Halves}
use Rattle.splitting.specs.Scan.{byte_class, Scan, put_before, after, scan_from}
use Rattle.splitting.specs.Split.{parts_at, split_of}
use Rattle.roles.specs.Roles.{Comment}
use Rattle.writing.specs.Pieces.{doubled, quoted, tail_of}
use Rattle.writing.specs.Rules.{is_name_byte, is_remark, is_comment}
use Rattle.rereading.proofs.Endings.{every_first, blank_printable, shown_all, last_is, ends_space, last-behind, end_kept}
use Rattle.rereading.proofs.Endings.{trim-padded, last_agrees, last_none}
use Rattle.rereading.proofs.Names.{name_blank, name_space}
use Rattle.rereading.proofs.Scanning.{Passes, within, quoted_passes, names_pass}

-- the states that a slash ends
data Out : Quoting → Type 0 where
  outside : Out Outside
  closed : Out Closed

-- a space and a slash behind a value
slash_ends : {q : Quoting} → Out q → (c : List ℕ) (n : ℕ)
    → scan_from q (code " " ∷ code "/" ∷ c) n ≡ record { place = At (suc n); value = ascii " " }
unfolding scan_from after byte_class is_printable shown
slash_ends outside c n = refl
slash_ends closed c n = refl

ends_here : (q : Quoting) (n : ℕ) → scan_from q [] n ≡ record { place = Nowhere; value = [] }
unfolding scan_from
ends_here q n = refl

-- ---- a comment that may be written
pub remark_printable : (c : List ℕ) → is_remark c ≡ true → every is_printable c ≡ true
unfolding is_remark
remark_printable c e = (and_both (every is_printable c) (not (ends_with (code " ") c)) e).0

remark_end : (c : List ℕ) → is_remark c ≡ true → last_is is_space c ≡ false
unfolding is_remark
remark_end c e =
    sym (ends_space c)
    ∙ not-true (ends_with (code " ") c) (and_both (every is_printable c) (not (ends_with (code " ") c)) e).1

remark_last : (c : List ℕ) → is_remark c ≡ true → last_is is_blank (code "/" ∷ c) ≡ false
unfolding last_is is_blank
remark_last [] e = refl
remark_last (b ∷ c) e =
    last_agrees is_printable is_blank is_space blank_printable (b ∷ c) (remark_printable (b ∷ c) e) ∙ remark_end (b ∷ c) e

remark_read : (c : List ℕ) → is_remark c ≡ true → trim_end is_space (map shown c) ≡ c
remark_read c e = ap (trim_end is_space) (shown_all c (remark_printable c e)) ∙ end_kept is_space c (remark_end c e)

-- a comment as a card's text holds it
abbrev pub texted : Comment → Option Text
texted None = None
texted (Some c) = Some (text_of c)

-- a value text and a comment, as splitting finds them
abbrev pub halves_of_lem : List ℕ → Comment → Result Halves Fault
halves_of_lem v c = Ok (record { value = text_of v; comment = texted c })

-- a text behind n spaces and before m of them
abbrev pub spaced : ℕ → ℕ → List ℕ → List ℕ
spaced n m t = replicate n (code " ") ++ (t ++ replicate m (code " "))

space_blank : is_blank (code " ") ≡ true
unfolding is_blank
space_blank = refl

space_space : is_space (code " ") ≡ true
unfolding is_space
space_space = refl

-- a trimmed text, by its scan
abbrev by_scan : List ℕ → Result Halves Fault
by_scan s = let r = scan_from Outside s 0 in parts_at r.place s r.value

module _ {q : Quoting} (d : ℕ) (t : List ℕ) (e : ℕ) (v : List ℕ) (out : Out q) (pass : Passes (d ∷ t) (e ∷ v) q)
    (first : is_blank d ≡ false) (ending : last_is is_blank (d ∷ t) ≡ false) (front : is_space e ≡ false)
    (end : last_is is_space (e ∷ v) ≡ false) where
  tail_last : (c : Comment) → is_comment c ≡ true → last_is is_blank ((d ∷ t) ++ tail_of c) ≡ false
  unfolding last_is
  tail_last None y = ap (last_is is_blank) (append-nil (d ∷ t)) ∙ ending
  tail_last (Some c) y = last-behind is_blank (d ∷ t) (code " ") (code "/" ∷ c) ∙ remark_last c y

  trimmed : (n m : ℕ) (c : Comment) → is_comment c ≡ true
      → trim is_blank (spaced n m ((d ∷ t) ++ tail_of c)) ≡ (d ∷ t) ++ tail_of c
  trimmed n m c y = trim-padded is_blank n m (code " ") d (t ++ tail_of c) space_blank first (tail_last c y)

  value_alone_lem : trim is_space ((e ∷ v) ++ []) ≡ e ∷ v
  value_alone_lem = trim-padded is_space 0 0 (code " ") e v space_space front end

  value-spaced : trim is_space ((e ∷ v) ++ ascii " ") ≡ e ∷ v
  value-spaced = trim-padded is_space 0 1 (code " ") e v space_space front end

  halves : (c : Comment) → is_comment c ≡ true → by_scan ((d ∷ t) ++ tail_of c) ≡ halves_of_lem (e ∷ v) c
  halves None y =
      ap (λ (r : Scan). parts_at r.place ((d ∷ t) ++ []) r.value)
      (pass [] ∙ ap (put_before (e ∷ v)) (ends_here q (length (d ∷ t))))
      ∙ ap (λ (w : List ℕ). halves_of_lem w None) value_alone_lem
  halves (Some c) y =
      let tail = tail_of (Some c) in
      let n : suc (suc (length (d ∷ t))) ≡ length (d ∷ t) + 2 = omega arith in
      let cut : drop (suc (suc (length (d ∷ t)))) ((d ∷ t) ++ tail) ≡ c =
      ap (λ (k : ℕ). drop k ((d ∷ t) ++ tail)) n ∙ drop-append-add (d ∷ t) tail 2 in
      ap (λ (r : Scan). parts_at r.place ((d ∷ t) ++ tail) r.value)
      (pass tail ∙ ap (put_before (e ∷ v)) (slash_ends out c (length (d ∷ t))))
      ∙ ap₂ (λ (w k : List ℕ). halves_of_lem w (Some k)) value-spaced
      (ap (λ (k : List ℕ). trim_end is_space (map shown k)) cut ∙ remark_read c y)

  -- a value that the scan passes, with its comment, among spaces
  split_read : (n m : ℕ) (c : Comment) → is_comment c ≡ true
      → split_of (spaced n m ((d ∷ t) ++ tail_of c)) ≡ halves_of_lem (e ∷ v) c
  unfolding split_of
  split_read n m c y = ap by_scan (trimmed n m c y) ∙ halves c y

-- splitting a written string, with its comment, among spaces
pub split_quoted : (s : List ℕ) → every is_printable s ≡ true → (n m : ℕ) (c : Comment) → is_comment c ≡ true
    → split_of (spaced n m (quoted s ++ tail_of c)) ≡ halves_of_lem (within s) c
unfolding last_is is_blank is_space
split_quoted s e n m c y =
    split_read (code "'") (doubled s ++ ascii "'") (code "'") (s ++ ascii "'") closed (quoted_passes s e) refl
    (last-behind is_blank (code "'" ∷ doubled s) (code "'") []) refl (last-behind is_space (code "'" ∷ s) (code "'") []) n m c y

-- and a text of name bytes
pub split_names : (b : ℕ) (s : List ℕ) → every is_name_byte (b ∷ s) ≡ true → (n m : ℕ) (c : Comment) → is_comment c ≡ true
    → split_of (spaced n m ((b ∷ s) ++ tail_of c)) ≡ halves_of_lem (b ∷ s) c
split_names b s e n m c y =
    let first = every_first is_name_byte b s e in
    split_read b s b s outside (names_pass (b ∷ s) e) (name_blank b first) (last_none is_name_byte is_blank name_blank (b ∷ s) e)
    (name_space b first) (last_none is_name_byte is_space name_space (b ∷ s) e) n m c y
