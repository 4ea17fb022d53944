-- The text and comment of an entry, and the joining of a CONTINUE card to them (SPECIFICATION 9; the standard, 4.2.1.2).
use Rattle.std.specs.Prelude.{ℕ, Bool, true, false, cond, ◌&&◌, List, [], ◌∷◌, ◌++◌, None, Some}
use Prim.Native.Char.{code}
use Rattle.text.specs.Bytes.{line_feed, is_space}
use Rattle.text.specs.Trim.{trim_end}
use Rattle.text.specs.Ends.{stem, ends_with}
use Rattle.roles.specs.Roles.{Comment, Words}

-- it ends in &
unfoldable pub ends_open : List ℕ → Bool
ends_open s = ends_with (code "&") s

-- empty, or one space
unfoldable pub adds_nothing : List ℕ → Bool
adds_nothing [] = true
adds_nothing (b ∷ []) = is_space b
adds_nothing (b ∷ c ∷ s) = false

-- a text that ends in &, and the text of a CONTINUE card: the & goes; spaces before it go too where nothing is put on
unfoldable pub join_text : List ℕ → List ℕ → List ℕ
join_text s t = cond (adds_nothing t) (trim_end is_space (stem s)) (stem s ++ t)

-- absent then c gives c; a then absent gives a; a then c gives a, byte 10, c
unfoldable pub join_comment : Comment → Comment → Comment
join_comment None c = c
join_comment (Some a) None = Some a
join_comment (Some a) (Some c) = Some (a ++ line_feed ∷ c)

-- open: a string that ends in &
unfoldable pub opens : Words → Bool
opens w = w.joins && ends_open w.text

unfoldable pub join_words : Words → List ℕ → Comment → Words
join_words w t c = record { text = join_text w.text t; comment = join_comment w.comment c; joins = w.joins }
