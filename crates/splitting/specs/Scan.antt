-- The scan of a trimmed text for the slash (SPECIFICATION 4; the standard, 4.2.1).
use Rattle.std.specs.Prelude.{ℕ, suc, cond, List, [], ◌∷◌, ◌++◌, eqb}
use Prim.Native.Char.{code}
use Rattle.splitting.specs.declared.Quoting.{Quoting}
use Rattle.splitting.specs.declared.Quoting.TheVariants.{Outside, Inside, Closed}
use Rattle.splitting.specs.declared.Slash.{Slash}
use Rattle.splitting.specs.declared.Slash.TheVariants.{At, Nowhere, Bad}
use Rattle.text.specs.Bytes.{is_printable, shown}

-- the classes of bytes that the scan tells apart
pub data ByteClass : Type 0 where
  quote slash plain odd : ByteClass

unfoldable pub byte_class : ℕ → ByteClass
byte_class b = cond (eqb b (code "'")) quote (cond (eqb b (code "/")) slash (cond (is_printable b) plain odd))

-- What one byte before the slash does: it ends the value, it is refused, it is put into the value text, or it is passed over,
-- being the second quote of two.
pub data Move : Type 0 where
  ends rejects : Move
  puts passes : Quoting → Move

-- in each state, by the byte's class
abbrev pub move : Quoting → ByteClass → Move
move Outside quote = puts Inside
move Outside slash = ends
move Outside plain = puts Outside
move Outside odd = rejects
move Inside quote = puts Closed
move Inside slash = puts Inside
move Inside plain = puts Inside
move Inside odd = puts Inside
move Closed quote = passes Inside
move Closed slash = ends
move Closed plain = puts Outside
move Closed odd = puts Closed

-- What a scan finds: the slash's place or none, and the value text up to there.
pub record Scan : Type 0 where
  pub place : Slash
  pub value : List ℕ

-- with bytes that were put before
abbrev pub put_before : List ℕ → Scan → Scan
put_before v r = record { place = r.place; value = v ++ r.value }

unfoldable pub after : Move → ℕ → ℕ → (Quoting → Scan) → Scan
after ends b i rest = record { place = At i; value = [] }
after rejects b i rest = record { place = Bad i; value = [] }
after (puts q) b i rest = put_before (shown b ∷ []) (rest q)
after (passes q) b i rest = rest q

-- the scan of s in state q, the first byte of which stands at place i
unfoldable pub scan_from : Quoting → List ℕ → ℕ → Scan
unfolding after
scan_from q [] i = record { place = Nowhere; value = [] }
scan_from q (b ∷ s) i = after (move q (byte_class b)) b i (λ (r : Quoting). scan_from r s (suc i))
