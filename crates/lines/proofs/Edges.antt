-- The lines that the words of SPECIFICATION 13 give, in one table.
use Prim.Native.Nat.{ℕ}
use Prim.Native.String.{String as Quoted}
use mathlib.Core.Path.{◌≡◌, refl}
use mathlib.Core.Bool.{true, false}
use mathlib.Core.List.{List, [], ◌∷◌, ◌++◌, map}
use lib.IntN.{pos, negsuc}
use Rattle.text.specs.Bytes.{ascii, line_feed}
use Rattle.refusal.specs.declared.Refusal.TheVariants as R
use Rattle.refusal.specs.Numbers.{fault_of, fault_at}
use Rattle.numbers.specs.declared.Size.TheVariants.{Finite, Infinite, Nan}
use Rattle.numbers.specs.declared.Value.TheVariants.{Integer, Float, Logical, String, Undefined, Invalid}
use Rattle.numerals.specs.Numerals.{digits_before, decimal_digits}
use Rattle.lines.specs.Lines.{entry_line, count_line, refused_line}

abbrev pub ended : Quoted → List ℕ
ended s = ascii s ++ line_feed ∷ []

pub edges :
    entry_line (ascii "SIZE") (Integer (pos 12)) [] [] 1
    ∷ entry_line (ascii "KIT") String [] (ascii "FKM-75") 1
    ∷ count_line 2
    ∷ count_line 1
    ∷ entry_line (ascii "A") (Integer (negsuc 11)) [] [] 1
    ∷ entry_line (ascii "A") (Integer (pos 0)) [] [] 1
    ∷ entry_line (ascii "A") (Float true (Finite (negsuc 2))) (ascii "15") [] 1
    ∷ entry_line (ascii "A") (Float false (Finite (pos 20))) (ascii "1") [] 1
    ∷ entry_line (ascii "A") (Float true (Finite (pos 0))) [] [] 1
    ∷ entry_line (ascii "A") (Float true Infinite) [] [] 1
    ∷ entry_line (ascii "A") (Float false Nan) [] [] 1
    ∷ entry_line (ascii "A") (Logical true) [] [] 1
    ∷ entry_line (ascii "A") String [] [] 1
    ∷ entry_line (ascii "A") String [] (ascii " ") 1
    ∷ entry_line (ascii "A") Undefined [] [] 1
    ∷ entry_line (ascii "A") Invalid [] (ascii "1E") 1
    ∷ entry_line (ascii "A") (Integer (pos 2)) [] [] 2
    ∷ entry_line (ascii "A") (Float false (Finite (pos 20))) (ascii "1") [] 10
    ∷ entry_line (ascii "A") String [] (ascii "1 x1") 720
    ∷ entry_line (ascii "A") String [] [] 2
    ∷ entry_line (ascii "A") Undefined [] [] 2
    ∷ entry_line (ascii "A") Invalid [] (ascii "1E") 0
    ∷ refused_line (fault_of R.NoEnd) 720
    ∷ refused_line (fault_at R.Complex 10) 0
    ∷ refused_line (fault_at R.HighByte 0) 719
    ∷ refused_line (fault_of R.NoEnd) 3
    ∷ refused_line (fault_of R.HeaderLength) 0
    ∷ []
    ≡ map ended
    ("SIZE I 12" ∷ "KIT S FKM-75" ∷ "2 keywords" ∷ "1 keywords" ∷ "A I -12" ∷ "A I 0" ∷ "A D -15e-3" ∷ "A D 1e20"
    ∷ "A D -0e0" ∷ "A D -inf" ∷ "A D nan" ∷ "A L T" ∷ "A S" ∷ "A S  " ∷ "A U" ∷ "A X 1E" ∷ "A I 2 x2" ∷ "A D 1e20 x10"
    ∷ "A S 1 x1 x720" ∷ "A S x2" ∷ "A U x2" ∷ "A X 1E" ∷ "refused 10 at 720" ∷ "refused 5 at 0:10" ∷ "refused 1 at 719:0"
    ∷ "refused 10 at 3" ∷ "refused 9 at 0" ∷ [])
unfolding entry_line count_line refused_line decimal_digits digits_before
edges = refl
