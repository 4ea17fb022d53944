-- Integers whose size is read up to a cap. Only private contracts cite this.
use Rattle.std.specs.Prelude.{ℕ, min, cond, ◌&&◌, List, ℤ, Option, Some, None}
use Rattle.numbers.specs.Signs.{is_negative, unsigned, signed_of, fits64}
use Rattle.numbers.specs.Digits.{is_digits, digits_value}

-- an optional sign and digits, of which no more than the cap counts, fitting 64 signed bits
unfoldable pub signed_up_to : ℕ → List ℕ → Option ℤ
signed_up_to cap s =
    let n = min (digits_value (unsigned s)) cap in
    cond (is_digits (unsigned s) && fits64 (is_negative s) n) (Some (signed_of (is_negative s) n)) None
