-- The value of each kind is the one which the boundary tells by that kind.
use mathlib.Core.Path.{◌≡◌, refl}
use Rattle.abi_value.specs.Telling.{value_told}
use Rattle.numbers.specs.declared.Size.TheVariants.{Finite, Infinite, Nan}
use Rattle.numbers.specs.declared.Value.{Value}
use Rattle.numbers.specs.declared.Value.TheVariants.{Integer, Float, Logical, String, Undefined, Invalid}
use Rattle.abi_writing.specs.Asking.{value_asked}

-- what is told of a value asks for that value
pub told_asks : (v : Value) → value_asked (value_told v).kind (value_told v).flag (value_told v).number ≡ v
unfolding value_asked
told_asks (Integer z) = refl
told_asks (Float minus (Finite power)) = refl
told_asks (Float minus Infinite) = refl
told_asks (Float minus Nan) = refl
told_asks (Logical t) = refl
told_asks String = refl
told_asks Undefined = refl
told_asks Invalid = refl
