-- `rice::bits::word`: two quads are the 64 bits of the field, at the end too. Assumes nothing.
use Prim.Native.Nat.{◌+◌, ◌*◌}
use native.Mathlib.Omega.{arith}
use Rattle.rice.proofs.Fields.{field_lt, field_word}
use Rattle.rice.proofs.bits.word.Goals as goal

pub join-requires : goal.join-requires
join-requires c =
    let a = c.args in
    omega (arith, field_lt a.s.now (a.i * 8) 32, field_lt a.s.now ((a.i + 4) * 8) 32)

pub returns-else-i-s : goal.returns-else-i-s
returns-else-i-s c = let a = c.args in cc (field_word a.s.now a.i)
