-- `splitting::behind_string` meets its contract: by where the quote stands, if there is one.
use native.Mathlib.Omega.{arith}
use mathlib.Core.Path.{refl}
use Rattle.splitting.specs.declared.Quoting.TheVariants.{Inside, Closed}
use Rattle.splitting.proofs.Stretching.{behind_quote}
use Rattle.splitting.proofs.behind_string.Goals as goal

pub returns-in_default : goal.returns-in_default
returns-in_default c =
    let P = behind_quote c.args.s.now c.requires.1 c.args.from c.requires.0 c.rest_of.ensures c.find_byte.ensures c.in_default.is in
    record { q = Inside; passed = P; further = c.requires.0.within; closed = λ h. absurd (omega arith) }

pub overflow_add-result : goal.overflow_add-result
overflow_add-result c =
    let P = behind_quote c.args.s.now c.requires.1 c.args.from c.requires.0 c.rest_of.ensures c.find_byte.ensures c.in-Some.is in
    omega (arith, P.within, c.requires.2)

pub overflow_add-result-2 : goal.overflow_add-result-2
overflow_add-result-2 c =
    let P = behind_quote c.args.s.now c.requires.1 c.args.from c.requires.0 c.rest_of.ensures c.find_byte.ensures c.in-Some.is in
    omega (arith, P.within, c.requires.2)

pub returns : goal.returns
returns c =
    let P = behind_quote c.args.s.now c.requires.1 c.args.from c.requires.0 c.rest_of.ensures c.find_byte.ensures c.in-Some.is in
    record { q = Closed; passed = P; further = omega arith; closed = λ h. refl }
