-- By the side of the choice that each test takes.
use native.Mathlib.Omega.{arith}
use Rattle.laws.specs.Pick.{arms}
use Rattle.printing.proofs.digits.places_of.Goals as goal

pub returns-in-0-to-9 : goal.returns-in-0-to-9
returns-in-0-to-9 c = (search arms depth 12, omega arith)

pub returns-in-10-to-99 : goal.returns-in-10-to-99
returns-in-10-to-99 c = (search arms depth 12, omega arith)

pub returns-in-100-to-999 : goal.returns-in-100-to-999
returns-in-100-to-999 c = (search arms depth 12, omega arith)

pub returns-in-1000-to-9999 : goal.returns-in-1000-to-9999
returns-in-1000-to-9999 c = (search arms depth 12, omega arith)

pub returns-in-10000-to-99999 : goal.returns-in-10000-to-99999
returns-in-10000-to-99999 c = (search arms depth 12, omega arith)

pub returns-in-100000-to-999999 : goal.returns-in-100000-to-999999
returns-in-100000-to-999999 c = (search arms depth 12, omega arith)

pub returns-in_default : goal.returns-in_default
returns-in_default c = (search arms depth 12, omega arith)
