-- By the side of the choice that each test takes.
use native.Mathlib.Omega.{arith}
use Rattle.laws.specs.Pick.{arms}
use Rattle.intel_hex.specs.Reading.{digit}
use Rattle.intel_hex.proofs.Digits.{digit_number, digit_letter}
use Rattle.intel_hex.proofs.reading.digit.Goals as goal

pub returns-in-48-to-57 : goal.returns-in-48-to-57
returns-in-48-to-57 c = rw c.from.ensures (digit_number _ (omega arith) (omega arith), omega arith)

pub returns-in-65-to-70 : goal.returns-in-65-to-70
returns-in-65-to-70 c = rw c.from-in-65-to-70.ensures (digit_letter _ (omega arith) (omega arith), omega arith)

pub returns-in_default : goal.returns-in_default
unfolding digit
returns-in_default c = (search arms depth 12, omega arith)

pub returns-in_default-2 : goal.returns-in_default-2
unfolding digit
returns-in_default-2 c = (search arms depth 12, omega arith)

pub returns-in_default-3 : goal.returns-in_default-3
unfolding digit
returns-in_default-3 c = (search arms depth 12, omega arith)
