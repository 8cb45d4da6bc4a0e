-- By the side of the choice that the test takes.
use native.Mathlib.Omega.{arith}
use Rattle.laws.specs.Pick.{arms, ge_so}
use Rattle.intel_hex.proofs.writing.digit_text.Goals as goal

pub returns-then-value-lt10 : goal.returns-then-value-lt10
returns-then-value-lt10 c = search arms

pub returns-else-value-lt10 : goal.returns-else-value-lt10
returns-else-value-lt10 c = ge_so _ (omega arith) (omega arith)
