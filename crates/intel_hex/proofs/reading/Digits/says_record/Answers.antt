-- A length that is not in digits: by the law on where there is no good record.
use mathlib.Core.Path.{sym}
use native.Mathlib.Omega.{arith}
use Rattle.codes.specs.Part.{m95512}
use Rattle.intel_hex.proofs.Fronts.{no_length}
use Rattle.intel_hex.proofs.reading.Digits.says_record.Goals as goal

pub returns-then-n-gt255 : goal.returns-then-n-gt255
returns-then-n-gt255 c = sym (no_length m95512 _ (omega arith))
