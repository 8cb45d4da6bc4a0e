-- The length that a good record says, by the law on where its line ends.
use mathlib.Core.Path.{refl}
use native.Mathlib.Omega.{arith}
use Rattle.codes.specs.Part.{m95512}
use Rattle.intel_hex.proofs.Fronts.{front_length}
use Rattle.intel_hex.proofs.reading.Digits.line_length.Goals as goal

pub line_byte-requires : goal.line_byte-requires
line_byte-requires c = omega (arith, front_length m95512 _ c.requires)

pub returns : goal.returns
returns c = (rw c.line_byte.ensures.0 refl, omega (arith, front_length m95512 _ c.requires, c.line_byte.ensures.0))
