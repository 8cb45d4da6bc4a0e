-- The invariant: the values are filled up to i.
use mathlib.Core.Path.{◌≡◌}
use lib.ListN.{length}
use Rattle.laws.specs.Table.{table}
use Rattle.laws.specs.Filled.{filled}
use Rattle.intel_hex.specs.Reading.{digit}
use Rattle.intel_hex.proofs.reading.Digits.new.Given as goal

abbrev pub invariant-loop-i : goal.invariant-loop-i
invariant-loop-i l = record {
  long_first : length l.initial.value-items ≡ 256;
  long : length l.value-items ≡ 256;
  so_far : l.value-items ≡ filled l.initial.value-items (table 256 digit) l.i;
}
