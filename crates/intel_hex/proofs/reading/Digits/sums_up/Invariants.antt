-- The invariant: `all` is the test of the bytes below i, and `sum` their sum.
use Prim.Native.Nat.{◌*◌, ◌≤◌}
use mathlib.Core.Path.{◌≡◌}
use Rattle.laws.specs.Each.{each}
use Rattle.laws.specs.Table.{table}
use Rattle.intel_hex.specs.Writing.{total}
use Rattle.intel_hex.specs.Reading.{line_byte, is_byte}
use Rattle.intel_hex.proofs.reading.Digits.sums_up.Given as goal

abbrev pub invariant-loop-i : goal.invariant-loop-i
invariant-loop-i l = record {
  each_byte : l.all ≡ each (is_byte l.text) l.i;
  total_of : l.sum ≡ total (table l.i (line_byte l.text));
  most : l.sum ≤ 4352 * l.i;
}
