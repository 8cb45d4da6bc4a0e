-- The invariant: the cells are filled up to i.
use mathlib.Core.Path.{◌≡◌}
use Prim.Native.Nat.{◌+◌}
use lib.ListN.{length}
use Rattle.laws.specs.Table.{table}
use Rattle.laws.specs.Filled.{filled}
use Rattle.intel_hex.specs.Reading.{line_byte}
use Rattle.intel_hex.proofs.storing.fill.Given as goal

abbrev pub invariant-loop-i : goal.invariant-loop-i
invariant-loop-i l =
    l.cells ≡ filled l.initial.cells (table (length l.initial.cells) (λ j. line_byte l.text (j + 4))) l.i
