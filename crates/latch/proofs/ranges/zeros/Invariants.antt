-- The invariant: `zero` is the test of the bytes seen.
use mathlib.Core.Path.{◌≡◌}
use lib.Dec.{eqb}
use lib.ListN.{get_or}
use Rattle.laws.specs.Each.{each}
use Rattle.latch.proofs.ranges.zeros.Given as goal

abbrev pub invariant-loop-byte : goal.invariant-loop-byte
invariant-loop-byte l = l.zero ≡ each (λ i. eqb (get_or l.cells i 0) 0) l.byte-index
