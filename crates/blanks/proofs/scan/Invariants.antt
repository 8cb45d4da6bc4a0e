-- The invariant: n counts the blank cells of the rows so far.
use Prim.Native.Nat.{◌+◌}
use mathlib.Core.Path.{◌≡◌}
use Rattle.std.specs.Slice.Iter.{chunks_size, chunks_rest}
use Rattle.blanks.specs.Blanks.{blanks}
use Rattle.blanks.proofs.scan.Given as goal

abbrev pub invariant-loop-row : goal.invariant-loop-row
invariant-loop-row l =
    (chunks_size l.row-iterator ≡ 128) × (l.n + blanks (chunks_rest l.row-iterator) ≡ blanks l.cells)
