-- The invariant: the lines of the first i are written.
use mathlib.Core.Path.{◌≡◌}
use Prim.Native.Nat.{◌+◌, ◌*◌, ◌≤◌}
use lib.ListN.{length, take}
use Rattle.printing.specs.Printing.{printed}
use Rattle.printing.specs.Put.{put}
use Rattle.printing.proofs.output.put_lines.Given as goal

abbrev pub invariant-loop-i : goal.invariant-loop-i
invariant-loop-i l = record {
  room : l.end ≤ l.at + 10 * l.i;
  lines : l.out ≡ put l.initial.out l.at (printed l.n (take l.i l.qs));
  last : l.end ≡ l.at + length (printed l.n (take l.i l.qs));
}
