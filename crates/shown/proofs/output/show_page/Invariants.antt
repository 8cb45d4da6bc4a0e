-- The invariant: the first i bytes are those of the table, the others as they were.
use Prim.Native.Nat.{◌+◌, ◌%◌}
use mathlib.Core.Path.{◌≡◌}
use lib.ListN.{length, get_or}
use Rattle.laws.specs.Filled.{filled}
use Rattle.laws.specs.Table.{table}
use Rattle.codes.specs.Part.{part_of}
use Rattle.shown.proofs.output.show_page.Given as goal

abbrev pub invariant-loop-i : goal.invariant-loop-i
invariant-loop-i l =
    (length l.out ≡ length l.initial.out) × (l.out ≡ filled l.initial.out (table (length l.initial.out) (λ n. get_or l.identification ((l.start + n) % (part_of l.part).page) 0)) l.i)
