use mathlib.Core.Path.{◌≡◌}
use Prim.Native.Nat.{◌-◌, ◌≤◌}
use lib.ListN.{length, take}
use Rattle.lines.specs.Reading.{read, found}
use Rattle.trace.proofs.parsing.parse.Given as goal

abbrev pub invariant-loop-i : goal.invariant-loop-i
invariant-loop-i l =
    (l.i ≤ length l.text) × (l.count ≤ l.i) × (length l.events ≡ length l.initial.events) × (l.hand ≡ read l.initial.hand (take l.i l.text))
    × (take l.count l.events ≡ found l.initial.hand (take l.i l.text)) × (l.count ≡ length (found l.initial.hand (take l.i l.text)))

abbrev pub decreases-loop-i : goal.decreases-loop-i
decreases-loop-i l =
    length l.text - l.i
