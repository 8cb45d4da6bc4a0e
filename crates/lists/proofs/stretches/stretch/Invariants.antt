-- The invariant: so far the events led from the front at the start to the front now, which counts edges and moves Q as
-- that one. A turn is one event more (`reached_more`).
use mathlib.Core.Path.{◌≡◌}
use Prim.Native.Nat.{◌≤◌, ◌-◌}
use lib.ListN.{length}
use Rattle.codes.specs.Part.{Part}
use Rattle.lists.specs.Stretches.{Steady, counted, moving, Leads, Shows}
use Rattle.lists.proofs.stretches.stretch.Given as goal

abbrev pub invariant-loop-i : goal.invariant-loop-i
invariant-loop-i l =
    (l.start ≤ l.i) × (l.i ≤ length l.events) × (length l.out ≡ length l.initial.out) × Steady l.front × (counted l.front ≡ l.counts)
    × ((P : Part) → moving P l.initial.front ≡ l.moves → moving P l.front ≡ l.moves) × Shows l.front l.q
    × ((P : Part) → moving P l.initial.front ≡ l.moves → Leads P l.events l.start l.initial.front l.initial.out l.i l.front l.out)

abbrev pub decreases-loop-i : goal.decreases-loop-i
decreases-loop-i l =
    length l.events - l.i
