-- The invariant: `faults` is 0 where the numbers so far are events.
use mathlib.Core.Path.{◌≡◌}
use lib.Dec.{eqb}
use lib.ListN.{take}
use Rattle.events.specs.Events.{are_events}
use Rattle.events.proofs.are_events.Given as goal

abbrev pub invariant-loop-event : goal.invariant-loop-event
invariant-loop-event l = eqb l.faults 0 ≡ are_events (take l.event-index l.events)
