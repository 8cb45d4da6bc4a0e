-- The invariant: so many readings came as `next` says, and no more than are due.
use Prim.Native.Nat.{◌+◌, ◌-◌, ◌≤◌}
use mathlib.Core.Path.{◌≡◌}
use lib.ListN.{length, take, drop}
use Rattle.chip.specs.Records.{own_part}
use Rattle.frames.specs.Play.{frame_bench}
use Rattle.timed_frames.specs.Schedules.{due, passed}
use Rattle.timed_frames.proofs.walk.Walk.to.Given as goal

abbrev pub invariant-loop-next : goal.invariant-loop-next
invariant-loop-next l =
    let P = own_part l.initial.core in
    let first = l.initial.next in
    record {
      low : first ≤ l.next;
      high : l.next ≤ length l.schedule.positions.now;
      still : due l.k (drop first l.schedule.positions.now) ≡ l.next - first + due l.k (drop l.next l.schedule.positions.now);
      part : own_part l.core ≡ P;
      bench : frame_bench l.core l.memory l.identification
          ≡ passed P (take (l.next - first) (drop first l.schedule.readings.now))
          (frame_bench l.initial.core l.initial.memory l.initial.identification);
    }

abbrev pub decreases-loop-next : goal.decreases-loop-next
decreases-loop-next l = length l.schedule.positions.now - l.next
