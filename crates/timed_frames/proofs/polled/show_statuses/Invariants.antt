-- The invariant: the bytes below j show their status, and the walk is at most at j.
use Prim.Native.Nat.{ℕ}
use mathlib.Core.Bool.{◌&&◌}
use mathlib.Core.Path.{◌≡◌}
use lib.Dec.{leb, ltb}
use lib.ListN.{length, get_or}
use Rattle.laws.specs.Pick.{pick}
use Rattle.chip.specs.Records.{own_part, status}
use Rattle.shown.specs.Shown.{padded_at}
use Rattle.frames.specs.Play.{frame_bench}
use Rattle.timed_frames.specs.Schedules.{bench_at}
use Rattle.timed_frames.specs.InTime.{loaded_at}
use Rattle.timed_frames.specs.Walked.{Walked}
use Rattle.timed_frames.proofs.polled.show_statuses.Given as goal

abbrev pub invariant-loop-j : goal.invariant-loop-j
invariant-loop-j l =
    let P = own_part l.initial.walk.core in
    let b = frame_bench l.initial.walk.core l.initial.memory l.initial.identification in
    record {
      part : own_part l.walk.core ≡ P;
      shown : (i : ℕ) → get_or l.out i 0 ≡ pick (leb 1 i && ltb i l.j)
          (padded_at (length l.initial.out) l.bits i (status (bench_at P l.schedule.positions.now l.schedule.readings.now b (loaded_at l.mode i)).core))
          (get_or l.initial.out i 0);
      walked : Walked P l.schedule.positions.now l.schedule.readings.now b l.j l.walk.next (frame_bench l.walk.core l.memory l.identification);
    }
