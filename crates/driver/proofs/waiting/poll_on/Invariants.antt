use Rattle.std.proofs.Common.{◌-◌, ◌^◌, ◌<◌, ◌≤◌}
use Rattle.chip.specs.Records.{own_part, with_time}
use Rattle.frames.specs.Play.{frame_bench}
use Rattle.sequence.proofs.Waits.{Onward}
use Rattle.driver.proofs.waiting.poll_on.Given as goal

-- the bench with two numbers of its record moved
abbrev pub invariant-loop-polls : goal.invariant-loop-polls
invariant-loop-polls l =
    record {
      few : l.polls ≤ l.left;
      reading : l.last < 2 ^ 32;
      onward : Onward (own_part l.start) l.interval l.left (frame_bench l.start l.memory l.identification) l.polls
          (frame_bench (with_time l.last l.rest l.start) l.memory l.identification);
    }

abbrev pub decreases-loop-polls : goal.decreases-loop-polls
decreases-loop-polls l = l.left - l.polls
