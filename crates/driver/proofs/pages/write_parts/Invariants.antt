use Rattle.std.proofs.Common.{◌≡◌, ◌+◌, ◌*◌, ◌≤◌, length}
use Rattle.chip.specs.Records.{own_part}
use Rattle.split.specs.Split.{count}
use Rattle.frames.specs.Play.{frame_bench}
use Rattle.sequence.proofs.Runs.{Rest}
use Rattle.driver.proofs.pages.write_parts.Given as goal

abbrev pub invariant-loop-k : goal.invariant-loop-k
invariant-loop-k l =
    record {
      few : l.frames ≤ 5001 + 5003 * l.k;
      all : l.parts ≡ count (own_part l.initial.next).size (own_part l.initial.next).page l.address (length l.bytes);
      same : own_part l.next ≡ own_part l.initial.next;
      rest : Rest (own_part l.initial.next) l.polls.interval l.polls.limit l.address l.bytes l.parts l.sent (frame_bench l.initial.next l.initial.memory l.initial.identification) l.k l.frames
          (frame_bench l.next l.memory l.identification);
    }
