-- The invariant: the pieces so far, and what they left.
use mathlib.Core.Path.{◌≡◌}
use mathlib.Core.List.{List, ◌++◌}
use Prim.Native.Nat.{ℕ}
use lib.ListN.{length}
use Rattle.std.specs.Slice.Iter.{chunks_size, chunks_rest}
use Rattle.pins.specs.Devices.{device_part}
use Rattle.pins.specs.Answers.{pin_bench}
use Rattle.trace.specs.Pieces.{Took}
use Rattle.trace.proofs.chunks.pieces.Given as goal

abbrev pub invariant-loop-bytes : goal.invariant-loop-bytes
invariant-loop-bytes l =
    record {
      size : chunks_size l.bytes-iterator ≡ 1024;
      rooms : (length l.events ≡ 1024) × (length l.qs ≡ 1024);
      same_room : length l.out ≡ length l.initial.out;
      memory : length l.memory ≡ (device_part l.placed.device).size;
      identification : length l.identification ≡ (device_part l.placed.device).page;
      seen : List ℕ;
      split : seen ++ chunks_rest l.bytes-iterator ≡ l.text;
      took : Took l.initial.placed.line (pin_bench l.initial.placed.device l.initial.memory l.initial.identification) seen l.initial.out l.initial.placed.at l.placed l.memory l.identification l.out;
    }
