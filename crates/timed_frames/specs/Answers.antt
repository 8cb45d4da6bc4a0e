-- The public call, for every input: the refusals in their order, the answer, and what is left of the record, of the
-- memory, of the identification page and of the output.
use Rattle.codes.specs.Refusals.{number, no_refusal, is_done, Outcome}
use Rattle.std.specs.Prelude.{ℕ, Bool, ◌&&◌, List, ◌≡◌, length, eqb, leb, Err}
use Rattle.laws.specs.Pick.{pick}
use Rattle.codes.specs.Part.{Part}
use Rattle.codes.specs.declared.Refusal.TheVariants.{MemoryLength, RecordRange, FrameLength, BitCount, OutputLength}
use Rattle.chip.specs.Lents.{Lent}
use Rattle.chip.specs.Ranges.{in_ranges}
use Rattle.chip.specs.Time.{lent_fits}
use Rattle.chip.specs.declared.Core.{Core}
use Rattle.fields.specs.Bytes.{instruction}
use Rattle.fields.specs.Counts.{bits_fit, longest_frame}
use Rattle.shown.specs.Shown.{output, undriven}
use Rattle.frames.specs.Answers.{frame_reply, Framed}
use Rattle.frames.specs.Play.{FrameBench, frame_bench}
use Rattle.timed_frames.specs.Schedules.{places_fit}
use Rattle.timed_frames.specs.InTime.{ran_in, sights_in, left_by}
use Rattle.timed_frames.specs.declared.Mode.{Mode}

-- what stands for refusals 1 to 5, in that order, and for none: those of a frame, and 4 also for lists that do not fit
abbrev pub in_time_choice : {A : Type 0} → Part → Core → Lent → List ℕ → ℕ → List ℕ → List ℕ → ℕ
    → A → A → A → A → A → A → A
in_time_choice P c m s n ps ts room one two three four five done =
    pick (lent_fits P (length m.memory) (length m.identification))
    (pick (in_ranges P c)
    (pick (leb (length s) (longest_frame P))
    (pick (bits_fit (length s) n && places_fit n ps ts)
    (pick (eqb room (length s)) done
    five) four) three) two) one

abbrev pub in_time_outcome : Part → Core → Lent → List ℕ → ℕ → List ℕ → List ℕ → ℕ → Outcome
in_time_outcome P c m s n ps ts room =
    in_time_choice P c m s n ps ts room (Err MemoryLength) (Err RecordRange) (Err FrameLength)
    (Err BitCount) (Err OutputLength) no_refusal

-- its number in document 01
abbrev pub in_time_number : Part → Core → Lent → List ℕ → ℕ → List ℕ → List ℕ → ℕ → ℕ
in_time_number P c m s n ps ts room = in_time_choice P c m s n ps ts room 1 2 3 4 5 0

-- the record with what is lent to it
abbrev pub given : Core → Lent → FrameBench
given c m = frame_bench c m.memory m.identification

-- what is left of record, memory and identification page
unfoldable pub in_time_left : Part → Core → Lent → Bool → List ℕ → ℕ → List ℕ → List ℕ → ℕ → FrameBench
in_time_left P c m w s n ps ts room =
    pick (is_done (in_time_outcome P c m s n ps ts room)) (left_by P ps ts (given c m) w s n) (given c m)

unfoldable pub framed_in_time : Part → Core → Lent → Bool → List ℕ → ℕ → List ℕ → List ℕ → ℕ → Framed
framed_in_time P c m w s n ps ts room =
    record {
      answer =
          frame_reply (in_time_outcome P c m s n ps ts room)
          (undriven P (instruction P s) (ran_in P ps ts (given c m)) n);
      core = (in_time_left P c m w s n ps ts room).core;
    }

unfoldable pub output_in_time : Part → Core → Lent → Mode → List ℕ → ℕ → List ℕ → List ℕ → List ℕ → List ℕ
output_in_time P c m o s n ps ts out =
    pick (is_done (in_time_outcome P c m s n ps ts (length out)))
    (output P (ran_in P ps ts (given c m)) (sights_in P ps ts (given c m) o) s n) out

-- what the call hands back and leaves, all of it: the answer with the record, its number, the memory, the
-- identification page and the output
abbrev pub AnsweredInTime : Part → Core → Lent → Bool → Mode → List ℕ → ℕ → List ℕ → List ℕ → List ℕ
    → Framed → List ℕ → List ℕ → List ℕ → Type 0
AnsweredInTime P c m w o s n ps ts out r cells page shown =
    (r ≡ framed_in_time P c m w s n ps ts (length out))
    × ((number r.answer ≡ in_time_number P c m s n ps ts (length out))
    × ((cells ≡ (in_time_left P c m w s n ps ts (length out)).memory)
    × ((page ≡ (in_time_left P c m w s n ps ts (length out)).identification)
    × (shown ≡ output_in_time P c m o s n ps ts out))))
