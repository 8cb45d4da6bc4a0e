-- What a clock reading does to the record, to the memory and to the identification page.
use Rattle.codes.specs.declared.Refusal.{Refusal}
use Rattle.std.specs.Prelude.{ℕ, ◌+◌, ◌-◌, ◌%◌, ◌^◌, Bool, ◌&&◌, List, length, ◌==◌, nat_le, Err}
use Rattle.laws.specs.Pick.{pick}
use Rattle.codes.specs.Part.{Part}
use Rattle.latch.specs.Latches.{stored}
use Rattle.blanks.specs.Blanks.{recounted}
use Rattle.chip.specs.Records.{running, waits_status, waits_page, waits_identification, waits_lock}
use Rattle.chip.specs.Records.{with_status, with_lock, with_time, with_blank, without_cycle}
use Rattle.chip.specs.Ranges.{in_ranges}
use Rattle.codes.specs.Refusals.{is_done, no_refusal}
use Rattle.chip.specs.declared.Waiting.{Waiting}
use Rattle.chip.specs.declared.Core.{Core}
use Rattle.chip.specs.declared.Answered.{Answered}
use Rattle.codes.specs.declared.Refusal.TheVariants.{MemoryLength, RecordRange}
use Rattle.codes.specs.Refusals.{Outcome}

-- new minus old on a free-running counter of 32 bits; old is a reading, below 2^32: the record's field is a u32
abbrev pub elapsed : ℕ → ℕ → ℕ
elapsed old new = (new + 2 ^ 32 - old) % 2 ^ 32

-- the reading t ends the cycle: time left reaches 0
abbrev pub ends : ℕ → Core → Bool
ends t c = running c && nat_le c.left (elapsed c.last t)

-- what waits is stored and WEL becomes 0, in that same step: a status value or the lock into the record ..
abbrev pub ended : Core → Core
ended c =
    without_cycle
    (pick (waits_status c.waits) (with_status c.waits.status c) (pick (waits_lock c.waits) (with_lock c) c))

-- .. and latched bytes into the cells that they wait for: `its` says whether what waits is for them
abbrev pub ended_cells : (Waiting → Bool) → Part → Core → List ℕ → List ℕ
ended_cells its P c m = pick (its c.waits) (stored P c.waits.page c.waits.latch m) m

-- .. and the number of blank cells moves with the memory's cells; an identification page does not count
abbrev pub ended_blank : Part → Core → List ℕ → ℕ
ended_blank P c m = pick (waits_page c.waits) (recounted P c.blank m (ended_cells waits_page P c m)) c.blank

-- the record after the reading t, but for that number
unfoldable pub timed : ℕ → Core → Core
timed t c = pick (ends t c) (with_time t 0 (ended c)) (with_time t (c.left - elapsed c.last t) c)

-- lent cells after it: the memory, and the identification page, which is a memory of one page
unfoldable pub timed_cells : (Waiting → Bool) → Part → ℕ → Core → List ℕ → List ℕ
timed_cells its P t c m = pick (ends t c) (ended_cells its P c m) m

abbrev pub timed_memory : Part → ℕ → Core → List ℕ → List ℕ
timed_memory P t c m = timed_cells waits_page P t c m

abbrev pub timed_identification : Part → ℕ → Core → List ℕ → List ℕ
timed_identification P t c d = timed_cells waits_identification P t c d

-- the number of blank cells after it, of the memory m before it; and the record with it
unfoldable pub timed_blank : Part → ℕ → Core → List ℕ → ℕ
timed_blank P t c m = pick (ends t c) (ended_blank P c m) c.blank

abbrev pub timed_in : Part → ℕ → Core → List ℕ → Core
timed_in P t c m = with_blank (timed_blank P t c m) (timed t c)

-- ---- the public clock reading, for every record, every memory and every identification page

-- both lent slices, given by their lengths, are as long as the part has it
abbrev pub lent_fits : Part → ℕ → ℕ → Bool
lent_fits P size cells = size == P.size && cells == P.page

-- refusal 1 for other lengths, then 2 for a record outside its ranges
abbrev pub admitted : Part → Core → ℕ → ℕ → Outcome
admitted P c size cells = pick (lent_fits P size cells) (pick (in_ranges P c) no_refusal (Err RecordRange)) (Err MemoryLength)

-- what stands for refusal 1, for 2 after it, and for no refusal
abbrev pub reading_choice : {A : Type 0} → Part → Core → List ℕ → List ℕ → A → A → A → A
reading_choice P c m d one two done = pick (lent_fits P (length m) (length d)) (pick (in_ranges P c) done two) one

abbrev pub reading_outcome : Part → Core → List ℕ → List ℕ → Outcome
reading_outcome P c m d = reading_choice P c m d (Err MemoryLength) (Err RecordRange) no_refusal

-- its number in document 01
abbrev pub reading_number : Part → Core → List ℕ → List ℕ → ℕ
reading_number P c m d = reading_choice P c m d 1 2 0

abbrev pub clock_reading : Part → ℕ → Core → List ℕ → List ℕ → Answered (Unit {0}) Refusal
clock_reading P t c m d =
    record { answer = reading_outcome P c m d; core = pick (is_done (reading_outcome P c m d)) (timed_in P t c m) c }

abbrev pub clock_memory : Part → ℕ → Core → List ℕ → List ℕ → List ℕ
clock_memory P t c m d = pick (is_done (reading_outcome P c m d)) (timed_memory P t c m) m

abbrev pub clock_identification : Part → ℕ → Core → List ℕ → List ℕ → List ℕ
clock_identification P t c m d = pick (is_done (reading_outcome P c m d)) (timed_identification P t c d) d
