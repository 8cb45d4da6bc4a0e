-- A supply cut and the power's return: what waits is cut down to what the bench chose, and then its cycle is over. All
-- else is as at power-up, with the surviving bits; the cycle length and the last reading are kept.
use Rattle.codes.specs.declared.Refusal.{Refusal}
use Rattle.std.specs.Prelude.{ℕ, Bool, false, not, ◌&&◌, List}
use Rattle.laws.specs.Pick.{pick}
use Rattle.laws.specs.Marks.{mark, and_words}
use Rattle.codes.specs.Part.{Part, room_words}
use Rattle.codes.specs.Status.{on, bit_of, status_byte}
use Rattle.codes.specs.Refusals.{is_done}
use Rattle.latch.specs.declared.Latch.{Latch}
use Rattle.chip.specs.Records.{running, waits_status, waits_page, waits_identification, waits_lock}
use Rattle.chip.specs.Records.{nothing, waits_with, with_waits, with_blank, without_cycle}
use Rattle.chip.specs.Time.{ended, ended_cells, ended_blank, reading_outcome}
use Rattle.chip.specs.declared.Waiting.{Waiting}
use Rattle.chip.specs.declared.Core.{Core}
use Rattle.chip.specs.declared.Answered.{Answered}
use Rattle.cuts.specs.declared.Choice.{Choice}

-- ---- the choice

-- mark i of the words: for cell i of a page that waits, for bit i of a status value; mark 0 for the lock
abbrev pub chosen : Choice → ℕ → Bool
chosen h i = mark h.words i

-- ---- what waits, cut down to it

-- a page write: of the marked cells those that the bench chose
abbrev pub cut_latch : Choice → Latch → Latch
cut_latch h l = record { bytes = l.bytes; marks = and_words room_words l.marks h.words }

-- bit k of a status value where the bench chose it, else as it was
abbrev pub cut_bit : Choice → ℕ → ℕ → ℕ → Bool
cut_bit h k v old = pick (chosen h k) (on (bit_of k v)) (on old)

abbrev pub cut_status : Choice → ℕ → Core → ℕ
cut_status h v c = status_byte (cut_bit h 7 v c.srwd) (cut_bit h 3 v c.bp1) (cut_bit h 2 v c.bp0) false false

-- of a status value each bit, of latched bytes each cell; a lock that was not chosen no longer waits
abbrev pub cut_waits : Choice → Core → Waiting
cut_waits h c =
    let w = c.waits in
    pick (waits_status w) (waits_with (cut_status h w.status c) w.latch w)
    (pick (waits_lock w && not (chosen h 0)) nothing
    (waits_with w.status (cut_latch h w.latch) w))

abbrev pub cut_down : Choice → Core → Core
cut_down h c = with_waits (cut_waits h c) c

-- ---- the cut

-- the record but for the number of blank cells: a cycle that runs is over, for what was chosen. With none WEL is 0 too
unfoldable pub cut_core : Choice → Core → Core
cut_core h c = pick (running c) (ended (cut_down h c)) (without_cycle c)

-- lent cells, the memory's or the identification page's
unfoldable pub cut_cells : (Waiting → Bool) → Part → Choice → Core → List ℕ → List ℕ
cut_cells its P h c m = pick (running c) (ended_cells its P (cut_down h c) m) m

abbrev pub cut_memory : Part → Choice → Core → List ℕ → List ℕ
cut_memory P h c m = cut_cells waits_page P h c m

abbrev pub cut_identification : Part → Choice → Core → List ℕ → List ℕ
cut_identification P h c d = cut_cells waits_identification P h c d

-- the number of blank cells as at a cycle's end, and the record with it
unfoldable pub cut_blank : Part → Choice → Core → List ℕ → ℕ
cut_blank P h c m = pick (running c) (ended_blank P (cut_down h c) m) c.blank

abbrev pub cut_in : Part → Choice → Core → List ℕ → Core
cut_in P h c m = with_blank (cut_blank P h c m) (cut_core h c)

-- ---- the public call, for every input: refusals 1 and 2, as of a clock reading

abbrev pub cut_answer : Part → Choice → Core → List ℕ → List ℕ → Answered (Unit {0}) Refusal
cut_answer P h c m d =
    record { answer = reading_outcome P c m d; core = pick (is_done (reading_outcome P c m d)) (cut_in P h c m) c }

abbrev pub cut_memory_answer : Part → Choice → Core → List ℕ → List ℕ → List ℕ
cut_memory_answer P h c m d = pick (is_done (reading_outcome P c m d)) (cut_memory P h c m) m

abbrev pub cut_identification_answer : Part → Choice → Core → List ℕ → List ℕ → List ℕ
cut_identification_answer P h c m d = pick (is_done (reading_outcome P c m d)) (cut_identification P h c d) d
