-- What the driver sends: a list of frames and clock readings. Each wait takes its limit as the most polls that it may
-- make; the state along the way is that of the frame definitions played over the list, and nothing here counts but
-- `sent`, over the list itself.
use Rattle.std.specs.Prelude.{ℕ, zero, suc, ◌+◌, ◌-◌, ◌*◌, ◌%◌, ◌^◌, Bool, true, List, [], ◌∷◌, ◌++◌, length, eqb, ltb}
use Rattle.laws.specs.Pick.{pick}
use Rattle.codes.specs.Part.{Part}
use Rattle.codes.specs.Instructions.{rdsr_code}
use Rattle.codes.specs.Protect.{lowest_protected}
use Rattle.codes.specs.Status.{on, bit_of}
use Rattle.chip.specs.Records.{running}
use Rattle.chip.specs.Questions.{lowest}
use Rattle.chip.specs.declared.Core.{Core}
use Rattle.frames.specs.Play.{Act, frame, reading, FrameBench, acted, acted_all}
use Rattle.frames.specs.Sent.{wren_bytes, write_bytes}
use Rattle.split.specs.Split.{count, split_address}
use Rattle.split.specs.Pieces.{piece}

-- ---- the frames. W does not matter to any of them

-- all bits of the bytes
abbrev pub whole : List ℕ → Act
whole s = frame true s (8 * length s)

abbrev pub wren : Act
wren = whole wren_bytes

-- the code, and a byte in which the status shows
abbrev pub rdsr : Act
rdsr = whole (rdsr_code ∷ 0x00 ∷ [])

abbrev pub write : Part → ℕ → List ℕ → Act
write P a bytes = whole (write_bytes P a bytes)

-- how many frames a list has
abbrev pub sent : List Act → ℕ
sent [] = 0
sent (frame w s n ∷ acts) = suc (sent acts)
sent (reading t ∷ acts) = sent acts

-- ---- a wait

-- the clock moved by the interval; the counter wraps
abbrev pub moved : ℕ → FrameBench → Act
moved interval d = reading ((d.core.last + interval) % 2 ^ 32)

-- a poll after moving the clock
abbrev pub late_poll : ℕ → FrameBench → List Act
late_poll interval d = moved interval d ∷ rdsr ∷ []

-- polls while WIP is 1 and some are left
unfoldable pub polls_on : Part → ℕ → ℕ → FrameBench → List Act
polls_on P interval zero d = []
polls_on P interval (suc left) d =
    pick (running d.core) (late_poll interval d ++ polls_on P interval left (acted_all P (late_poll interval d) d)) []

-- the first wait polls without moving the clock ..
unfoldable pub first_wait : Part → ℕ → ℕ → FrameBench → List Act
first_wait P interval limit d = rdsr ∷ polls_on P interval (limit - 1) (acted P rdsr d)

-- .. and that of a page moves it before each poll
unfoldable pub page_wait : Part → ℕ → ℕ → FrameBench → List Act
page_wait P interval limit d = late_poll interval d ++ polls_on P interval (limit - 1) (acted_all P (late_poll interval d) d)

-- ---- a page: WREN and WRITE without moving the clock, then its wait

abbrev pub wren_and_write : Part → ℕ → List ℕ → List Act
wren_and_write P a bytes = wren ∷ write P a bytes ∷ []

unfoldable pub page_acts : Part → ℕ → ℕ → ℕ → List ℕ → FrameBench → List Act
page_acts P interval limit a bytes d =
    wren_and_write P a bytes ++ page_wait P interval limit (acted_all P (wren_and_write P a bytes) d)

-- the acts of page part k of a run of bytes from address a on
abbrev pub part_acts : Part → ℕ → ℕ → ℕ → List ℕ → ℕ → FrameBench → List Act
part_acts P interval limit a bytes k d =
    page_acts P interval limit (split_address P.size P.page a (length bytes) k)
    (piece P.size P.page a bytes k) d

-- ---- a run

-- how it ends: all pages done, a wait that used its limit, data that touches the protected block
pub data Ending : Type 0 where
  all_done : Ending
  timed_out : Ending
  protected : Ending

-- its number in document 01
abbrev pub ending_number : Ending → ℕ
ending_number all_done = 0
ending_number timed_out = 9
ending_number protected = 13

pub record Run : Type 0 where
  pub acts : List Act
  -- pages done
  pub pages : ℕ
  pub ending : Ending

abbrev pub stopped : List Act → Ending → Run
stopped acts e = record { acts = acts; pages = 0; ending = e }

-- a run after other acts, and after those of a page done
abbrev pub begun : List Act → Run → Run
begun acts r = record { acts = acts ++ r.acts; pages = r.pages; ending = r.ending }

abbrev pub page_done : List Act → Run → Run
page_done acts r = record { acts = acts ++ r.acts; pages = suc r.pages; ending = r.ending }

-- n page parts from part k on, in rising address order
unfoldable pub pages_from : Part → ℕ → ℕ → ℕ → List ℕ → ℕ → ℕ → FrameBench → Run
pages_from P interval limit a bytes zero k d = stopped [] all_done
pages_from P interval limit a bytes (suc n) k d =
    let acts = part_acts P interval limit a bytes k d in
    let next = acted_all P acts d in
    pick (running next.core) (stopped acts timed_out)
    (page_done acts (pages_from P interval limit a bytes n (suc k) next))

-- all of them
abbrev pub all_parts : Part → ℕ → ℕ → ℕ → List ℕ → FrameBench → Run
all_parts P interval limit a bytes d =
    pages_from P interval limit a bytes (count P.size P.page a (length bytes)) 0 d

-- where protection starts as a status byte shows it: BP1 and BP0 are its bits 3 and 2
abbrev pub lowest_shown : Part → ℕ → ℕ
lowest_shown P s = lowest_protected P (on (bit_of 3 s)) (on (bit_of 2 s))

-- n cells from a on, some of them protected: the end is above the lowest protected address
abbrev pub touches : Part → Core → ℕ → ℕ → Bool
touches P c a n = ltb (lowest P c) (a + n)

-- the whole run: nothing for no data, else the first wait and the page parts. Where protection starts is read from the
-- device that the first wait leaves, which is what its last poll shows; a run that touches the block sends nothing more
unfoldable pub run : Part → ℕ → ℕ → ℕ → List ℕ → FrameBench → Run
run P interval limit a bytes d =
    let first = first_wait P interval limit d in
    let next = acted_all P first d in
    pick (eqb (length bytes) 0) (stopped [] all_done)
    (pick (running next.core) (stopped first timed_out)
    (pick (touches P next.core a (length bytes)) (stopped first protected)
    (begun first (all_parts P interval limit a bytes next))))
