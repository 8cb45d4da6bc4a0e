-- The accepted frame on a drawn list, computed: a WRITE that was ignored leaves nothing for the WRITE that is accepted after it.
use mathlib.Core.Path.{◌≡◌, refl}
use mathlib.Core.List.{List, [], ◌∷◌}
use mathlib.Core.Bool.{Bool, true, false}
use Prim.Native.Nat.{ℕ, ◌+◌, ◌*◌, ◌^◌}
use Rattle.laws.specs.Pick.{pick}
use Rattle.codes.specs.Part.{m95512, m95512d}
use Rattle.codes.specs.Status.{bit_of}
use Rattle.codes.specs.Instructions.{decode}
use Rattle.codes.specs.Verdicts.{verdict_by}
use Rattle.chip.specs.Power.{delivered}
use Rattle.latch.specs.Latches.{zeros}
use Rattle.edges.specs.Rising.{risen, whole_byte}
use Rattle.edges.specs.Falling.{fallen}
use Rattle.chip.specs.Cells.{Cells, memory_cells, identification_cells}
use Rattle.chip.specs.Records.{idle}
use Rattle.pins.specs.Devices.{resting}
use Rattle.pins.specs.Events.{on_s, on_c, on_d}
use Rattle.pins.specs.Answers.{PinBench, pin_bench}
use Rattle.pins_theorems.specs.Cells.{byte_taken}
use Rattle.pins_theorems.specs.Hands.{no_hand, accepted_cell}
use Rattle.pins_theorems.specs.Locks.{accepted_lock}

-- D takes the bit, and the clock goes up and down
abbrev bit_events : ℕ → List ℕ → List ℕ
bit_events d es = (2 * 2 ^ 32 + d) ∷ (2 ^ 32 + 1) ∷ 2 ^ 32 ∷ es

abbrev byte_events : ℕ → List ℕ → List ℕ
byte_events v es =
    bit_events (bit_of 7 v) (bit_events (bit_of 6 v) (bit_events (bit_of 5 v) (bit_events (bit_of 4 v)
    (bit_events (bit_of 3 v) (bit_events (bit_of 2 v) (bit_events (bit_of 1 v) (bit_events (bit_of 0 v) es)))))))

abbrev bytes_events : List ℕ → List ℕ → List ℕ
bytes_events [] es = es
bytes_events (v ∷ vs) es = byte_events v (bytes_events vs es)

-- select, the bytes, deselect
abbrev frame_events : List ℕ → List ℕ → List ℕ
frame_events vs es = 0 ∷ bytes_events vs (1 ∷ es)

-- a WRITE at 0010h with WEL 0, WREN, and the WRITE of case a
abbrev events : List ℕ
events =
    frame_events (0x02 ∷ 0x00 ∷ 0x10 ∷ 0x55 ∷ [])
    (frame_events (0x06 ∷ []) (frame_events (0x02 ∷ 0x00 ∷ 0x7e ∷ 0x11 ∷ 0x22 ∷ 0x33 ∷ 0x44 ∷ []) []))

-- a device as delivered; no memory is read
abbrev bench : PinBench
bench = pin_bench (resting (delivered 0)) [] []

abbrev accepted_cells : List ℕ → List Bool
accepted_cells [] = []
accepted_cells (i ∷ is) = accepted_cell memory_cells m95512 i events bench no_hand ∷ accepted_cells is

-- its four cells, wrapped within the page; not the cells beside them, the next page's first cell, nor 0010h, for which a byte was taken
pub accepted_shown : accepted_cells (0x7e ∷ 0x7f ∷ 0x00 ∷ 0x01 ∷ []) ≡ true ∷ true ∷ true ∷ true ∷ []
unfolding accepted_cell pick verdict_by decode zeros risen whole_byte fallen on_s on_c on_d
accepted_shown = refl

pub others_shown : accepted_cells (0x7d ∷ 0x02 ∷ 0x80 ∷ 0x10 ∷ []) ≡ false ∷ false ∷ false ∷ false ∷ []
unfolding accepted_cell pick verdict_by decode zeros risen whole_byte fallen on_s on_c on_d
others_shown = refl

pub taken_shown : byte_taken memory_cells m95512 0x10 events bench ≡ true
unfolding byte_taken pick verdict_by decode zeros risen whole_byte fallen on_s on_c on_d
taken_shown = refl

-- ---- the identification page of an M95512-D, and its lock

-- WREN, and 82h of 11h, 22h and 33h at cell 7Eh
abbrev page_events : List ℕ
page_events = frame_events (0x06 ∷ []) (frame_events (0x82 ∷ 0x00 ∷ 0x7e ∷ 0x11 ∷ 0x22 ∷ 0x33 ∷ []) [])

-- WREN, and 82h at 0400h with a data byte
abbrev lock_events : ℕ → List ℕ
lock_events v = frame_events (0x06 ∷ []) (frame_events (0x82 ∷ 0x04 ∷ 0x00 ∷ v ∷ []) [])

abbrev bench_d : PinBench
bench_d = pin_bench (resting (idle 1 false false false false m95512d.longest 0 m95512d.size)) [] []

abbrev accepted_in : Cells → List ℕ → List Bool
accepted_in k [] = []
accepted_in k (i ∷ is) = accepted_cell k m95512d i page_events bench_d no_hand ∷ accepted_in k is

-- three cells of the page, wrapped within it; not the cell after them, nor any of the memory
pub page_shown : accepted_in identification_cells (0x7e ∷ 0x7f ∷ 0x00 ∷ 0x01 ∷ []) ≡ true ∷ true ∷ true ∷ false ∷ []
unfolding accepted_cell pick verdict_by decode zeros risen whole_byte fallen on_s on_c on_d
page_shown = refl

pub memory_shown : accepted_in memory_cells (0x7e ∷ 0x7f ∷ 0x00 ∷ 0x80 ∷ []) ≡ false ∷ false ∷ false ∷ false ∷ []
unfolding accepted_cell pick verdict_by decode zeros risen whole_byte fallen on_s on_c on_d
memory_shown = refl

-- the lock by data bit 1, and not by bit 0
pub lock_shown : accepted_lock m95512d (lock_events 0x02) bench_d no_hand ≡ true
unfolding accepted_lock pick verdict_by decode zeros risen whole_byte fallen on_s on_c on_d
lock_shown = refl

pub bit_0_shown : accepted_lock m95512d (lock_events 0x01) bench_d no_hand ≡ false
unfolding accepted_lock pick verdict_by decode zeros risen whole_byte fallen on_s on_c on_d
bit_0_shown = refl
