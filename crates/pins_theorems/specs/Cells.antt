-- Demand 2's cell rule over events: which of them end a cycle, which make a cell wait, and which take a data byte for
-- a cell. It is said of any lent cells k: the memory's, or the identification page's.
use Rattle.std.specs.Prelude.{ℕ, ◌+◌, ◌*◌, ◌%◌, Bool, false, not, ◌&&◌, ◌||◌, List, [], ◌∷◌, eqb, leb, ltb}
use Rattle.codes.specs.Part.{Part}
use Rattle.codes.specs.Status.{on}
use Rattle.codes.specs.Instructions.{decode}
use Rattle.codes.specs.Verdicts.{is_executed}
use Rattle.chip.specs.Time.{ends}
use Rattle.chip.specs.Cells.{Cells, memory_cells, identification_cells, writes_to, page_in, latched_in}
use Rattle.chip.specs.declared.Core.{Core}
use Rattle.codes.specs.declared.Instruction.{Instruction}
use Rattle.edges.specs.declared.Frame.{Frame}
use Rattle.pins.specs.declared.Device.{Device}
use Rattle.pins.specs.declared.Event.{Event}
use Rattle.pins.specs.declared.Event.TheVariants.{S, C, D, W, Hold, Time}
use Rattle.pins.specs.Devices.{counting}
use Rattle.pins.specs.Events.{judged_now, event_of}
use Rattle.pins.specs.Answers.{PinBench, after_event}

-- the event is a reading that ends the running cycle
abbrev pub ends_cycle : Event → Core → Bool
ends_cycle (S level) c = false
ends_cycle (C level) c = false
ends_cycle (D level) c = false
ends_cycle (W level) c = false
ends_cycle (Hold level) c = false
ends_cycle (Time t) c = ends t c

-- of a bench
abbrev pub cells_of : Cells → PinBench → List ℕ
cells_of memory_cells b = b.memory
cells_of identification_cells b = b.identification

-- data byte j goes to the page's cell (start offset + j) mod page
abbrev pub data_cell : Cells → Part → ℕ → ℕ → ℕ
data_cell k P start j = page_in k P start * P.page + (start % P.page + j) % P.page

-- a frame of the instruction j writes them, and has cell i marked, in the page of its address
abbrev pub in_frame_as : Cells → Part → Instruction → Frame → ℕ → Bool
in_frame_as k P j f i = writes_to k j f.address && latched_in k P f.address f.latch i

abbrev pub in_frame : Cells → Part → Frame → ℕ → Bool
in_frame k P f i = in_frame_as k P (decode P f.code) f i

-- a deselect that is executed as a write of cell i
abbrev pub writes : Cells → Part → ℕ → Event → Device → Bool
writes k P i (S level) x = level && not (on x.pins.s) && is_executed (judged_now P x) && in_frame k P x.frame i
writes k P i (C level) x = false
writes k P i (D level) x = false
writes k P i (W level) x = false
writes k P i (Hold level) x = false
writes k P i (Time t) x = false

-- .. at some event of a list
unfoldable pub writes_any : Cells → Part → ℕ → List ℕ → PinBench → Bool
writes_any k P i [] b = false
writes_any k P i (e ∷ es) b = writes k P i (event_of e) b.device || writes_any k P i es (after_event P e b)

-- the next whole byte of a frame of the instruction j, n bytes being in, is a data byte for cell i
abbrev pub data_for_as : Cells → Part → ℕ → Instruction → ℕ → Frame → Bool
data_for_as k P i j n f =
    writes_to k j f.address && not (leb n P.address_bytes) && eqb (data_cell k P f.address 0) i

abbrev pub data_for : Cells → Part → ℕ → Frame → Bool
data_for k P i f = data_for_as k P i (decode P f.code) f.taken f

-- the event takes it: the eighth counted edge of the byte
abbrev pub takes : Cells → Part → ℕ → Event → Device → Bool
takes k P i (S level) x = false
takes k P i (C level) x =
    level && not (on x.pins.c) && counting x && not (ltb x.frame.bits 7) && data_for k P i x.frame
takes k P i (D level) x = false
takes k P i (W level) x = false
takes k P i (Hold level) x = false
takes k P i (Time t) x = false

-- .. at some event of a list
unfoldable pub byte_taken : Cells → Part → ℕ → List ℕ → PinBench → Bool
byte_taken k P i [] b = false
byte_taken k P i (e ∷ es) b = takes k P i (event_of e) b.device || byte_taken k P i es (after_event P e b)
