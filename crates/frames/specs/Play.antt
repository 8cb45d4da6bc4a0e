-- Any list of frames and clock readings, acted over a record, a memory and an identification page; and which cells its
-- executed frames address.
use Rattle.std.specs.Prelude.{ℕ, Bool, false, ◌&&◌, ◌||◌, List, [], ◌∷◌}
use Rattle.codes.specs.Part.{Part}
use Rattle.chip.specs.Records.{running}
use Rattle.codes.specs.Verdicts.{is_executed}
use Rattle.codes.specs.Instructions.{is_wrid, picks_lock}
use Rattle.chip.specs.Cells.{Cells, memory_cells, identification_cells, writes_to, latched_in}
use Rattle.chip.specs.Time.{timed_in, timed_memory, timed_identification}
use Rattle.chip.specs.declared.Core.{Core}
use Rattle.fields.specs.Bytes.{instruction, address, written}
use Rattle.frames.specs.After.{judged, after}

pub data Act : Type 0 where
  -- the level of W, the bytes, the bit count
  frame : Bool → List ℕ → ℕ → Act
  -- the clock reads so much
  reading : ℕ → Act

-- a bench of the frame model: a record with its memory and its identification page; the pin model's is `PinBench`
pub record FrameBench : Type 0 where
  pub core : Core
  pub memory : List ℕ
  pub identification : List ℕ

abbrev pub frame_bench : Core → List ℕ → List ℕ → FrameBench
frame_bench c m i = record { core = c; memory = m; identification = i }

abbrev pub acted : Part → Act → FrameBench → FrameBench
acted P (frame w s n) d = frame_bench (after P (running d.core) w d.core s n) d.memory d.identification
acted P (reading t) d =
    frame_bench (timed_in P t d.core d.memory) (timed_memory P t d.core d.memory)
    (timed_identification P t d.core d.identification)

abbrev pub acted_all : Part → List Act → FrameBench → FrameBench
acted_all P [] d = d
acted_all P (a ∷ acts) d = acted_all P acts (acted P a d)

-- ---- the cells that executed frames address, of the memory or of the identification page

abbrev pub lent_cells : Cells → FrameBench → List ℕ
lent_cells memory_cells d = d.memory
lent_cells identification_cells d = d.identification

-- an executed frame that writes the cells k, whose page has cell i, with a data byte for it
abbrev pub addresses : Cells → Part → Act → Core → ℕ → Bool
addresses k P (frame w s n) c i =
    is_executed (judged P (running c) w c s n)
    && (writes_to k (instruction P s) (address P s) && latched_in k P (address P s) (written P s) i)
addresses k P (reading t) c i = false

abbrev pub addressed : Cells → Part → List Act → FrameBench → ℕ → Bool
addressed k P [] d i = false
addressed k P (a ∷ acts) d i = addresses k P a d.core i || addressed k P acts (acted P a d) i

-- an executed frame that sets the lock
abbrev pub locks : Part → Act → Core → Bool
locks P (frame w s n) c =
    is_executed (judged P (running c) w c s n) && (is_wrid (instruction P s) && picks_lock (address P s))
locks P (reading t) c = false

abbrev pub locks_any : Part → List Act → FrameBench → Bool
locks_any P [] d = false
locks_any P (a ∷ acts) d = locks P a d.core || locks_any P acts (acted P a d)
