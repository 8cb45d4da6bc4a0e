-- Any list of frames, each with its mode and its readings inside, and of clock readings and supply cuts between frames;
-- which cells its executed frames address, and which of them set the lock.
use Rattle.std.specs.Prelude.{ℕ, suc, ◌/◌, Bool, false, ◌&&◌, ◌||◌, List, [], ◌∷◌, take}
use Rattle.codes.specs.Part.{Part}
use Rattle.codes.specs.Verdicts.{is_executed}
use Rattle.codes.specs.Instructions.{is_wrid, picks_lock}
use Rattle.chip.specs.Cells.{Cells, writes_to, latched_in}
use Rattle.chip.specs.Time.{ends}
use Rattle.cuts.specs.Cuts.{cut_in, cut_memory, cut_identification}
use Rattle.cuts.specs.declared.Choice.{Choice}
use Rattle.fields.specs.Bytes.{instruction, address, written}
use Rattle.frames.specs.After.{judged}
use Rattle.frames.specs.Play.{FrameBench, frame_bench, acted}
use Rattle.frames.specs.Play as plain
use Rattle.timed_frames.specs.Schedules.{due}
use Rattle.timed_frames.specs.InTime.{ran_in, last_of, left_by}
use Rattle.timed_frames.specs.declared.Mode.{Mode}

pub data TimedAct : Type 0 where
  -- the level of W, the mode, the bytes, the bit count; the positions and the readings inside
  send : Bool → Mode → List ℕ → ℕ → List ℕ → List ℕ → TimedAct
  -- between frames the clock reads so much
  reading : ℕ → TimedAct
  -- between frames the supply is cut and returns
  cut : Choice → TimedAct

abbrev pub cut_bench : Part → Choice → FrameBench → FrameBench
cut_bench P h b =
    frame_bench (cut_in P h b.core b.memory) (cut_memory P h b.core b.memory)
    (cut_identification P h b.core b.identification)

abbrev pub acted_in_time : Part → TimedAct → FrameBench → FrameBench
acted_in_time P (send w o s n ps ts) b = left_by P ps ts b w s n
acted_in_time P (reading t) b = acted P (plain.reading t) b
acted_in_time P (cut h) b = cut_bench P h b

abbrev pub acted_all_in_time : Part → List TimedAct → FrameBench → FrameBench
acted_all_in_time P [] b = b
acted_all_in_time P (a ∷ acts) b = acted_all_in_time P acts (acted_in_time P a b)

-- ---- cycles that end inside a frame

-- one of the readings ends a cycle
unfoldable pub ends_any : Part → List ℕ → FrameBench → Bool
ends_any P [] b = false
ends_any P (t ∷ ts) b = ends t b.core || ends_any P ts (acted P (plain.reading t) b)

-- a reading inside a frame of n bits does
abbrev pub ends_inside : Part → List ℕ → List ℕ → FrameBench → ℕ → Bool
ends_inside P ps ts b n = ends_any P (take (due (suc (n / 8)) ps) ts) b

-- ---- the cells that executed frames address, of the memory or of the identification page

-- the frame is executed: "no cycle" is judged at the eighth edge, all else at deselect, after all readings
abbrev pub executed_in_time : Part → List ℕ → List ℕ → FrameBench → Bool → List ℕ → ℕ → Bool
executed_in_time P ps ts b w s n = is_executed (judged P (ran_in P ps ts b) w (last_of P ps ts b n).core s n)

-- an executed frame that writes the cells k, whose page has cell i, with a data byte for it
abbrev pub addresses_in_time : Cells → Part → TimedAct → FrameBench → ℕ → Bool
addresses_in_time k P (send w o s n ps ts) b i =
    executed_in_time P ps ts b w s n
    && (writes_to k (instruction P s) (address P s) && latched_in k P (address P s) (written P s) i)
addresses_in_time k P (reading t) b i = false
addresses_in_time k P (cut h) b i = false

abbrev pub addressed_in_time : Cells → Part → List TimedAct → FrameBench → ℕ → Bool
addressed_in_time k P [] b i = false
addressed_in_time k P (a ∷ acts) b i = addresses_in_time k P a b i || addressed_in_time k P acts (acted_in_time P a b) i

-- an executed frame that sets the lock
abbrev pub locks_in_time : Part → TimedAct → FrameBench → Bool
locks_in_time P (send w o s n ps ts) b =
    executed_in_time P ps ts b w s n && (is_wrid (instruction P s) && picks_lock (address P s))
locks_in_time P (reading t) b = false
locks_in_time P (cut h) b = false

abbrev pub locks_any_in_time : Part → List TimedAct → FrameBench → Bool
locks_any_in_time P [] b = false
locks_any_in_time P (a ∷ acts) b = locks_in_time P a b || locks_any_in_time P acts (acted_in_time P a b)
