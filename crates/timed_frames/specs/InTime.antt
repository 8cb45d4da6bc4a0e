-- What a frame with readings inside meets, and what it leaves.
use Rattle.std.specs.Prelude.{ℕ, suc, ◌/◌, Bool, true, false, List}
use Rattle.codes.specs.Part.{Part}
use Rattle.codes.specs.declared.Instruction.{Instruction}
use Rattle.codes.specs.declared.Instruction.TheVariants.{Wren, Wrdi, Rdsr, Wrsr, Read, Write, Rdid, Wrid, Silence}
use Rattle.chip.specs.Records.{running, status, lock_byte}
use Rattle.shown.specs.Shown.{Sights}
use Rattle.frames.specs.After.{after}
use Rattle.frames.specs.Play.{FrameBench, frame_bench}
use Rattle.timed_frames.specs.Schedules.{bench_at}
use Rattle.timed_frames.specs.declared.Mode.{Mode}
use Rattle.timed_frames.specs.declared.Mode.TheVariants.{Zero, Three}

-- byte j is loaded at the falling edge after j whole bytes. The readings of position j come after that edge in mode 0
-- and before it in mode 3
abbrev pub loaded_at : Mode → ℕ → ℕ
loaded_at Zero j = j
loaded_at Three j = suc j

module _ (P : Part) (ps ts : List ℕ) (b : FrameBench) where
  -- "no cycle" is judged at the eighth edge: after the readings at 0 and before those at 1
  abbrev pub ran_in : Bool
  ran_in = running (bench_at P ps ts b 1).core

  -- what there is to be seen: data byte d is byte d + 1, and shows the status as it was when it was loaded. Cells and
  -- lock are shown only where no cycle ran at the eighth edge, and then no reading of the frame changes them
  abbrev pub sights_in : Mode → Sights
  sights_in o =
      let first = bench_at P ps ts b 1 in
      record {
        status = λ d. status (bench_at P ps ts b (loaded_at o (suc d))).core;
        lock = lock_byte first.core;
        memory = first.memory;
        identification = first.identification;
      }

  -- at deselect, after all readings
  abbrev pub last_of : ℕ → FrameBench
  last_of n = bench_at P ps ts b (suc (n / 8))

  -- what the frame leaves: deselect judges all but "no cycle" then
  abbrev pub left_by : Bool → List ℕ → ℕ → FrameBench
  left_by w s n =
      let last = last_of n in
      frame_bench (after P ran_in w last.core s n) last.memory last.identification

-- ---- the instructions that a running cycle does not stop on every part, or on one

abbrev pub is_rdsr : Instruction → Bool
is_rdsr Wren = false
is_rdsr Wrdi = false
is_rdsr Rdsr = true
is_rdsr Wrsr = false
is_rdsr Read = false
is_rdsr Write = false
is_rdsr Rdid = false
is_rdsr Wrid = false
is_rdsr Silence = false

abbrev pub is_wrdi : Instruction → Bool
is_wrdi Wren = false
is_wrdi Wrdi = true
is_wrdi Rdsr = false
is_wrdi Wrsr = false
is_wrdi Read = false
is_wrdi Write = false
is_wrdi Rdid = false
is_wrdi Wrid = false
is_wrdi Silence = false
