-- What the walk through the lists says on the way, for the functions' contracts.
use Rattle.std.specs.Prelude.{ℕ, ◌≤◌, List, ◌≡◌, leb, length, get_or}
use Rattle.laws.specs.Pick.{pick}
use Rattle.laws.specs.Table.{table}
use Rattle.codes.specs.Part.{Part}
use Rattle.chip.specs.Records.{status}
use Rattle.shown.specs.Shown.{padded_at}
use Rattle.frames.specs.Play.{FrameBench}
use Rattle.timed_frames.specs.Schedules.{due, bench_at}
use Rattle.timed_frames.specs.InTime.{loaded_at}
use Rattle.timed_frames.specs.declared.Mode.{Mode}

-- some position, at most so far, was reached: so many readings came, and the bench is the one there
pub record Walked (P : Part) (ps ts : List ℕ) (b : FrameBench) (most next : ℕ) (x : FrameBench) : Type 0 where
  pub place : ℕ
  pub early : place ≤ most
  pub came : next ≡ due place ps
  pub bench : x ≡ bench_at P ps ts b place

-- an output with the status over every byte but the first
abbrev pub statuses_over : Part → List ℕ → List ℕ → FrameBench → Mode → ℕ → List ℕ → List ℕ
statuses_over P ps ts b o n out =
    table (length out) (λ j. pick (leb 1 j)
    (padded_at (length out) n j (status (bench_at P ps ts b (loaded_at o j)).core)) (get_or out j 0))
