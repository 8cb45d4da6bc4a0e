-- What a wait hands back, and leaves of what it was lent.
use Rattle.std.specs.Prelude.{◌≡◌, ℕ, List}
use Rattle.codes.specs.Part.{Part}
use Rattle.chip.specs.Records.{status}
use Rattle.frames.specs.Play.{Act, FrameBench, acted_all}
use Rattle.sequence.specs.Sequence.{sent}
use Rattle.driver.specs.declared.waiting.Waited.{Waited}

-- of a list of acts: the record that it leaves, the status byte seen last, the frames sent, memory and identification
-- page
abbrev pub Told : Part → List Act → FrameBench → Waited → List ℕ → List ℕ → Type 0
Told P acts d r m i =
    (r.core ≡ (acted_all P acts d).core)
    × ((r.status ≡ status r.core)
    × ((r.frames ≡ sent acts) × ((m ≡ (acted_all P acts d).memory) × (i ≡ (acted_all P acts d).identification))))

-- of acts that depend on the bench
abbrev pub ToldFrom : Part → (FrameBench → List Act) → FrameBench → Waited → List ℕ → List ℕ → Type 0
ToldFrom P acts d r m i = Told P (acts d) d r m i
