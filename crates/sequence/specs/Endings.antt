-- What the endings say of n page parts, sent to an idle device whose protected block they do not touch: how many pages
-- are done, how many frames were sent, and the record at exit. c₀ is the idle record: its cycle length is that of the
-- whole run.
use Rattle.std.specs.Prelude.{ℕ, ◌+◌, ◌-◌, ◌*◌, ◌<◌, ◌≡◌}
use Rattle.chip.specs.declared.Core.{Core}
use Rattle.sequence.specs.Sequence.{Ending, all_done, timed_out, protected}
use Rattle.sequence.specs.Counts.{rounded_up}

-- the frames of a page done: WREN, WRITE, and the cycle length over the interval, rounded up, polls
abbrev pub page_frames : ℕ → Core → ℕ
page_frames interval c₀ = 2 + rounded_up c₀.cycle interval

-- all parts done; or the first one's wait used its limit and its cycle still runs. Page parts do not end in another way
abbrev pub Meaning : ℕ → ℕ → Core → Ending → ℕ → ℕ → ℕ → Core → Type 0
Meaning interval limit c₀ all_done n pages frames c =
    (pages ≡ n) × ((frames ≡ n * page_frames interval c₀) × (c.left ≡ 0))
Meaning interval limit c₀ timed_out n pages frames c =
    (pages ≡ 0) × ((frames ≡ 2 + limit) × ((limit * interval < c₀.cycle) × (c.left ≡ c₀.cycle - limit * interval)))
Meaning interval limit c₀ protected n pages frames c = ⊥
