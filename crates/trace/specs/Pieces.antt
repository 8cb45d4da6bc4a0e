-- What the calls for a piece of the text leave. No public promise speaks of it.
use Rattle.std.specs.Prelude.{ℕ, ◌+◌, ◌*◌, ◌≤◌, true, List, ◌≡◌, length}
use Rattle.pins.specs.declared.Device.{Device}
use Rattle.pins.specs.Devices.{device_part}
use Rattle.pins.specs.Answers.{PinBench}
use Rattle.pins.specs.Ranges.{device_fits}
use Rattle.lines.specs.declared.Line.{Line}
use Rattle.lines.specs.Reading.{read, line_fits}
use Rattle.printing.specs.Put.{put}
use Rattle.trace.specs.Chunks.{played_lines, shown_lines}
use Rattle.trace.specs.declared.chunks.Placed.{Placed}

-- b is the bench after n lines, its device inside the ranges; x is what they put out, into d from an index on
abbrev pub Shows : PinBench → List ℕ → List ℕ → ℕ → ℕ → Device → List ℕ → List ℕ → List ℕ → ℕ → Type 0
Shows b x d at n device m i out end =
    ((device ≡ b.device) × (device_fits (device_part device) device ≡ true))
    × ((m ≡ b.memory) × ((i ≡ b.identification)
    × ((out ≡ put d at x) × ((end ≡ at + length x) × (end ≤ at + 10 * n)))))

-- of the text x, from the line l in hand and the bench b on
abbrev pub Took : Line → PinBench → List ℕ → List ℕ → ℕ → Placed → List ℕ → List ℕ → List ℕ → Type 0
Took l b x d at r m i out =
    ((r.line ≡ read l x) × (line_fits r.line ≡ true))
    × Shows (played_lines l b x) (shown_lines l b x) d at (length x) r.device m i out r.at
