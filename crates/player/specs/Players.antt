-- The player of a trace text: what a text starts from, and the ranges.
use Rattle.std.specs.Prelude.{ℕ, Bool, ◌&&◌, ◌||◌, eqb, leb}
use Rattle.codes.specs.Part.{part_of}
use Rattle.chip.specs.Power.{delivered, delivered_memory, delivered_identification}
use Rattle.pins.specs.Devices.{device_part, resting}
use Rattle.pins.specs.Ranges.{device_fits}
use Rattle.pins.specs.Answers.{PinBench, pin_bench}
use Rattle.lines.specs.declared.Line.{Line}
use Rattle.lines.specs.Reading.{fresh, line_fits}
use Rattle.player.specs.declared.Player.{Player}

-- ---- what a text starts from, by a part's number; document 01's trace text starts from 0, the M95512

-- the bench that a text is played on: record, memory and identification page as delivered
abbrev pub start_bench : ℕ → PinBench
start_bench n =
    pin_bench (resting (delivered n)) (delivered_memory (part_of n)) (delivered_identification (part_of n))

abbrev pub player_of : ℕ → Line → PinBench → Player
player_of headed l b = record { headed = headed; line = l; device = b.device }

-- before the first byte
abbrev pub start_player : ℕ → Player
start_player n = player_of 0 (fresh 0) (start_bench n)

-- ---- the ranges

-- no byte is taken before the header is out
abbrev pub head_fits : Player → Bool
head_fits p = leb p.headed 1 && (eqb p.headed 1 || eqb p.line.whole 0 && eqb p.line.place 0)

-- a player outside these ranges gets 2
unfoldable pub player_fits : Player → Bool
player_fits p = head_fits p && line_fits p.line && device_fits (device_part p.device) p.device
