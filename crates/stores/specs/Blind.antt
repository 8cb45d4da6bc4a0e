-- Equal but for the number of blank cells: devices, benches of both models, and what a text's player hands back. Of
-- records `EqualBut` says it (chip/Blanks).
use Rattle.std.specs.Prelude.{◌≡◌, ℕ, ◌≤◌}
use Rattle.codes.specs.Part.{Part}
use Rattle.chip.specs.Records.{with_blank}
use Rattle.chip.specs.Blanks.{EqualBut}
use Rattle.chip.specs.declared.Core.{Core}
use Rattle.frames.specs.Play.{FrameBench}
use Rattle.pins.specs.Devices.{with_core}
use Rattle.pins.specs.Answers.{PinBench}
use Rattle.pins.specs.declared.Device.{Device}
use Rattle.lines.specs.declared.Line.{Line}
use Rattle.player.specs.declared.Player.{Player}
use Rattle.trace.specs.declared.Fed.{Fed}

-- two records, each with a number inside its range, that are equal but for it
pub record Alike (P : Part) (c d : Core) : Type 0 where
  pub same : EqualBut c d
  pub first : c.blank ≤ P.size
  pub second : d.blank ≤ P.size

-- a device with the number 0
abbrev pub unnumbered : Device → Device
unnumbered x = with_core (with_blank 0 x.core) x

abbrev pub DeviceEqualBut : Device → Device → Type 0
DeviceEqualBut x y = unnumbered x ≡ unnumbered y

pub record DeviceAlike (P : Part) (x y : Device) : Type 0 where
  pub same : DeviceEqualBut x y
  pub first : x.core.blank ≤ P.size
  pub second : y.core.blank ≤ P.size

pub record FrameBenchEqualBut (b d : FrameBench) : Type 0 where
  pub core : EqualBut b.core d.core
  pub memory : b.memory ≡ d.memory
  pub identification : b.identification ≡ d.identification

pub record PinBenchEqualBut (b d : PinBench) : Type 0 where
  pub device : DeviceEqualBut b.device d.device
  pub memory : b.memory ≡ d.memory
  pub identification : b.identification ≡ d.identification

-- a player with a device in it
abbrev pub player_with : ℕ → Line → Device → Player
player_with headed l x = record { headed = headed; line = l; device = x }

-- what two chunks, or two ends of a text, hand back
pub record FedEqualBut (r s : Fed) : Type 0 where
  pub answer : r.answer ≡ s.answer
  pub headed : r.player.headed ≡ s.player.headed
  pub line : r.player.line ≡ s.player.line
  pub device : DeviceEqualBut r.player.device s.player.device
  pub written : r.written ≡ s.written
