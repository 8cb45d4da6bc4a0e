-- The device record: what its fields say, and every way in which one is made of another. But for a list's own parts
-- (lists/Ways), no record is written out anywhere else.
use Rattle.std.specs.Prelude.{ℕ, Bool, not, ◌&&◌}
use Rattle.codes.specs.Part.{Part}
use Rattle.codes.specs.Status.{bit, on}
use Rattle.chip.specs.Records.{own_part}
use Rattle.chip.specs.declared.Core.{Core}
use Rattle.edges.specs.declared.Level.{Level}
use Rattle.edges.specs.Frames.{no_frame}
use Rattle.edges.specs.Falling.{level_shown}
use Rattle.pins.specs.declared.Pins.{Pins}
use Rattle.edges.specs.declared.Frame.{Frame}
use Rattle.pins.specs.declared.Device.{Device}

-- ---- the pins

-- S, C, D, W and HOLD, each at its level
abbrev pub pins_at : ℕ → ℕ → ℕ → ℕ → ℕ → Pins
pins_at s c d w hold = record { s = s; c = c; d = d; w = w; hold = hold }

abbrev pub with_s : ℕ → Pins → Pins
with_s v p = record { s = v; c = p.c; d = p.d; w = p.w; hold = p.hold }

abbrev pub with_c : ℕ → Pins → Pins
with_c v p = record { s = p.s; c = v; d = p.d; w = p.w; hold = p.hold }

abbrev pub with_d : ℕ → Pins → Pins
with_d v p = record { s = p.s; c = p.c; d = v; w = p.w; hold = p.hold }

abbrev pub with_w : ℕ → Pins → Pins
with_w v p = record { s = p.s; c = p.c; d = p.d; w = v; hold = p.hold }

abbrev pub with_hold : ℕ → Pins → Pins
with_hold v p = record { s = p.s; c = p.c; d = p.d; w = p.w; hold = v }

-- power-up: S, W and HOLD high, C and D low
abbrev pub resting_pins : Pins
resting_pins = pins_at 1 0 0 1 1

-- ---- the device

-- the row of its part
abbrev pub device_part : Device → Part
device_part x = own_part x.core

abbrev pub with_pins : Pins → Device → Device
with_pins p x = record { pins = p; held = x.held; frame = x.frame; core = x.core }

-- held as a number, and as a test says
abbrev pub with_held_at : ℕ → Device → Device
with_held_at n x = record { pins = x.pins; held = n; frame = x.frame; core = x.core }

abbrev pub with_held : Bool → Device → Device
with_held b x = with_held_at (bit b) x

abbrev pub with_frame : Frame → Device → Device
with_frame f x = record { pins = x.pins; held = x.held; frame = f; core = x.core }

abbrev pub with_core : Core → Device → Device
with_core c x = record { pins = x.pins; held = x.held; frame = x.frame; core = c }

-- not selected, not held, an empty frame
abbrev pub resting : Core → Device
resting c = record { pins = resting_pins; held = 0; frame = no_frame; core = c }

-- selected means S low; an edge is counted when the device is selected and not held
abbrev pub selected : Device → Bool
selected x = not (on x.pins.s)

abbrev pub counting : Device → Bool
counting x = selected x && not (on x.held)

-- ---- what Q shows

unfoldable pub q : Device → Level
q x = level_shown x.pins.s x.held x.frame.shown x.frame.out
