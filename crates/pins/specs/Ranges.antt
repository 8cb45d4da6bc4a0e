-- The ranges and ties that documents 01 and 02 list for the device, and no more. A record outside them gets refusal 2.
use Rattle.std.specs.Prelude.{ℕ, ◌+◌, Bool, not, ◌&&◌, ◌||◌, eqb, leb}
use Rattle.laws.specs.Pick.{pick}
use Rattle.codes.specs.Part.{Part}
use Rattle.codes.specs.Status.{on}
use Rattle.chip.specs.Records.{running}
use Rattle.chip.specs.Ranges.{in_ranges}
use Rattle.pins.specs.declared.Pins.{Pins}
use Rattle.pins.specs.declared.Device.{Device}
use Rattle.edges.specs.Ranges.{frame_fits}
use Rattle.pins.specs.Devices.{selected}

-- levels are 0 or 1
abbrev pub pins_fit : Pins → Bool
pins_fit p = leb p.s 1 && leb p.c 1 && leb p.d 1 && leb p.w 1 && leb p.hold 1

-- not selected means not held; selected with C low, held is "HOLD is low", so that exactly one of the two is 1; with C
-- high it is 0 or 1
abbrev pub held_fits : Pins → ℕ → Bool
held_fits p held = pick (on p.s) (eqb held 0) (pick (on p.c) (leb held 1) (eqb (held + p.hold) 1))

-- not selected means an empty frame part: before its first whole byte a frame's code is 00h, which is no instruction,
-- so every other field is 0
abbrev pub empty_fits : Device → Bool
empty_fits x = selected x || eqb x.frame.taken 0 && eqb x.frame.bits 0

-- if a frame is past its eighth edge and a cycle runs now, one ran at that edge
abbrev pub ran_fits : Device → Bool
ran_fits x = eqb x.frame.taken 0 || not (running x.core) || on x.frame.ran

unfoldable pub device_fits : Part → Device → Bool
device_fits P x =
    pins_fit x.pins && held_fits x.pins x.held && frame_fits P x.frame && empty_fits x && ran_fits x
    && in_ranges P x.core
