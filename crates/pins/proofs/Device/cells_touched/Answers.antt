use mathlib.Core.Path.{◌≡◌, sym, ◌∙◌}
use mathlib.Core.Bool.{true, ◌&&◌}
use Rattle.laws.specs.Pick.{and_right}
use Rattle.codes.specs.Part.{Part}
use Rattle.codes.proofs.Sound.{sound_of}
use Rattle.chip.specs.Ranges.{in_ranges}
use Rattle.edges.specs.Ranges.{frame_fits}
use Rattle.pins.specs.Ranges.{pins_fit, held_fits, empty_fits, ran_fits, device_fits}
use Rattle.pins.specs.declared.Device.{Device}
use Rattle.pins.specs.Devices.{device_part}
use Rattle.chip.proofs.Touching.{latch_inside, touched_counted, touched_refused}
use Rattle.pins.proofs.Device.cells_touched.Goals as goal

-- a device inside its ranges holds a core inside its own
core_fits : (P : Part) (x : Device) → device_fits P x ≡ true → in_ranges P x.core ≡ true
unfolding device_fits
core_fits P x e =
    and_right (pins_fit x.pins && held_fits x.pins x.held && frame_fits P x.frame && empty_fits x && ran_fits x) (in_ranges P x.core) e

pub returns-then-in_ranges : goal.returns-then-in_ranges
returns-then-in_ranges c =
    let fits = sym c.in_ranges.ensures ∙ c.if-in_ranges.true in
    let x = c.args.self in
    touched_counted (device_part x) _ x.core c.touched.result fits (sound_of x.core.part)
    (latch_inside (device_part x) x.core (core_fits (device_part x) x fits)) c.touched.ensures

pub returns : goal.returns
returns c =
    touched_refused (device_part c.args.self) _ c.args.self.core
    (sym c.in_ranges.ensures ∙ c.if-in_ranges.false)
