use Rattle.pins.specs.Ranges.{device_fits}
use Rattle.pins.proofs.Device.in_ranges.Goals as goal

pub returns : goal.returns
unfolding device_fits
returns c =
    rw (
      c.fit.ensures,
      c.held_fits.ensures,
      c.fits.ensures,
      c.empty_fits.ensures,
      c.ran_fits.ensures,
      c.in_ranges.ensures,
    )
