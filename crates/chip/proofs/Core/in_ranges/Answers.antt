use Rattle.chip.specs.Ranges.{in_ranges}
use Rattle.chip.proofs.Core.in_ranges.Goals as goal

pub returns : goal.returns
unfolding in_ranges
returns c =
    rw (
      c.flags_fit.ensures,
      c.time_fits.ensures,
      c.tied.ensures,
      c.fits.ensures,
      c.blank_fits.ensures,
    )
