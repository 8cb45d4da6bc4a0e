use Rattle.pins.specs.Devices.{q}
use Rattle.pins.proofs.Device.shows.Goals as goal

pub returns : goal.returns
unfolding q
returns c = c.level_of.ensures
