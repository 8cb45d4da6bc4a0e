use Rattle.pins.specs.Events.{on_d}
use Rattle.pins.proofs.Device.on_d.Goals as goal

pub returns : goal.returns
unfolding on_d
returns c = rw c.bit-d.ensures
