use Rattle.pins.specs.Events.{on_w}
use Rattle.pins.proofs.Device.on_w.Goals as goal

pub returns : goal.returns
unfolding on_w
returns c = rw c.bit-w.ensures
