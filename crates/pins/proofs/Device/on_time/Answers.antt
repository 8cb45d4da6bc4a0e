use Rattle.pins.specs.Events.{on_time}
use Rattle.pins.proofs.Device.on_time.Goals as goal

pub returns : goal.returns
unfolding on_time
returns c = let t = c.timed-next.ensures in record { value = rw t.value; memory_after = t.memory_after; identification_after = t.identification_after }
