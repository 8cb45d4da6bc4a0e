use Rattle.pins.specs.Devices.{device_part}
use Rattle.pins.proofs.Answering.{answered}
use Rattle.pins.proofs.Device.set_s.Goals as goal

pub returns : goal.returns
returns c = answered (device_part c.args.self) c.args.self c.checked.ensures c.on_s.ensures c.answer.ensures
