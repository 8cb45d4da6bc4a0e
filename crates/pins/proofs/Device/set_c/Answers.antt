use mathlib.Core.Path.{sym, ◌∙◌}
use Rattle.chip.specs.Lents.{lent}
use Rattle.pins.specs.Devices.{device_part}
use Rattle.pins.proofs.Answering.{lent_taken, lent_untaken}
use Rattle.pins.proofs.Device.set_c.Goals as goal

pub returns-in-Ok : goal.returns-in-Ok
returns-in-Ok c =
    let a = c.args in
    let o = sym c.admitted.ensures ∙ c.in-Ok.is in
    lent_taken (device_part a.self) a.self (lent a.memory.now a.identification.now) o c.on_c.ensures c.done.ensures

pub returns-in-Err : goal.returns-in-Err
returns-in-Err c =
    let a = c.args in
    let o = sym c.admitted.ensures ∙ c.in-Err.is in
    lent_untaken (device_part a.self) a.self (lent a.memory.now a.identification.now) _ o c.refused.ensures
