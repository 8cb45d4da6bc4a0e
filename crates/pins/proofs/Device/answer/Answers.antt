use Rattle.std.proofs.Common.{refl}
use Rattle.pins.proofs.Answering.{done_so, refused_so}
use Rattle.pins.proofs.Device.answer.Goals as goal

pub returns-in-Ok : goal.returns-in-Ok
returns-in-Ok c = done_so c.args.self c.in-Ok.is refl c.done.ensures

pub returns-in-Err : goal.returns-in-Err
returns-in-Err c = refused_so c.args.next c.in-Err.is c.refused.ensures
