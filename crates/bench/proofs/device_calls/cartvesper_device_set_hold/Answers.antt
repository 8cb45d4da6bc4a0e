use Rattle.laws.specs.Pick.{le_so, gt_so}
use Rattle.bench.proofs.device_calls.cartvesper_device_set_hold.Goals as goal

pub returns-then-level-le1 : goal.returns-then-level-le1
returns-then-level-le1 c = le_so _ c.if-level-le1.true (rw (c.from.ensures, c.set_hold.ensures.as_number, c.set_hold.ensures.value))

pub returns : goal.returns
returns c = gt_so _ c.if-level-le1.false c.refused.ensures
