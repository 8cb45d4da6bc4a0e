use Rattle.laws.specs.Pick.{yes_so, no_so}
use Rattle.bench.proofs.device_calls.cartvesper_device_power_up.Goals as goal

pub returns-then-lock-srwd : goal.returns-then-lock-srwd
returns-then-lock-srwd c = yes_so _ c.if-lock-srwd.true (rw (c.from.ensures, c.power_up.ensures.as_number, c.power_up.ensures.value))

pub returns : goal.returns
returns c =
    no_so _ c.if-lock-srwd.false
    (rw (c.refused.ensures, c.resting.ensures, c.unpowered.ensures, c.bad_flag.ensures))
