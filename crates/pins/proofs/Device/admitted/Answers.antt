use Rattle.std.proofs.Common.{refl}
use Rattle.laws.specs.Pick.{call_yes, call_no}
use Rattle.pins.proofs.Device.admitted.Goals as goal

pub returns-then-not-lent_fits : goal.returns-then-not-lent_fits
returns-then-not-lent_fits c = call_no _ c.lent_fits.ensures c.if-not-lent_fits.true refl

pub returns : goal.returns
returns c = call_yes _ c.lent_fits.ensures c.if-not-lent_fits.false c.checked.ensures
