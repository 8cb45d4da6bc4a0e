use mathlib.Core.Path.{refl}
use Rattle.laws.specs.Pick.{call_yes, call_no}
use Rattle.bench.proofs.device_calls.bad_level.Goals as goal

pub returns-then-lent_fits : goal.returns-then-lent_fits
returns-then-lent_fits c = call_yes _ c.lent_fits.ensures c.if-lent_fits.true refl

pub returns : goal.returns
returns c = call_no _ c.lent_fits.ensures c.if-lent_fits.false refl
