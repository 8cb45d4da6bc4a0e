use Rattle.laws.specs.Pick.{call_yes, arms}
use Rattle.chip.proofs.Waiting.value_fits.Goals as goal

pub returns-then-has : goal.returns-then-has
returns-then-has c = call_yes _ c.has.ensures c.if-has.true (rw c.writable.ensures)

pub returns : goal.returns
returns c = search arms
