use Rattle.laws.specs.Pick.{arms}
use Rattle.shown.proofs.leading.read_undriven.Goals as goal

pub returns-then-ran : goal.returns-then-ran
returns-then-ran c = search arms

pub returns : goal.returns
returns c = rw (← c.head_of.ensures.value, ← c.from.ensures) (search arms)
