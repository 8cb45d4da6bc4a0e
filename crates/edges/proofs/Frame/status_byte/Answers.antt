use Rattle.laws.specs.Pick.{eq_so, arms}
use Rattle.edges.proofs.Frame.status_byte.Goals as goal

pub returns-then-before-eq1 : goal.returns-then-before-eq1
returns-then-before-eq1 c = eq_so _ c.if-before-eq1.true c.with_value.ensures

pub returns : goal.returns
returns c = search arms
