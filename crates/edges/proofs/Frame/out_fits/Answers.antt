use Rattle.laws.specs.Pick.{ne_so, arms}
use Rattle.edges.proofs.Frame.out_fits.Goals as goal

pub returns-then-self-eq0 : goal.returns-then-self-eq0
returns-then-self-eq0 c = search arms

pub returns : goal.returns
returns c = ne_so _ c.if-self-eq0.false (rw c.outputs.ensures)
