use Rattle.laws.specs.Pick.{arms}
use Rattle.edges.proofs.Frame.code_fits.Goals as goal

pub returns-then-self-eq0 : goal.returns-then-self-eq0
returns-then-self-eq0 c = search arms

pub returns : goal.returns
returns c = search arms
