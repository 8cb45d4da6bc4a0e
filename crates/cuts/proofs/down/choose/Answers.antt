use Rattle.laws.specs.Pick.{arms}
use Rattle.cuts.proofs.down.choose.Goals as goal

pub returns-then-test : goal.returns-then-test
returns-then-test c = search arms

pub returns-else-test : goal.returns-else-test
returns-else-test c = search arms
