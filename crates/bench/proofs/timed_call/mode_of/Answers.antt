use Rattle.laws.specs.Pick.{arms}
use Rattle.bench.proofs.timed_call.mode_of.Goals as goal

pub returns-then-mode-eq3 : goal.returns-then-mode-eq3
returns-then-mode-eq3 c = search arms

pub returns : goal.returns
returns c = search arms
