use Rattle.laws.specs.Pick.{arms}
use Rattle.codes.proofs.Row.let_through.Goals as goal

pub returns-then-held-self : goal.returns-then-held-self
returns-then-held-self c = search arms

pub returns-then-self : goal.returns-then-self
returns-then-self c = search arms

pub returns : goal.returns
returns c = search arms
