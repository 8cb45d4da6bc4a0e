use Rattle.laws.specs.Pick.{arms}
use Rattle.codes.specs.Verdicts.{verdict_by}
use Rattle.codes.proofs.Row.judge.Goals as goal

pub returns-then-at-lt8 : goal.returns-then-at-lt8
unfolding verdict_by
returns-then-at-lt8 c = search arms depth 12

pub returns-then-self-at : goal.returns-then-self-at
unfolding verdict_by
returns-then-self-at c = search arms depth 12

pub returns-then-self-at-2 : goal.returns-then-self-at-2
unfolding verdict_by
returns-then-self-at-2 c = search arms depth 12

pub returns-then-stops : goal.returns-then-stops
unfolding verdict_by
returns-then-stops c = search arms depth 12

pub returns-then-stops-2 : goal.returns-then-stops-2
unfolding verdict_by
returns-then-stops-2 c = search arms depth 12

pub returns : goal.returns
unfolding verdict_by
returns c = search arms depth 12
