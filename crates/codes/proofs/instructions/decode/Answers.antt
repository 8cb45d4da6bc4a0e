use Rattle.laws.specs.Pick.{arms}
use Rattle.codes.specs.Instructions.{decode}
use Rattle.codes.proofs.instructions.decode.Goals as goal

pub returns-in-6 : goal.returns-in-6
unfolding decode
returns-in-6 c = search arms depth 16

pub returns-in-4 : goal.returns-in-4
unfolding decode
returns-in-4 c = search arms depth 16

pub returns-in-5 : goal.returns-in-5
unfolding decode
returns-in-5 c = search arms depth 16

pub returns-in-1 : goal.returns-in-1
unfolding decode
returns-in-1 c = search arms depth 16

pub returns-in-3 : goal.returns-in-3
unfolding decode
returns-in-3 c = search arms depth 16

pub returns-in-2 : goal.returns-in-2
unfolding decode
returns-in-2 c = search arms depth 16

pub returns-in_default : goal.returns-in_default
unfolding decode
returns-in_default c = rw (← c.identified.ensures) (search arms depth 16)
