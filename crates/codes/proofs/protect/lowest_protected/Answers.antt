use Rattle.laws.specs.Pick.{arms}
use Rattle.codes.proofs.protect.lowest_protected.Goals as goal

pub returns-then-bp0 : goal.returns-then-bp0
returns-then-bp0 c = search arms

pub returns-then-bp1 : goal.returns-then-bp1
returns-then-bp1 c = rw (← c.size_of-size.ensures.value) (search arms)

pub returns-then-bp0-2 : goal.returns-then-bp0-2
returns-then-bp0-2 c = rw (← c.size_of-size.ensures.value) (search arms)

pub returns : goal.returns
returns c = rw (← c.size_of-size.ensures.value) (search arms)
