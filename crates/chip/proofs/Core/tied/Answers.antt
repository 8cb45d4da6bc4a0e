use Rattle.laws.specs.Pick.{arms}
use Rattle.chip.proofs.Core.tied.Goals as goal

pub returns-then-self-gt0 : goal.returns-then-self-gt0
returns-then-self-gt0 c = rw (c.one_waits.ensures, c.wrdi_in_cycle.ensures) (search arms)

pub returns : goal.returns
returns c = search arms
