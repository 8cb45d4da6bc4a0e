use Rattle.laws.specs.Pick.{arms}
use Rattle.chip.proofs.Waiting.page_fits.Goals as goal

pub returns-then-has : goal.returns-then-has
returns-then-has c = rw (← c.pages_of.ensures) (search arms)

pub returns : goal.returns
returns c = search arms
