use Rattle.laws.specs.Pick.{arms}
use Rattle.pins.proofs.Pins.held_fits.Goals as goal

pub returns-then-self-eq1 : goal.returns-then-self-eq1
returns-then-self-eq1 c = search arms

pub returns-then-self-eq1-2 : goal.returns-then-self-eq1-2
returns-then-self-eq1-2 c = search arms

pub returns : goal.returns
returns c = search arms
