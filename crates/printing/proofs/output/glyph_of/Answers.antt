-- By the side of the choice that each test takes.
use Rattle.laws.specs.Pick.{arms}
use Rattle.printing.proofs.output.glyph_of.Goals as goal

pub returns-in-0 : goal.returns-in-0
returns-in-0 c = search arms

pub returns-in-1 : goal.returns-in-1
returns-in-1 c = search arms

pub returns-in_default : goal.returns-in_default
returns-in_default c = search arms
