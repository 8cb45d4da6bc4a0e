use mathlib.Core.Path.{ap, ◌∙◌}
use Rattle.edges.specs.Falling.{level_number}
use Rattle.pins.specs.Devices.{q}
use Rattle.lists.proofs.Front.q.Goals as goal

pub returns : goal.returns
unfolding q
returns c = λ l k. c.number.ensures ∙ ap level_number c.level_of.ensures
