use mathlib.Core.Path.{refl, ◌∙◌}
use Rattle.laws.specs.Pick.{eq_so}
use Rattle.pins.specs.Events.{on_s}
use Rattle.pins.proofs.Turns.{turned_up, turned_down}
use Rattle.pins.proofs.Device.on_s.Goals as goal

pub returns-then-self-bit : goal.returns-then-self-bit
unfolding on_s
returns-then-self-bit c = eq_so _ (c.if-self-bit.true ∙ c.bit.ensures) refl

pub returns-then-level : goal.returns-then-level
unfolding on_s
returns-then-level c = turned_up _ _ c.if-self-bit.false c.bit.ensures c.if-level.true c.deselecting.ensures

pub returns : goal.returns
unfolding on_s
returns c = turned_down _ _ c.if-self-bit.false c.bit.ensures c.if-level.false c.selecting.ensures
