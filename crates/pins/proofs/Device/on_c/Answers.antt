use mathlib.Core.Path.{refl, ◌∙◌}
use Rattle.laws.specs.Pick.{eq_so}
use Rattle.pins.specs.Events.{on_c}
use Rattle.pins.proofs.Turns.{turned_up, turned_down}
use Rattle.pins.proofs.Device.on_c.Goals as goal

pub returns-then-self-bit : goal.returns-then-self-bit
unfolding on_c
returns-then-self-bit c = eq_so _ (c.if-self-bit.true ∙ c.bit.ensures) refl

pub returns-then-level : goal.returns-then-level
unfolding on_c
returns-then-level c = turned_up _ _ c.if-self-bit.false c.bit.ensures c.if-level.true c.raising.ensures

pub returns : goal.returns
unfolding on_c
returns c = turned_down _ _ c.if-self-bit.false c.bit.ensures c.if-level.false c.lowering.ensures
