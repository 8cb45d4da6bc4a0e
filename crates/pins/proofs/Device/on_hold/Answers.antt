use Rattle.laws.specs.Pick.{eq_so, ne_so}
use Rattle.pins.specs.Events.{on_hold}
use Rattle.pins.proofs.Device.on_hold.Goals as goal

pub returns-then-self-eq1 : goal.returns-then-self-eq1
unfolding on_hold
returns-then-self-eq1 c = eq_so _ c.if-self-eq1.true (rw c.bit-hold.ensures)

pub returns : goal.returns
unfolding on_hold
returns c = ne_so _ c.if-self-eq1.false (rw (c.renewed.ensures, c.bit-hold.ensures))
