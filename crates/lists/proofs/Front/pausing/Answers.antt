use mathlib.Core.Path.{refl}
use Rattle.laws.specs.Pick.{eq_so, ne_so}
use Rattle.pins.specs.Events.{on_hold}
use Rattle.lists.proofs.Front.pausing.Goals as goal

pub returns-then-self-eq1 : goal.returns-then-self-eq1
unfolding on_hold
returns-then-self-eq1 c = λ m l k. eq_so _ c.if-self-eq1.true (rw c.bit-hold.ensures refl)

pub returns : goal.returns
unfolding on_hold
returns c = λ m l k. ne_so _ c.if-self-eq1.false (rw (c.bit-held.ensures, c.bit-hold.ensures) refl)
