-- A number of one of the two kinds says its event; what D moves is written out, and an edge is `edge`.
use Rattle.chip.specs.Lents.{lent}
use Rattle.pins.specs.Events.{on_d}
use Rattle.lists.proofs.Moves.{data_number, clock_number}
use Rattle.lists.proofs.Front.move_for.Goals as goal

pub returns-then-kind-eq2 : goal.returns-then-kind-eq2
unfolding on_d
returns-then-kind-eq2 c = λ P l k m d q no. rw (data_number c.args.number c.if-kind-eq2.true, c.bit.ensures)

pub returns-then-kind-eq1 : goal.returns-then-kind-eq1
returns-then-kind-eq1 c = λ P l k m d q no. rw (clock_number c.args.number c.if-kind-eq1.true, c.edge.ensures P (lent m d) l k q no)
