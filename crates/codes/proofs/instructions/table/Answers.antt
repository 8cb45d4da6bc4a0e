use Rattle.laws.specs.Pick.{pick}
use Rattle.codes.proofs.instructions.table.Goals as goal

pub returns-in-Wrid : goal.returns-in-Wrid
unfolding pick
returns-in-Wrid c = rw (c.in-Wrid.is, ← c.write_bits_of-in-Wrid.ensures) c.known-in-Wrid.ensures
