use Rattle.laws.specs.Pick.{pick}
use Rattle.codes.proofs.Row.lock.Goals as goal

pub returns : goal.returns
unfolding pick
returns c = rw (c.sets_lock.ensures, c.write_bits_of.ensures)
