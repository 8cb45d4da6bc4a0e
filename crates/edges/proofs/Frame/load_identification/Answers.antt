-- The byte and the next address are picked by one test: the code asks it once, and each side is what its calls ensure.
use Rattle.laws.specs.Pick.{pick}
use Rattle.edges.proofs.Frame.load_identification.Goals as goal

pub returns-then-picks_lock : goal.returns-then-picks_lock
unfolding pick
returns-then-picks_lock c = rw (c.with_out.ensures, ← c.picks_lock.ensures, c.if-picks_lock.true)

pub returns : goal.returns
unfolding pick
returns c =
    rw (
      c.with_address.ensures,
      c.next_address.ensures,
      c.with_out-2.ensures,
      c.cell.ensures,
      c.cell_of-at.ensures.value,
    )
    (rw (← c.picks_lock.ensures, c.if-picks_lock.false))
