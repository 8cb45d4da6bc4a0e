-- What is lent of the memory is as long as was asked.
use Rattle.std.proofs.Common.{sym, arith, length-take-le}
use Rattle.traces.proofs.refused.Goals as goal

pub slice_bounds-feed-end : goal.slice_bounds-feed-end
slice_bounds-feed-end g c =
    sym (length-take-le c.min-m.result c.zeros-memory.result
    (omega (arith, c.min-m.ensures, c.zeros-memory.ensures.len)))
