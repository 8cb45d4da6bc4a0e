use mathlib.Core.Path.{sym}
use Rattle.laws.specs.Each.{each_none, each_more}
use Rattle.latch.proofs.ranges.zeros.Goals as goal

pub loop-byte-init : goal.loop-byte-init
loop-byte-init c = sym (each_none _)

pub loop-byte-preserved : goal.loop-byte-preserved
loop-byte-preserved c = rw (each_more _ _, c.loop-byte.invariant)
