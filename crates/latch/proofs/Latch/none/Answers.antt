use mathlib.Core.Path.{refl}
use Rattle.latch.specs.Latches.{zeros}
use Rattle.latch.proofs.Latch.none.Goals as goal

pub returns : goal.returns
unfolding zeros
returns c = refl
