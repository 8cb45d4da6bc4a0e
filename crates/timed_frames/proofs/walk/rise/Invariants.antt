-- The invariant: the rest fits from the last position on exactly where all do.
use mathlib.Core.Path.{◌≡◌}
use lib.ListN.{drop}
use Rattle.timed_frames.specs.Schedules.{rising}
use Rattle.timed_frames.proofs.walk.rise.Given as goal

abbrev pub invariant-loop-place : goal.invariant-loop-place
invariant-loop-place l =
    rising l.low l.most (drop l.place-index l.positions) ≡ rising 0 l.most l.positions
