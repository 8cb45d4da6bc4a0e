-- The invariant: `fits` is the test of the cells below i.
use Prim.Native.Nat.{◌≤◌, ◌-◌}
use mathlib.Core.Path.{◌≡◌}
use Rattle.latch.specs.Words.{word_fits}
use Rattle.latch.proofs.ranges.bits_fit.Given as goal

abbrev pub invariant-loop-i : goal.invariant-loop-i
invariant-loop-i l =
    (l.i ≤ 64) × (l.fits ≡ word_fits l.may l.bytes l.start l.word l.i)

abbrev pub decreases-loop-i : goal.decreases-loop-i
decreases-loop-i l =
    64 - l.i
