-- The invariant: the word is laid up to i.
use Prim.Native.Nat.{◌-◌, ◌≤◌}
use mathlib.Core.Path.{◌≡◌}
use lib.ListN.{length}
use Rattle.latch.specs.Words.{full, word_laid}
use Rattle.latch.proofs.lay.copy_word.Given as goal

abbrev pub invariant-loop-i : goal.invariant-loop-i
invariant-loop-i l =
    (l.i ≤ 64) × (length l.page ≡ length l.initial.page) × (l.page ≡ word_laid l.bytes l.start full l.i l.initial.page)

abbrev pub decreases-loop-i : goal.decreases-loop-i
decreases-loop-i l =
    64 - l.i
