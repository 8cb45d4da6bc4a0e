-- The invariant: the first k words are laid.
use mathlib.Core.Path.{◌≡◌}
use lib.ListN.{length}
use Rattle.latch.proofs.WordStores.{words_laid}
use Rattle.latch.proofs.lay.store_page.Given as goal

abbrev pub invariant-loop-k : goal.invariant-loop-k
invariant-loop-k l =
    (length l.page ≡ length l.initial.page) × (l.page ≡ words_laid l.latch.bytes l.latch.marks l.k l.initial.page)
