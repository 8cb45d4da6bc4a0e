-- The words of marks are made one by one.
use mathlib.Core.Path.{◌≡◌, refl}
use lib.ListN.{get_or}
use Rattle.std.specs.Int.Bits.{bit_and}
use Rattle.laws.specs.Marks.{and_words}
use Rattle.latch.proofs.Made.{made_table}
use Rattle.std.proofs.Common.{rules}
use Rattle.cuts.proofs.down.cut_latch.Goals as goal

pub returns : goal.returns
unfolding and_words
returns c =
    let a = c.args in
    let marks =
    made_table _ _ (λ k. bit_and (get_or a.latch.marks k 0) (get_or a.choice.words k 0)) _
    (λ i x q k. search rules) 4 c.from_fn.ensures.items in
    rw marks refl
