use Prim.Native.Nat.{◌*◌}
use Rattle.std.specs.Int.Bits.{bit_or}
use Rattle.latch.specs.Words.{run_word, run_marks}
use Rattle.latch.proofs.Made.{made_table}
use Rattle.std.proofs.Common.{rules}
use Rattle.latch.proofs.words.run_marks.Goals as goal

pub returns : goal.returns
unfolding run_marks
returns c =
    let a = c.args in
    made_table _ _ (λ k. bit_or (run_word (k * 64) a.start a.end) (run_word (k * 64) 0 a.rest)) _
    (λ i x q k. search rules) 4 c.from_fn.ensures.items
