-- What is below `end` less what is below `start`; powers of two rise with their exponents.
use Prim.Native.Nat.{◌-◌, ◌^◌, ◌≤◌, min}
use native.Mathlib.Omega.{arith}
use lib.Pow.{pow_mono}
use Rattle.latch.proofs.words.run_word.Goals as goal

pub returns-then-end-start : goal.returns-then-end-start
returns-then-end-start c =
    let a = c.args in
    let rise : 2 ^ min 64 (a.end - a.first) ≤ 2 ^ min 64 (a.start - a.first) = pow_mono (omega arith) in
    omega (arith, rise)

pub overflow_sub-result : goal.overflow_sub-result
overflow_sub-result c =
    let a = c.args in
    let rise : 2 ^ min 64 (a.start - a.first) ≤ 2 ^ min 64 (a.end - a.first) = pow_mono (omega arith) in
    omega (arith, rise, c.low_ones.ensures, c.low_ones-2.ensures)
