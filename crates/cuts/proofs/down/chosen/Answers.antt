use Rattle.std.proofs.Common.{◌≡◌, ℕ, ◌/◌, ◌%◌, ◌<◌, get_or, ◌∙◌, ap₂, arith, rules}
use Rattle.laws.specs.Bits.{bit_on, bit_read}
use Rattle.cuts.proofs.down.chosen.Goals as goal

pub returns : goal.returns
returns c =
    let a = c.args in
    let small : a.i < 64 = search rules in
    let word : 0 ≡ a.i / 64 = omega arith in
    let place : a.i ≡ a.i % 64 = omega arith in
    bit_read (get_or a.choice.words 0 0) a.i ∙ ap₂ (λ (j k : ℕ). bit_on (get_or a.choice.words j 0) k) word place
