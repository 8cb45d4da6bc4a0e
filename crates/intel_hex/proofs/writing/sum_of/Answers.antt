-- The chain gives std's sum, which is the total.
use Rattle.std.proofs.Common.{◌≡◌, sym, ◌∙◌, rules, arith}
use Rattle.std.specs.Prelude.{sum_by}
use Rattle.intel_hex.proofs.Sums.{total_is, total_most}
use Rattle.intel_hex.proofs.writing.sum_of.Goals as goal

pub returns : goal.returns
returns c =
    let bytes = c.args.bytes.now in
    let e : c.sum.result ≡ sum_by (λ b. b) bytes = search rules in
    let t = total_is bytes in
    (e ∙ sym t, omega (arith, e, t, total_most bytes (λ i. omega (arith, c.type_inv.bytes i))))
