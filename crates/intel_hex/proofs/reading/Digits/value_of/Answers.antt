-- What stands in the table at the byte.
use mathlib.Core.Path.{◌≡◌, ap, ◌∙◌}
use mathlib.Core.List.{List}
use Prim.Native.Nat.{ℕ, ◌<◌}
use native.Mathlib.Omega.{arith}
use lib.ListN.{get_or}
use Rattle.laws.specs.Table.{table_at}
use Rattle.intel_hex.specs.Reading.{digit}
use Rattle.intel_hex.proofs.Digits.{digit_most}
use Rattle.intel_hex.proofs.reading.Digits.value_of.Goals as goal

pub returns : goal.returns
returns c =
    let b = c.args.byte in
    let low : b < 256 = omega arith in
    let e : get_or c.args.self.now.values b 0 ≡ digit b = ap (λ (l : List ℕ). get_or l b 0) c.args.self.now.all ∙ table_at digit 256 b 0 low in
    rw c.from.ensures (e, omega (arith, e, digit_most b low))
