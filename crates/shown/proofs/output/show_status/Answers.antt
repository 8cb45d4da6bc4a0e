use mathlib.Core.Path.{◌≡◌}
use lib.ListN.{length, length-replicate}
use Rattle.laws.specs.Table.{table_is}
use Rattle.shown.proofs.Showing.{status_bytes}
use native.Mathlib.Omega.{arith}
use Rattle.shown.proofs.output.show_status.Goals as goal

pub returns-then-out-gt0 : goal.returns-then-out-gt0
returns-then-out-gt0 c = rw c.fill.ensures (status_bytes _ _)

pub returns-else-out-gt0 : goal.returns-else-out-gt0
returns-else-out-gt0 c =
    let none : length c.args.out.now ≡ 0 = omega arith in
    rw c.fill.ensures (table_is _ _ _ 0 (length-replicate _ _) (λ i b. absurd (omega arith)))
