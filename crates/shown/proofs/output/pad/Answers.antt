use Prim.Native.Nat.{suc, ◌-◌}
use mathlib.Core.Path.{◌≡◌, refl}
use lib.ListN.{length}
use Rattle.laws.specs.Table.{table_is, table_last}
use Rattle.shown.specs.Shown.{padded}
use native.Mathlib.Omega.{arith}
use Rattle.shown.proofs.output.pad.Goals as goal

pub returns-then-n-eq0 : goal.returns-then-n-eq0
returns-then-n-eq0 c =
    let l = c.args.out.now in
    let none : length l ≡ 0 = omega arith in
    table_is _ l (length l) 0 refl (λ i b. absurd (omega arith))

pub returns : goal.returns
returns c =
    let l = c.args.out.now in
    let more : length l ≡ suc (length l - 1) = omega arith in
    rw c.pad_byte.ensures (table_last l (padded c.args.unused) (length l - 1) 0 more)
