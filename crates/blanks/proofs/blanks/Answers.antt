use Prim.Native.Nat.{◌<◌}
use mathlib.Core.Path.{refl}
use native.Mathlib.Omega.{arith}
use lib.ListN.{length}
use Rattle.laws.specs.Pick.{le_so, gt_so}
use Rattle.codes.specs.Part.{room_cells}
use Rattle.blanks.specs.Blanks.{blanks}
use Rattle.blanks.proofs.blanks.Goals as goal

pub returns-then-memory-le-LARGE_SIZE : goal.returns-then-memory-le-LARGE_SIZE
returns-then-memory-le-LARGE_SIZE c = le_so _ c.if-memory-le-LARGE_SIZE.true c.scan.ensures

pub returns : goal.returns
returns c =
    let m = c.args.memory.now in
    let lacks : room_cells < length m = omega arith in
    gt_so (blanks m) lacks refl
