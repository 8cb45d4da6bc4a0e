-- The edge as the code has it is the definition's, and an atom to omega.
use Prim.Native.Nat.{◌+◌}
use native.Mathlib.Omega.{arith}
use Rattle.codes.specs.Part.{part_of}
use Rattle.split.specs.Split.{end}
use Rattle.split.proofs.Edges.{edge_as}
use Rattle.split.proofs.end.Goals as goal

pub returns : goal.returns
unfolding end
returns c =
    let a = c.args in
    omega (arith, edge_as (part_of a.chip).page a.address (a.part + 1) c.page_number.ensures c.page.ensures.value)
