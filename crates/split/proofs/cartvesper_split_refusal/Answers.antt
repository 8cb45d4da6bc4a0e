use mathlib.Core.Path.{sym}
use native.Mathlib.Omega.{arith}
use Rattle.codes.specs.Part.{part_of}
use Rattle.split.proofs.Numbers.{refusal_there, refusal_absent}
use Rattle.split.proofs.cartvesper_split_refusal.Goals as goal

pub returns-then-count-part : goal.returns-then-count-part
returns-then-count-part c =
    let a = c.args in
    let P = part_of a.chip in
    sym (refusal_absent P.size P.page a.address a.length a.part (omega arith))

pub returns : goal.returns
returns c =
    let a = c.args in
    let P = part_of a.chip in
    sym (refusal_there P.size P.page a.address a.length a.part (omega arith))
