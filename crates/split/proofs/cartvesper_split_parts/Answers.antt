use mathlib.Core.Path.{sym, ◌∙◌}
use native.Mathlib.Omega.{arith}
use Rattle.codes.specs.Part.{part_of}
use Rattle.split.proofs.Numbers.{parts_there, parts_absent}
use Rattle.split.proofs.cartvesper_split_parts.Goals as goal

pub returns-then-part-parts : goal.returns-then-part-parts
returns-then-part-parts c =
    let a = c.args in
    let P = part_of a.chip in
    c.count-parts.ensures ∙ sym (parts_there P.size P.page a.address a.length a.part (omega arith))

pub returns : goal.returns
returns c =
    let a = c.args in
    let P = part_of a.chip in
    sym (parts_absent P.size P.page a.address a.length a.part (omega arith))
