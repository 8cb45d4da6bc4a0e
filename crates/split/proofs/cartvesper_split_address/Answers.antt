use mathlib.Core.Path.{sym, ◌∙◌}
use native.Mathlib.Omega.{arith}
use Rattle.codes.specs.Part.{part_of}
use Rattle.split.proofs.Numbers.{address_there, address_absent}
use Rattle.split.proofs.Few.{few}
use Rattle.split.proofs.cartvesper_split_address.Goals as goal

pub start-requires : goal.start-requires
start-requires c =
    let a = c.args in
    few a.chip a.address a.length a.part (omega arith)

pub returns-then-part-count : goal.returns-then-part-count
returns-then-part-count c =
    let a = c.args in
    let P = part_of a.chip in
    c.start.ensures ∙ sym (address_there P.size P.page a.address a.length a.part (omega arith))

pub returns : goal.returns
returns c =
    let a = c.args in
    let P = part_of a.chip in
    sym (address_absent P.size P.page a.address a.length a.part (omega arith))
