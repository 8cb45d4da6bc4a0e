use mathlib.Core.Path.{sym}
use native.Mathlib.Omega.{arith}
use Rattle.codes.specs.Part.{part_of}
use Rattle.codes.proofs.Sound.{sound_of}
use Rattle.split.proofs.Parts.{placed}
use Rattle.split.proofs.Numbers.{length_there, length_absent}
use Rattle.split.proofs.Few.{few, few_inside}
use Rattle.split.proofs.cartvesper_split_length.Goals as goal

pub end-requires : goal.end-requires
end-requires c =
    let a = c.args in
    few_inside a.chip a.address a.length a.part (omega arith)

pub start-requires : goal.start-requires
start-requires c =
    let a = c.args in
    few a.chip a.address a.length a.part (omega arith)

pub overflow_sub-result : goal.overflow_sub-result
overflow_sub-result c =
    let a = c.args in
    let P = part_of a.chip in
    let p = placed P.size P.page a.address a.length (sound_of a.chip).page_some {k = a.part} (omega arith) in
    omega arith

pub returns-then-part-count : goal.returns-then-part-count
returns-then-part-count c =
    let a = c.args in
    let P = part_of a.chip in
    rw (c.end.ensures, c.start.ensures) (sym (length_there P.size P.page a.address a.length a.part (omega arith)))

pub returns : goal.returns
returns c =
    let a = c.args in
    let P = part_of a.chip in
    sym (length_absent P.size P.page a.address a.length a.part (omega arith))
