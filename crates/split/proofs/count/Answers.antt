-- The four returns by the number of parts as `proofs/Parts` has it; no arm is opened here.
use Prim.Native.Nat.{◌+◌, ◌≤◌}
use mathlib.Core.Path.{sym}
use native.Mathlib.Omega.{arith}
use Rattle.codes.specs.Part.{part_of}
use Rattle.split.proofs.Parts.{count_outside, count_none}
use Rattle.split.proofs.Numbers.{count_formula}
use Rattle.split.proofs.count.Goals as goal

pub returns-then-length-size : goal.returns-then-length-size
returns-then-length-size c =
    let a = c.args in
    let P = part_of a.chip in
    sym (count_outside P.size P.page a.address a.length (omega (arith, c.size-size.ensures.value)))

pub returns-then-address-size : goal.returns-then-address-size
returns-then-address-size c =
    let a = c.args in
    let P = part_of a.chip in
    sym (count_outside P.size P.page a.address a.length (omega (arith, c.size-size.ensures.value)))

pub returns-then-length-eq0 : goal.returns-then-length-eq0
returns-then-length-eq0 c =
    let a = c.args in
    let P = part_of a.chip in
    sym (count_none P.size P.page a.address a.length c.if-length-eq0.true)

pub returns : goal.returns
returns c =
    let a = c.args in
    let P = part_of a.chip in
    let e = c.size-size.ensures.value in
    let inside : a.address + a.length ≤ P.size = omega (arith, e) in
    rw (c.page_number.ensures, c.page_number-2.ensures)
    (sym (count_formula P.size P.page a.address a.length inside (omega arith)))
