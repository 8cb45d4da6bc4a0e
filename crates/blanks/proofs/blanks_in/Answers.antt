use Prim.Native.Nat.{◌+◌, ◌-◌, ◌*◌, ◌≤◌, ◌<◌}
use mathlib.Core.Path.{◌≡◌, refl}
use native.Mathlib.Nat.{add-sub_cancel_left}
use lib.ListN.{length, take, drop}
use Rattle.std.proofs.Common.{rules}
use Rattle.laws.specs.Pick.{le_so, gt_so}
use Rattle.codes.specs.Part.{part_of}
use Rattle.blanks.specs.Blanks.{blanks}
use Rattle.blanks.proofs.blanks_in.Goals as goal

pub returns-in-Some : goal.returns-in-Some
returns-in-Some c =
    let a = c.args in
    let P = part_of a.part in
    let m = a.memory.now in
    let e = c.page_of-cells.ensures.value in
    let start = a.page * c.page_of-cells.result in
    let end : start + c.page_of-cells.result ≤ length m = search rules in
    let lent : c.in-Some.cells.now ≡ take (start + c.page_of-cells.result - start) (drop start m) = search rules in
    let fits : a.page * P.page + P.page ≤ length m = rw (← e) end in
    le_so _ fits (rw (c.scan.ensures, lent, e, add-sub_cancel_left (a.page * P.page) P.page) refl)

pub returns-in-None : goal.returns-in-None
returns-in-None c =
    let a = c.args in
    let P = part_of a.part in
    let e = c.page_of-cells.ensures.value in
    let short : length a.memory.now < a.page * c.page_of-cells.result + c.page_of-cells.result = search rules in
    let lacks : length a.memory.now < a.page * P.page + P.page = rw (← e) short in
    gt_so (blanks (take P.page (drop (a.page * P.page) a.memory.now))) lacks refl
