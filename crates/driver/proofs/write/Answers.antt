use Rattle.std.proofs.Common.{length, arith}
use Rattle.codes.proofs.Parts.{longest_most}
use Rattle.chip.specs.Records.{own_part}
use Rattle.driver.proofs.Outcomes.{taken, drove, refused}
use Rattle.driver.proofs.write.Goals as goal

pub invariant_of-polls : goal.invariant_of-polls
invariant_of-polls c =
    let a = c.args in
    let t =
    taken (own_part a.core) a.core a.memory.now a.identification.now a.address (length a.bytes.now) a.interval a.limit
    c.outcome-checked.ensures c.in_default.is in
    record { some = t.limits.0; most = omega (arith, t.limits.1, longest_most a.core.part) }

pub drive-requires : goal.drive-requires
drive-requires c =
    let a = c.args in
    let t =
    taken (own_part a.core) a.core a.memory.now a.identification.now a.address (length a.bytes.now) a.interval a.limit
    c.outcome-checked.ensures c.in_default.is in
    t.inside

pub returns : goal.returns
returns c =
    let a = c.args in
    let drive = c.drive in
    drove (own_part a.core) a.core a.memory.now a.identification.now a.address a.bytes.now a.interval a.limit
    drive.result drive.new.memory drive.new.identification
    c.outcome-checked.ensures
    c.in_default.is drive.ensures

pub returns-in-Err : goal.returns-in-Err
returns-in-Err c =
    let a = c.args in
    rw c.from.ensures
    (refused (own_part a.core) a.core a.memory.now a.identification.now a.address a.bytes.now a.interval a.limit
    c.in-Err.refusal c.outcome-checked.ensures c.in-Err.is)
