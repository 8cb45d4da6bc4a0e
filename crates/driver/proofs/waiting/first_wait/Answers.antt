use Rattle.std.proofs.Common.{◌-◌, refl, arith}
use Rattle.chip.specs.Records.{own_part}
use Rattle.frames.specs.Play.{FrameBench, frame_bench}
use Rattle.sequence.proofs.Joined.{first_wait_law}
use Rattle.sequence.proofs.Waits.{sent_most}
use Rattle.driver.proofs.Told.{told}
use Rattle.driver.proofs.waiting.first_wait.Goals as goal

pub and_sent-requires : goal.and_sent-requires
and_sent-requires c =
    let a = c.args in
    let d : FrameBench = frame_bench a.core a.memory.now a.identification.now in
    let polls = c.poll_on.ensures.1.1.0 in
    omega (arith, polls, sent_most (own_part a.core) a.polls.interval (a.polls.limit - 1) d, a.polls.most)

pub returns : goal.returns
returns c =
    let a = c.args in
    let wait = c.poll_on in
    let d : FrameBench = frame_bench a.core a.memory.now a.identification.now in
    told (own_part a.core) _ d _ d 1 (first_wait_law (own_part a.core) a.polls.interval a.polls.limit d d refl)
    wait.result c.and_sent.result wait.new.memory wait.new.identification wait.ensures c.and_sent.ensures
